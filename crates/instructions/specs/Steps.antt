-- A board with its port: one step, and a run of at most so many instructions.
use Rattle.std.specs.Prelude.{ℕ, zero, suc, ◌+◌, cond, List, [], ◌∷◌, ◌++◌, length, take as first, ℤ, Some, None, Ok, Err, Option, Result, nat_lt, slice_index_or}
use Rattle.ports.specs.Calls.{take_answer, take_after, set_answer, set_after}
use Rattle.ports.specs.Channels.{Meaning}
use Rattle.ports.specs.Events.{Event, took, set_to}
use Rattle.instructions.specs.declared.answers.Fault.{Fault}
use Rattle.instructions.specs.declared.answers.Fault.TheVariants.{Broken as BrokenFault, Trap as Trapping}
use Rattle.instructions.specs.declared.answers.Outcome.{Outcome}
use Rattle.instructions.specs.declared.answers.Outcome.TheVariants.{Running as StillRunning, Ended as HasEnded, Trap, Waits, Broken as IsBroken}
use Rattle.instructions.specs.declared.answers.PortCall.{PortCall}
use Rattle.instructions.specs.declared.answers.PortCall.TheVariants.{Take as TakeCall, Set as SetCall}
use Rattle.instructions.specs.declared.answers.Status.{Status}
use Rattle.instructions.specs.declared.answers.Status.TheVariants.{Running, Ended, Trapped, Broken}
use Rattle.instructions.specs.declared.instruction.Instruction.{Instruction}
use Rattle.instructions.specs.declared.operation.Operation.TheVariants.{End}
use Rattle.instructions.specs.Moves.{replace}
use Rattle.instructions.specs.Numbers.{asks}
use Rattle.instructions.specs.State.{State, became, on, start}
use Rattle.instructions.specs.Table.{obeyed, take, put}

-- the effect of an instruction, as far as the memory goes
pub data Effect : Type 0 where
  -- it is executed, and this is the memory then
  went : State → Effect
  -- it takes a sample from a channel; until one is there the memory stays
  takes : (channel place : ℕ) → Effect
  -- it sets a channel to a value, and this is the memory then
  sets : (channel : ℕ) → ℤ → State → Effect
  -- it has no effect, or there is none: what is left of the memory
  breaks : State → Effect
  -- the board goes on no more
  stops : Effect

-- what is not carried out: no effect, or a trap at the instruction's place
abbrev pub failing : Fault → ℕ → State → Effect
failing BrokenFault p c = breaks c
failing (Trapping t) p c = went (became (Trapped t p) c)

abbrev pub settled : Result Unit Fault → ℕ → State → Effect
settled (Ok u) p c = went c
settled (Err e) p c = failing e p c

abbrev pub taking : Result ℕ Fault → ℕ → State → Effect
taking (Ok n) p c = takes n p
taking (Err e) p c = failing e p c

abbrev pub setting : Result (ℕ × ℤ) Fault → ℕ → State → Effect
setting (Ok x) p c = sets x.0 x.1 c
setting (Err e) p c = failing e p c

-- an instruction by what it asks of the port
abbrev pub effect_by : Option PortCall → Instruction → State → Effect
effect_by None i c = settled (obeyed i.operation i.operand (on c)).result i.place (obeyed i.operation i.operand (on c)).state
effect_by (Some TakeCall) i c = taking (take c).result i.place (on (take c).state)
effect_by (Some SetCall) i c = setting (put (on c)).result i.place (put (on c)).state

-- the effect of an instruction
abbrev pub effect : Instruction → State → Effect
effect i c = effect_by (asks i.operation) i c

abbrev pub none : Instruction
none = record { operation = End; operand = 0; place = 0 }

-- the effect of the instruction at the state's index, where there is one
abbrev pub fetched : List Instruction → State → Effect
fetched code c = cond (nat_lt c.pc (length code)) (effect (slice_index_or code c.pc none) c) (breaks c)

abbrev pub going : Status → List Instruction → State → Effect
going Running code c = fetched code c
going Ended code c = stops
going (Trapped t p) code c = stops
going Broken code c = stops

-- the effect of the next step, by the status and the next instruction
abbrev pub stepped : List Instruction → State → Effect
stepped code c = going c.status code c

-- the memory once the sample is there
abbrev pub delivered : ℤ → State → State
delivered z c = replace z (on c)

-- a board with what its port means
pub record View : Type 0 where
  pub code : List Instruction
  pub state : State
  pub port : Meaning

-- the board with another memory and another port
abbrev pub with_parts : State → Meaning → View → View
with_parts c m v = record { code = v.code; state = c; port = m }

-- what a status answers where nothing more is executed
abbrev pub spent : Status → Outcome
spent Running = StillRunning
spent Ended = HasEnded
spent (Trapped t p) = Trap t p
spent Broken = IsBroken

-- what one step comes to
pub data Move : Type 0 where
  -- an instruction was executed
  gone : View → Move
  -- and it was an event
  did : Event → View → Move
  -- none was executed
  halted : Outcome → View → Move

abbrev pub took_or_waits : ℕ → ℕ → Result (Option ℤ) ℕ → View → Move
took_or_waits n p (Ok (Some z)) v = did (took n z) (with_parts (delivered z v.state) (take_after v.port n) v)
took_or_waits n p (Ok None) v = halted (Waits n p) v
took_or_waits n p (Err e) v = halted IsBroken (with_parts (became Broken v.state) (take_after v.port n) v)

abbrev pub set_or_not : ℕ → ℤ → State → Result Unit ℕ → View → Move
set_or_not n x w (Ok u) v = did (set_to n x) (with_parts w (set_after v.port n x) v)
set_or_not n x w (Err e) v = halted IsBroken (with_parts (became Broken w) (set_after v.port n x) v)

-- what comes of an effect at the board's port
abbrev pub met : Effect → View → Move
met (went w) v = gone (with_parts w v.port v)
met (takes n p) v = took_or_waits n p (take_answer v.port n) v
met (sets n x w) v = set_or_not n x w (set_answer n) v
met (breaks w) v = halted IsBroken (with_parts (became Broken w) v.port v)
met stops v = halted (spent v.state.status) v

-- one step
unfoldable pub step : View → Move
step v = met (stepped v.code v.state) v

-- a run: what it comes to, how many instructions it executed, its events in order, and the board then
pub record Run : Type 0 where
  pub outcome : Outcome
  pub executed : ℕ
  pub events : List Event
  pub view : View

-- a run with more before it
abbrev pub more : ℕ → List Event → Run → Run
more a es r = record { outcome = r.outcome; executed = a + r.executed; events = es ++ r.events; view = r.view }

-- nothing is executed
abbrev pub nothing : Outcome → View → Run
nothing o v = record { outcome = o; executed = 0; events = []; view = v }

abbrev pub onward : Move → (View → Run) → Run
onward (gone w) k = more 1 [] (k w)
onward (did e w) k = more 1 (e ∷ []) (k w)
onward (halted o w) k = nothing o w

-- a run of at most so many instructions
unfoldable pub run : ℕ → View → Run
run zero v = nothing (spent v.state.status) v
run (suc n) v = onward (step v) (run n)

-- a board that was loaded with a list's first 4,096 instructions and a port
abbrev pub loaded : List Instruction → Meaning → View
loaded code port = record { code = first 4096 code; state = start; port = port }
