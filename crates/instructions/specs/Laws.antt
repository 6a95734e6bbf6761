-- Laws over runs.
use Rattle.std.specs.Prelude.{◌≡◌, ℕ, zero, suc, ◌+◌, ◌*◌, ◌<◌, ◌≤◌, cond, List, [], ◌∷◌, length, ℤ, ◌==◌, nat_lt}
use Rattle.ports.specs.Calls.{feed_after}
use Rattle.ports.specs.Channels.{Meaning}
use Rattle.ports.specs.Samples.{Sample, joined}
use Rattle.instructions.specs.declared.instruction.Instruction.{Instruction}
use Rattle.instructions.specs.Numbers.{number_of, operation_of}
use Rattle.instructions.specs.State.{State}
use Rattle.instructions.specs.Steps.{View, Move, gone, did, halted, Run, step, run, more, with_parts, loaded}

-- the operation of a number has that number
abbrev pub NumbersReturn : Type 0
NumbersReturn = (n : ℕ) → number_of (operation_of n) ≡ n

-- two runs one after the other do what one run of both budgets does
abbrev pub RunsCompose : Type 0
RunsCompose = (a b : ℕ) (v : View) → 0 < b → run (a + b) v ≡ more (run a v).executed (run a v).events (run b (run a v).view)

-- the board with one sample more at its port
abbrev pub joining : Sample → View → View
joining s v = with_parts v.state (joined s v.port) v

-- a run with one sample more at its end
abbrev pub joined_run : Sample → Run → Run
joined_run s r = record { outcome = r.outcome; executed = r.executed; events = r.events; view = joining s r.view }

-- executing n instructions and then appending a sample is appending it first, and then executing them
abbrev pub FeedingCommutes : Type 0
FeedingCommutes = (s : Sample) (n : ℕ) (v : View) → (run n v).executed ≡ n → run n (joining s v) ≡ joined_run s (run n v)

-- 1 for an executed instruction that goes to the same or a lower index, opens an activation or closes one
abbrev pub turn : State → State → ℕ
turn c d = cond (nat_lt c.pc d.pc) (cond (length c.callers == length d.callers) 0 1) 1

abbrev pub turned : State → Move → (View → ℕ) → ℕ
turned c (gone w) k = turn c w.state + k w
turned c (did e w) k = turn c w.state + k w
turned c (halted o w) k = 0

-- how many of a run's instructions are such
unfoldable pub turns : ℕ → View → ℕ
turns zero v = 0
turns (suc n) v = turned v.state (step v) (turns n)

-- a call on a board
pub data Call : Type 0 where
  feed : (channel : ℕ) → ℤ → Call
  go : (budget : ℕ) → Call

-- what calls come to: the instructions executed, and the turns among them
pub record Total : Type 0 where
  pub executed : ℕ
  pub turns_made : ℕ

abbrev pub counting : ℕ → ℕ → Total → Total
counting a b t = record { executed = a + t.executed; turns_made = b + t.turns_made }

-- the total of calls one after the other
abbrev pub total : List Call → View → Total
total [] v = record { executed = 0; turns_made = 0 }
total (feed c z ∷ cs) v = total cs (with_parts v.state (feed_after v.port c z) v)
total (go n ∷ cs) v = counting (run n v).executed (turns n v) (total cs (run n v).view)

-- since load, a board has executed at most 4,096 instructions for each turn, and 4,096 more
abbrev pub TurnsBound : Type 0
TurnsBound = (code : List Instruction) (port : Meaning) (calls : List Call) → (total calls (loaded code port)).executed ≤ 4096 * (1 + (total calls (loaded code port)).turns_made)
