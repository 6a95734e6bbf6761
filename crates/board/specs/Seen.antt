-- What the definitions see of a board.
use Rattle.std.specs.Prelude.{ℕ, cond, length, ℤ, pos, ◌-ℤ◌, Ok, Err, Result, int_le, nat_lt, slice_index_or}
use Rattle.ports.specs.Calls.{feed_after, take_answer, set_answer}
use Rattle.ports.specs.Channels.{Meaning}
use Rattle.instructions.specs.declared.answers.Act.{Act}
use Rattle.instructions.specs.declared.answers.Act.TheVariants.{Went as Acted, Take, Set, Stopped as Stood}
use Rattle.instructions.specs.declared.answers.Outcome.{Outcome}
use Rattle.instructions.specs.declared.answers.Ran.{Ran}
use Rattle.instructions.specs.declared.answers.Step.{Step}
use Rattle.instructions.specs.declared.answers.Step.TheVariants.{Went, Event, Stopped}
use Rattle.instructions.specs.State.{global_words}
use Rattle.instructions.specs.Steps.{View, Run, Move, gone, did, halted, with_parts, took_or_waits, set_or_not, spent}
use Rattle.board.specs.declared.machine.Board.{Board}

-- a board over a port of any make, with what the port means
abbrev pub view : {X : Type 0} → (X → Meaning) → Board X → View
view meaning b = record { code = b.code.now; state = b.memory; port = meaning b.port }

-- a step as it is told, and the board then
pub record Told : Type 0 where
  pub step : Step
  pub view : View

abbrev pub told : Move → Told
told (gone w) = record { step = Went; view = w }
told (did e w) = record { step = Event; view = w }
told (halted o w) = record { step = Stopped o; view = w }

-- what comes at the board's port of an act, told
abbrev pub answered : Act → View → Told
answered Acted v = record { step = Went; view = v }
answered (Take n p) v = told (took_or_waits n p (take_answer v.port n) v)
answered (Set n x) v = told (set_or_not n x v.state (set_answer n) v)
answered Stood v = record { step = Stopped (spent v.state.status); view = v }

-- a run as it is answered: its events are counted
pub record Tally : Type 0 where
  pub outcome : Outcome
  pub executed : ℕ
  pub events : ℕ
  pub view : View

abbrev pub tally : Run → Tally
tally r = record { outcome = r.outcome; executed = r.executed; events = length r.events; view = r.view }

-- an answer with the board that it leaves
abbrev pub ran : Ran → View → Tally
ran r v = record { outcome = r.outcome; executed = r.executed; events = r.events; view = v }

-- the board after a feed: the port's feed, and nothing else
abbrev pub fed : ℕ → ℤ → View → View
fed c z v = with_parts v.state (feed_after v.port c z) v

-- a word as it is shown: 65,536 less from 32,768 up
abbrev pub shown_word : ℤ → ℤ
shown_word z = cond (int_le (pos 32768) z) (z -ℤ pos 65536) z

-- a global word as it is shown; a word above 1,023 is refused as 53
abbrev pub peeked : View → ℕ → Result ℤ ℕ
peeked v w = cond (nat_lt w global_words) (Ok (shown_word (slice_index_or v.state.globals w (pos 0)))) (Err 53)
