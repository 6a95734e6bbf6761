-- What the code of a program does on a board, in terms of what the program means.
use Rattle.std.specs.Prelude.{◌≡◌, ℕ, ◌+◌, ◌-◌, ◌*◌, ◌≤◌, List, ◌∷◌, ◌++◌, length, ℤ, Some, None, Option, ◌≢◌}
use Rattle.ports.specs.Channels.{Meaning}
use Rattle.ports.specs.Events.{Event, left_by}
use Rattle.ports.specs.Law.{Lawful}
use Rattle.instructions.specs.State.{global_words}
use Rattle.instructions.specs.Steps.{Run, run, loaded}
use Rattle.instructions.specs.Traps.{trap_number}
use Rattle.instructions.specs.declared.answers.Outcome.{Outcome as Answer}
use Rattle.instructions.specs.declared.answers.Outcome.TheVariants as answer
use Rattle.semantics.specs.Program.{Program}
use Rattle.semantics.specs.State.{State, Tick, event, Outcome, ended, trap, waits, stopped, trace_of, events, rounds, activations, zeros}
use Rattle.semantics.specs.Meaning.{reading}
use Rattle.semantics.specs.Extent.{program_symbols}
use Rattle.semantics.specs.WellFormed.{WellFormed}
use Rattle.semantics.specs.Laws.{Opens, shown}
use Rattle.agreement.specs.Generator.{generate}

-- the outcome that an answer of the board tells, or none where it is still running or broken
abbrev pub outcome : Answer → Option Outcome
outcome answer.Running = None
outcome answer.Ended = Some ended
outcome (answer.Trap t p) = Some (trap (trap_number t) p)
outcome (answer.Waits c p) = Some (waits c p)
outcome answer.Broken = None

-- the global words that are not declared
abbrev pub spare : Program → List ℤ
spare P = zeros (global_words - length P.words)

-- a board that was loaded with a program's code and a port, after at most so many instructions
abbrev pub after : Program → Meaning → ℕ → Run
after P m N = run N (loaded (generate P) m)

-- the code has at most 4 instructions for each symbol, and fits a board
abbrev pub CodeFits : Type 0
CodeFits = (P : Program) → WellFormed P → (length (generate P) ≤ 4 * program_symbols P) × (length (generate P) ≤ 4096)

-- the board is never broken; since a word more than the 256 of an activation would break it, none is ever wanting
abbrev pub NeverBroken : Type 0
NeverBroken = (P : Program) → WellFormed P → (m : Meaning) → Lawful m → (N : ℕ) → (after P m N).outcome ≢ answer.Broken

-- the board's events open the meaning's, and each channel is as those events leave it
abbrev pub EventsAgree : Type 0
EventsAgree =
    (P : Program) → WellFormed P → (m : Meaning) → Lawful m → (N : ℕ)
    → ((fuel : ℕ) × Opens (after P m N).events (shown P m fuel)) × ((after P m N).view.port ≡ left_by (after P m N).events m)

-- where the board ends, traps or waits, the meaning has that outcome, after just these events and with these global words
abbrev pub OutcomesAgree : Type 0
OutcomesAgree =
    (P : Program) → WellFormed P → (m : Meaning) → Lawful m → (N : ℕ) (o : Outcome) → outcome (after P m N).outcome ≡ Some o
    → (fuel : ℕ) × ((σ : State) × ((reading P m fuel ≡ stopped o σ) × ((events σ.trace ≡ (after P m N).events) × ((after P m N).view.state.globals ≡ σ.globals ++ spare P))))

-- where the meaning has an outcome, the board comes to it
abbrev pub OutcomesAreReached : Type 0
OutcomesAreReached =
    (P : Program) → WellFormed P → (m : Meaning) → Lawful m → (fuel : ℕ) (o : Outcome) (σ : State) → reading P m fuel ≡ stopped o σ
    → (N : ℕ) × (outcome (after P m N).outcome ≡ Some o)

-- where the meaning has an outcome after so many rounds and activations, the board executes at most 4,096 instructions for each
-- round, twice as many for each activation, and 4,096 more
abbrev pub OutcomesAreBounded : Type 0
OutcomesAreBounded =
    (P : Program) → WellFormed P → (m : Meaning) → Lawful m → (fuel : ℕ) (o : Outcome) (σ : State) → reading P m fuel ≡ stopped o σ
    → (N : ℕ) → (after P m N).executed ≤ 4096 * (1 + rounds σ.trace + 2 * activations σ.trace)

-- where the meaning has an event after so many rounds and activations, the board has executed no more than that before it
abbrev pub EventsAreBounded : Type 0
EventsAreBounded =
    (P : Program) → WellFormed P → (m : Meaning) → Lawful m → (fuel : ℕ) (newer older : List Tick) (e : Event) → trace_of (reading P m fuel) ≡ newer ++ (event e ∷ older)
    → (N : ℕ) → length (after P m N).events ≤ length (events older)
    → (after P m N).executed ≤ 4096 * (1 + rounds older + 2 * activations older)
