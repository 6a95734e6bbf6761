-- How what a run comes to is shown.
use Rattle.std.specs.Prelude.{ℕ, List, ◌++◌, codes, decimal}
use Rattle.instructions.specs.declared.answers.Outcome.{Outcome}
use Rattle.instructions.specs.declared.answers.Outcome.TheVariants.{Running, Ended, Trap, Waits, Broken}
use Rattle.instructions.specs.declared.answers.Ran.{Ran}
use Rattle.instructions.specs.Traps.{trap_number}

-- an outcome: a trap by its number, and a trap or a wait by its place
abbrev pub shown_outcome : Outcome → List ℕ
shown_outcome Running = codes "running"
shown_outcome Ended = codes "ended"
shown_outcome (Trap t p) = codes "trap " ++ decimal (trap_number t) ++ codes " at " ++ decimal p
shown_outcome (Waits c p) = codes "waits " ++ decimal c ++ codes " at " ++ decimal p
shown_outcome Broken = codes "broken"

-- a run: its outcome, the instructions executed and the events
abbrev pub shown_run : Ran → List ℕ
shown_run r = shown_outcome r.outcome ++ codes " " ++ decimal r.executed ++ codes " " ++ decimal r.events
