-- What whoever holds the port is told of instructions.
use Rattle.std.specs.Prelude.{◌≡◌, List, ℕ, zero, suc, ◌+◌, ◌<◌}
use Rattle.instructions.specs.declared.answers.Act.{Act}
use Rattle.instructions.specs.declared.answers.Act.TheVariants.{Went, Take, Set, Stopped}
use Rattle.instructions.specs.declared.instruction.Instruction.{Instruction}
use Rattle.instructions.specs.declared.answers.Status.TheVariants.{Broken}
use Rattle.instructions.specs.State.{State, became}
use Rattle.instructions.specs.Steps.{Effect, went, takes, sets, breaks, stops, stepped}

-- what is asked of the port, and the memory then
pub record Shown : Type 0 where
  pub act : Act
  pub state : State

-- an effect at a memory, as it is told
abbrev pub shown : Effect → State → Shown
shown (went w) c = record { act = Went; state = w }
shown (takes n p) c = record { act = Take n p; state = c }
shown (sets n x w) c = record { act = Set n x; state = w }
shown (breaks w) c = record { act = Stopped; state = became Broken w }
shown stops c = record { act = Stopped; state = c }

-- an effect was told as this act, and left this memory
abbrev pub Tells : (State → Effect) → State → Act → State → Type 0
Tells f before a after = shown (f before) before ≡ record { act = a; state = after }

-- a Take that is asked stands within the list
abbrev pub WithinList : Act → ℕ → ℕ → Type 0
WithinList Went pc n = Unit {0}
WithinList (Take c p) pc n = pc < n
WithinList (Set c x) pc n = Unit {0}
WithinList Stopped pc n = Unit {0}

-- steps that ask nothing of the port: how many, what the next one asks, and the memory then
pub record Stretched : Type 0 where
  pub executed : ℕ
  pub act : Act
  pub state : State

-- a stretch with so many steps before it
abbrev pub before : ℕ → Stretched → Stretched
before n s = record { executed = n + s.executed; act = s.act; state = s.state }

abbrev pub stretched_by : Act → State → (State → Stretched) → Stretched
stretched_by Went w k = before 1 (k w)
stretched_by (Take n p) w k = record { executed = 0; act = Take n p; state = w }
stretched_by (Set n x) w k = record { executed = 0; act = Set n x; state = w }
stretched_by Stopped w k = record { executed = 0; act = Stopped; state = w }

-- at most so many such steps
unfoldable pub stretched : ℕ → List Instruction → State → Stretched
stretched zero code c = record { executed = 0; act = Went; state = c }
stretched (suc n) code c = stretched_by (shown (stepped code c) c).act (shown (stepped code c) c).state (stretched n code)
