-- What the table sees of a memory.
use Rattle.std.specs.Prelude.{ℕ, zero, suc, ◌+◌, ◌*◌, ◌≤◌, List, [], ◌∷◌, take, drop, ℤ, pos, slice_index_or}
use Rattle.instructions.specs.State.{Words, Caller, State}
use Rattle.memory.specs.declared.activation.Activation.{Activation}
use Rattle.memory.specs.declared.store.Memory.TheInside.{Inside}
use Rattle.memory.specs.Nested.{blank, Nested}

-- the n words from an index on, the last first
abbrev pub down : List ℤ → ℕ → ℕ → List ℤ
down ws from zero = []
down ws from (suc n) = slice_index_or ws (from + n) (pos 0) ∷ down ws from n

-- the words of an activation that begin at an index: variables, then operands
abbrev pub words_of : List ℤ → ℕ → ℕ → ℕ → Words
words_of ws base variables operands = record { variables = take variables (drop base ws); operands = down ws (base + variables) operands }

-- a waiting activation
abbrev pub caller_of : List ℤ → Activation → Caller
caller_of ws a = record { resume = a.resume; words = words_of ws a.base a.variables a.operands }

-- the first n of the waiting activations, the last first
abbrev pub callers_of : List ℤ → List Activation → ℕ → List Caller
callers_of ws cs zero = []
callers_of ws cs (suc n) = caller_of ws (slice_index_or cs n blank) ∷ callers_of ws cs n

-- the state that a memory stands for
abbrev pub seen : Inside → State
seen m = record { globals = m.globals; words = words_of m.words m.base m.variables m.operands; callers = callers_of m.words m.callers m.depth; pc = m.pc; status = m.status }

-- what holds of every memory: its activations are within their bounds, and their words in order
pub record Sound (m : Inside) : Type 0 where
  pub deep : m.depth ≤ 32
  pub low : m.base ≤ m.depth * 256
  pub held : m.variables + m.operands ≤ 256
  pub ordered : Nested m.callers m.depth m.base
