-- The memory of a board: global words, activations, the index of the next instruction, and whether it goes on.
use Rattle.std.specs.Prelude.{ℕ, ◌+◌, List, [], length, replicate, ℤ, pos}
use Rattle.instructions.specs.declared.answers.Status.{Status}
use Rattle.instructions.specs.declared.answers.Status.TheVariants.{Running}

-- how many global words there are
abbrev pub global_words : ℕ
global_words = 1024

-- how many words an activation has room for
abbrev pub activation_words : ℕ
activation_words = 256

-- how many activations can be open besides the module
abbrev pub most_open : ℕ
most_open = 32

-- the words of an activation
pub record Words : Type 0 where
  -- its variables and hidden words, in order
  pub variables : List ℤ
  -- its operands, the newest first
  pub operands : List ℤ

-- an activation that waits for the one that it called
pub record Caller : Type 0 where
  -- the index of the instruction that it goes on with
  pub resume : ℕ
  pub words : Words

pub record State : Type 0 where
  pub globals : List ℤ
  -- the newest activation's words
  pub words : Words
  -- the other activations, the newest first: the last is the module
  pub callers : List Caller
  -- the index of the next instruction
  pub pc : ℕ
  pub status : Status

-- how many words an activation holds
abbrev pub size : Words → ℕ
size w = length w.variables + length w.operands

-- no words yet
abbrev pub bare : Words
bare = record { variables = []; operands = [] }

-- a board that has executed nothing
abbrev pub start : State
start = record { globals = replicate global_words (pos 0); words = bare; callers = []; pc = 0; status = Running }

-- the state with another status
abbrev pub became : Status → State → State
became s c = record { globals = c.globals; words = c.words; callers = c.callers; pc = c.pc; status = s }

-- the state with other global words
abbrev pub storing : List ℤ → State → State
storing gs c = record { globals = gs; words = c.words; callers = c.callers; pc = c.pc; status = c.status }

-- the state with other words in its newest activation
abbrev pub holding : Words → State → State
holding w c = record { globals = c.globals; words = w; callers = c.callers; pc = c.pc; status = c.status }

-- the state with other operands
abbrev pub operating : List ℤ → State → State
operating xs c = holding (record { variables = c.words.variables; operands = xs }) c

-- the state with other variables
abbrev pub varying : List ℤ → State → State
varying xs c = holding (record { variables = xs; operands = c.words.operands }) c

-- the state with other activations
abbrev pub nesting : Words → List Caller → State → State
nesting w cs c = record { globals = c.globals; words = w; callers = cs; pc = c.pc; status = c.status }

-- the state at another instruction
abbrev pub at : ℕ → State → State
at p c = record { globals = c.globals; words = c.words; callers = c.callers; pc = p; status = c.status }

-- the state at the next instruction
abbrev pub on : State → State
on c = at (c.pc + 1) c
