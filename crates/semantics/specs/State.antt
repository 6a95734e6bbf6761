-- What a reading of a program has come to: its words, its port, and what has happened so far.
use Rattle.std.specs.Prelude.{ℕ, suc, ◌+◌, List, [], ◌∷◌, ◌++◌, length, drop, replicate, ℤ, pos, slice_index_or, slice_set}
use Rattle.ports.specs.Channels.{Meaning}
use Rattle.ports.specs.Events.{Event, left}
use Rattle.semantics.specs.Program.{Variable, global, local, Procedure, Program}

-- what counts: a loop body begun, a call of a declared procedure, a completed Take or Put
pub data Tick : Type 0 where
  round : Tick
  activation : Tick
  event : Event → Tick

pub record State : Type 0 where
  -- the module's words
  pub globals : List ℤ
  -- the words of the newest activation
  pub locals : List ℤ
  -- the words of those that wait for it, the newest first; the last is the module, which has none of its own
  pub callers : List (List ℤ)
  -- the samples that wait, the rules, and the values last set
  pub port : Meaning
  -- what has happened, the newest first
  pub trace : List Tick

-- how a reading can end: a trap has a number and a place, a wait a channel and its Take's place
pub data Outcome : Type 0 where
  ended : Outcome
  trap : (number place : ℕ) → Outcome
  waits : (channel place : ℕ) → Outcome

-- what a part comes to: it is done with an answer, the reading stops in it, or the fuel is out
pub data Res (A : Type 0) : Type 0 where
  done : A → State → Res A
  stopped : Outcome → State → Res A
  out : State → Res A

-- how statements come to an end: behind the last, by EXIT, by RETURN, by RETURN with a value
pub data Flow : Type 0 where
  falls : Flow
  exits : Flow
  returns : Flow
  gives : ℤ → Flow

-- one part, and then what is done with its answer
unfoldable pub bind : {A B : Type 0} → Res A → (A → State → Res B) → Res B
bind (done a σ) k = k a σ
bind (stopped o σ) k = stopped o σ
bind (out σ) k = out σ

-- n words that are 0, FALSE or {}
abbrev pub zeros : ℕ → List ℤ
zeros n = replicate n (pos 0)

-- the value of a variable
abbrev pub read : Variable → State → ℤ
read (global w) σ = slice_index_or σ.globals w (pos 0)
read (local w) σ = slice_index_or σ.locals w (pos 0)

-- the state with another value in a variable
abbrev pub store : Variable → ℤ → State → State
store (global w) x σ = record { globals = slice_set σ.globals w x; locals = σ.locals; callers = σ.callers; port = σ.port; trace = σ.trace }
store (local w) x σ = record { globals = σ.globals; locals = slice_set σ.locals w x; callers = σ.callers; port = σ.port; trace = σ.trace }

-- the word k behind a variable's
abbrev pub behind : Variable → ℕ → Variable
behind (global w) k = global (w + k)
behind (local w) k = local (w + k)

-- the state when one thing more has happened
abbrev pub tick : Tick → State → State
tick t σ = record { globals = σ.globals; locals = σ.locals; callers = σ.callers; port = σ.port; trace = t ∷ σ.trace }

-- the state after a Take or a Put
abbrev pub happened : Event → State → State
happened e σ = record { globals = σ.globals; locals = σ.locals; callers = σ.callers; port = left e σ.port; trace = event e ∷ σ.trace }

-- the state when a procedure is opened with these arguments: its other words are 0, FALSE or {}
abbrev pub enter : Procedure → List ℤ → State → State
enter f vs σ = record { globals = σ.globals; locals = vs ++ zeros (length (drop f.parameters f.words)); callers = σ.locals ∷ σ.callers; port = σ.port; trace = activation ∷ σ.trace }

abbrev pub leaving : List (List ℤ) → State → State
leaving [] σ = σ
leaving (l ∷ ls) σ = record { globals = σ.globals; locals = l; callers = ls; port = σ.port; trace = σ.trace }

-- the state when the newest activation is closed
abbrev pub leave : State → State
leave σ = leaving σ.callers σ

-- the state in which a program begins on a port
abbrev pub begin : Program → Meaning → State
begin p m = record { globals = zeros (length p.words); locals = []; callers = []; port = m; trace = [] }

-- what has happened when a part is done, stopped or out of fuel
abbrev pub trace_of : {A : Type 0} → Res A → List Tick
trace_of (done a σ) = σ.trace
trace_of (stopped o σ) = σ.trace
trace_of (out σ) = σ.trace

-- the events of a trace, the oldest first
abbrev pub events : List Tick → List Event
events [] = []
events (round ∷ r) = events r
events (activation ∷ r) = events r
events (event e ∷ r) = events r ++ (e ∷ [])

-- how many rounds were begun
abbrev pub rounds : List Tick → ℕ
rounds [] = 0
rounds (round ∷ r) = suc (rounds r)
rounds (activation ∷ r) = rounds r
rounds (event e ∷ r) = rounds r

-- how many activations were opened
abbrev pub activations : List Tick → ℕ
activations [] = 0
activations (round ∷ r) = activations r
activations (activation ∷ r) = suc (activations r)
activations (event e ∷ r) = activations r
