-- Laws over readings.
use Rattle.std.specs.Prelude.{◌≡◌, ℕ, ◌<◌, ◌≤◌, Bool, true, false, cond, ◌⊎◌, List, [], ◌∷◌, ◌++◌, length, ℤ, pos, ◌+ℤ◌, ◌*ℤ◌, ◌≢◌, int_le, int_lt}
use Rattle.std.specs.List.{AllByRecursion}
use Rattle.ports.specs.Channels.{Meaning}
use Rattle.ports.specs.Events.{Event}
use Rattle.ports.specs.Law.{Lawful}
use Rattle.ports.specs.Samples.{Sample, joined, joined_all}
use Rattle.semantics.specs.Program.{BasicType, Program, procedure}
use Rattle.semantics.specs.Values.{Value, terms}
use Rattle.semantics.specs.State.{Tick, State, Outcome, waits, Res, done, stopped, out, trace_of, events}
use Rattle.semantics.specs.Meaning.{reading}
use Rattle.semantics.specs.WellFormed.{WellFormed}

-- with more fuel a part comes to the same; only where it was out of fuel more may happen, behind all that has happened
pub data Under {A : Type 0} : Res A → Res A → Type 0 where
  same : {r : Res A} → Under r r
  longer : {σ : State} {r : Res A} → (later : List Tick) → trace_of r ≡ later ++ σ.trace → Under (out σ) r

-- more fuel changes nothing where a reading has stopped, and else only lets it go on
abbrev pub MoreFuel : Type 0
MoreFuel = (P : Program) (m : Meaning) (a b : ℕ) → a ≤ b → Under (reading P m a) (reading P m b)

-- a program has one outcome on a port, if any, and comes to it in one state
abbrev pub OneOutcome : Type 0
OneOutcome =
    (P : Program) (m : Meaning) (a b : ℕ) (o p : Outcome) (σ τ : State)
    → reading P m a ≡ stopped o σ → reading P m b ≡ stopped p τ → (o ≡ p) × (σ ≡ τ)

-- the second events are the first, and then perhaps more
abbrev pub Opens : List Event → List Event → Type 0
Opens es fs = (more : List Event) × (fs ≡ es ++ more)

-- the events of a reading with so much fuel
abbrev pub shown : Program → Meaning → ℕ → List Event
shown P m n = events (trace_of (reading P m n))

-- a program has one course of events on a port
abbrev pub OneCourse : Type 0
OneCourse = (P : Program) (m : Meaning) (a b : ℕ) → Opens (shown P m a) (shown P m b) ⊎ Opens (shown P m b) (shown P m a)

-- the state with one sample more at its port
abbrev pub joining : Sample → State → State
joining s σ = record { globals = σ.globals; locals = σ.locals; callers = σ.callers; port = joined s σ.port; trace = σ.trace }

-- with a sample more a part comes to the same, the sample still waiting; only where it waited on the sample's channel more may
-- happen, behind all that has happened
pub data Supplied (s : Sample) {A : Type 0} : Res A → Res A → Type 0 where
  same_done : (a : A) (σ : State) → Supplied s (done a σ) (done a (joining s σ))
  same_stop : (o : Outcome) (σ : State) → Supplied s (stopped o σ) (stopped o (joining s σ))
  same_out : (σ : State) → Supplied s (out σ) (out (joining s σ))
  resumed : (c p : ℕ) (σ : State) (r : Res A) → c ≡ s.channel → (later : List Tick) → trace_of r ≡ later ++ σ.trace → Supplied s (stopped (waits c p) σ) r

-- a sample more, behind those that wait, changes nothing where a reading ended, trapped or is out of fuel, and lets one that waits
-- go on
abbrev pub MoreSamples : Type 0
MoreSamples = (P : Program) (m : Meaning) (n : ℕ) (s : Sample) → Supplied s (reading P m n) (reading P (joined s m) n)

-- with more fuel and more samples the events so far stay
abbrev pub EventsStay : Type 0
EventsStay = (P : Program) (m : Meaning) (a b : ℕ) (ss : List Sample) → a ≤ b → Opens (shown P m a) (shown P (joined_all ss m) b)

-- term i of a FOR, from 0 up
abbrev pub term : (start step : ℤ) → ℕ → ℤ
term a c i = a +ℤ (pos i *ℤ c)

-- a term surpasses the limit: it lies above it where the step is positive, below it where the step is negative
abbrev pub surpasses : (step limit term : ℤ) → Bool
surpasses c l t = cond (int_le (pos 0) c) (int_lt l t) (int_lt t l)

-- a FOR has exactly the terms that come before the first one that surpasses its limit
abbrev pub ForTerms : Type 0
ForTerms =
    (a l c : ℤ) → (c ≢ pos 0) →
    ((i : ℕ) → i < terms a l c → surpasses c l (term a c i) ≡ false) × (surpasses c l (term a c (terms a l c)) ≡ true)

-- values of these types, one for each
abbrev pub Valued : List BasicType → List ℤ → Type 0
Valued [] [] = Unit {0}
Valued [] (x ∷ xs) = ⊥
Valued (τ ∷ τs) [] = ⊥
Valued (τ ∷ τs) (x ∷ xs) = Value τ x × Valued τs xs

-- the words of an activation: the module has none of its own, a procedure has values of the types of its words
pub data Activation (P : Program) : List ℤ → Type 0 where
  of_module : Activation P []
  of_procedure : {xs : List ℤ} (g : ℕ) → g < length P.procedures → Valued (procedure P g).words xs → Activation P xs

-- every word has a value of its type
pub record Typed (P : Program) (σ : State) : Type 0 where
  pub globals : Valued P.words σ.globals
  pub activations : AllByRecursion (Activation P) (σ.locals ∷ σ.callers)

-- the state in which a part is done, stopped or out of fuel
abbrev pub state_of : {A : Type 0} → Res A → State
state_of (done a σ) = σ
state_of (stopped o σ) = σ
state_of (out σ) = σ

-- in a well-formed program, on a port that keeps the law of ports, a variable always has a value of its type: an INTEGER one
-- from -32,768 to 32,767, a BOOLEAN one 0 or 1, a BITSET one from 0 to 65,535
abbrev pub WordsKeepTypes : Type 0
WordsKeepTypes = (P : Program) → WellFormed P → (m : Meaning) → Lawful m → (n : ℕ) → Typed P (state_of (reading P m n))
