-- What operations are made of: words taken, left, read and stored, activations opened and closed.
use Rattle.std.specs.Prelude.{◌≡◌, ℕ, ◌+◌, cond, List, [], ◌∷◌, ◌++◌, reverse, length, take, drop, replicate, ℤ, pos, Ok, Err, Result, nat_le, nat_lt, slice_index_or, slice_set}
use Rattle.instructions.specs.declared.answers.Fault.{Fault}
use Rattle.instructions.specs.declared.answers.Fault.TheVariants.{Broken, Trap}
use Rattle.instructions.specs.declared.answers.Trap.TheVariants.{Activations}
use Rattle.instructions.specs.declared.area.Area.{Area}
use Rattle.instructions.specs.declared.area.Area.TheVariants.{Globals, Variables}
use Rattle.instructions.specs.State.{Caller, State, size, activation_words, global_words, most_open, storing, operating, varying, nesting, at}

-- what an operation, or a part of one, gives, and the state then
pub record Done (X : Type 0) : Type 0 where
  pub result : Result X Fault
  pub state : State

-- it gave this result and left this state
abbrev pub Does : {X : Type 0} → (State → Done X) → State → Result X Fault → State → Type 0
Does f before r after = f before ≡ record { result = r; state = after }

-- it gives x
abbrev pub ok : {X : Type 0} → X → State → Done X
ok x c = record { result = Ok x; state = c }

-- it is not carried out
abbrev pub fail : {X : Type 0} → Fault → State → Done X
fail e c = record { result = Err e; state = c }

abbrev pub next : {X Y : Type 0} → Result X Fault → State → (X → State → Done Y) → Done Y
next (Ok x) c k = k x c
next (Err e) c k = fail e c

-- one part, and then what is done with what it gives
abbrev pub then : {X Y : Type 0} → Done X → (X → State → Done Y) → Done Y
then d k = next d.result d.state k

abbrev pub pulled : List ℤ → State → Done ℤ
pulled [] c = fail Broken c
pulled (x ∷ xs) c = ok x (operating xs c)

-- takes the newest operand
unfoldable pub pull : State → Done ℤ
pull c = pulled c.words.operands c

-- leaves an operand
unfoldable pub push : ℤ → State → Done Unit
push x c = cond (nat_lt (size c.words) activation_words) (ok tt (operating (x ∷ c.words.operands) c)) (fail Broken c)

-- reads the operand that is n below the newest
unfoldable pub operand : ℕ → State → Done ℤ
operand n c = cond (nat_lt n (length c.words.operands)) (ok (slice_index_or c.words.operands n (pos 0)) c) (fail Broken c)

-- reads a variable, or fails as e where there is none
unfoldable pub variable : Fault → ℕ → State → Done ℤ
variable e i c = cond (nat_lt i (length c.words.variables)) (ok (slice_index_or c.words.variables i (pos 0)) c) (fail e c)

-- stores a variable, or fails as e where there is none
unfoldable pub store_variable : Fault → ℕ → ℤ → State → Done Unit
store_variable e i x c = cond (nat_lt i (length c.words.variables)) (ok tt (varying (slice_set c.words.variables i x) c)) (fail e c)

-- reads a global word, or fails as e where there is none
unfoldable pub global : Fault → ℕ → State → Done ℤ
global e i c = cond (nat_lt i global_words) (ok (slice_index_or c.globals i (pos 0)) c) (fail e c)

-- stores a global word, or fails as e where there is none
unfoldable pub store_global : Fault → ℕ → ℤ → State → Done Unit
store_global e i x c = cond (nat_lt i global_words) (ok tt (storing (slice_set c.globals i x) c)) (fail e c)

-- reads a word of an area, or fails as e where there is none
abbrev pub word : Area → Fault → ℕ → State → Done ℤ
word Globals e i c = global e i c
word Variables e i c = variable e i c

-- stores a word of an area, or fails as e where there is none
abbrev pub store_word : Area → Fault → ℕ → ℤ → State → Done Unit
store_word Globals e i x c = store_global e i x c
store_word Variables e i x c = store_variable e i x c

-- opens an activation whose first variables are the n newest operands, the newest last; it begins at t
unfoldable pub open_activation : ℕ → ℕ → State → Done Unit
open_activation n t c =
    cond (nat_le n (length c.words.operands))
    (cond (nat_lt (length c.callers) most_open)
    (ok tt (at t (nesting
    (record { variables = reverse (take n c.words.operands); operands = [] })
    (record { resume = c.pc; words = record { variables = c.words.variables; operands = drop n c.words.operands } } ∷ c.callers)
    c)))
    (fail (Trap Activations) c))
    (fail Broken c)

-- makes variables of all words of the newest activation, and n more that are 0
unfoldable pub make_variables : ℕ → State → Done Unit
make_variables n c =
    cond (nat_le (size c.words + n) activation_words)
    (ok tt (nesting (record { variables = c.words.variables ++ (reverse c.words.operands ++ replicate n (pos 0)); operands = [] }) c.callers c))
    (fail Broken c)

abbrev pub closed : List Caller → State → Done Unit
closed [] c = fail Broken c
closed (k ∷ ks) c = ok tt (at k.resume (nesting k.words ks c))

-- closes the newest activation
unfoldable pub close_activation : State → Done Unit
close_activation c = closed c.callers c

abbrev pub replaced : ℤ → List ℤ → List ℤ
replaced z [] = []
replaced z (x ∷ xs) = z ∷ xs

-- puts z in the place of the newest operand
unfoldable pub replace : ℤ → State → State
replace z c = operating (replaced z c.words.operands) c
