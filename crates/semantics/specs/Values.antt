-- Values as words, and what operators answer. FALSE is 0 and TRUE is 1; a set is the sum of 2 ^ i for its elements i.
use Rattle.std.specs.Prelude.{◌≡◌, ℕ, suc, ◌/◌, Bool, false, cond, not, ◌&&◌, ◌⊎◌, ℤ, pos, negsuc, ◌+ℤ◌, ◌-ℤ◌, ◌*ℤ◌, neg_ℤ, Some, None, Option, int_le, int_lt, nat_lt, unsigned_abs}
use Rattle.integer.specs.Division.{divided}
use Rattle.integer.specs.Ends.{Ends, integer, Within, within, kept}
use Rattle.integer.specs.Sets.{elements, words, has, union_of, intersection_of, difference_of, including, excluding, if_element}
use Rattle.semantics.specs.Program.{BasicType, INTEGER, BOOLEAN, BITSET, Array, Unary, negate, complement, absolute, odd, Binary, add, subtract, multiply, divide, modulo, union, difference, intersection, equal, unequal, less, at_most, greater, at_least, Update, increase, decrease, include, exclude}

-- z is a value of the type
abbrev pub Value : BasicType → ℤ → Type 0
Value INTEGER z = Within integer z
Value BOOLEAN z = (z ≡ pos 0) ⊎ (z ≡ pos 1)
Value BITSET z = Within words z

-- a BOOLEAN
abbrev pub truth : Bool → ℤ
truth b = cond b (pos 1) (pos 0)

-- x and y are one number
abbrev pub same : ℤ → ℤ → Bool
same x y = int_le x y && int_le y x

-- x is FALSE
abbrev pub fails : ℤ → Bool
fails x = same x (pos 0)

-- the quotient, or the remainder, of the pair that a division answers
abbrev pub quotient : Option (ℤ × ℤ) → Option ℤ
quotient (Some p) = Some p.0
quotient None = None

abbrev pub remainder : Option (ℤ × ℤ) → Option ℤ
remainder (Some p) = Some p.1
remainder None = None

abbrev pub is_one : Option ℤ → Bool
is_one (Some r) = same r (pos 1)
is_one None = false

-- what an operator with one operand answers, or none
unfoldable pub unary_answer : Unary → ℤ → Option ℤ
unary_answer negate x = kept integer (neg_ℤ x)
unary_answer complement x = Some (truth (fails x))
unary_answer absolute x = kept integer (pos (unsigned_abs x))
unary_answer odd x = Some (truth (is_one (remainder (divided x (pos 2)))))

-- what an operator with two operands answers, or none
unfoldable pub binary_answer : Binary → ℤ → ℤ → Option ℤ
binary_answer add x y = kept integer (x +ℤ y)
binary_answer subtract x y = kept integer (x -ℤ y)
binary_answer multiply x y = kept integer (x *ℤ y)
binary_answer divide x y = quotient (divided x y)
binary_answer modulo x y = remainder (divided x y)
binary_answer union x y = Some (union_of x y)
binary_answer difference x y = Some (difference_of x y)
binary_answer intersection x y = Some (intersection_of x y)
binary_answer equal x y = Some (truth (same x y))
binary_answer unequal x y = Some (truth (not (same x y)))
binary_answer less x y = Some (truth (int_lt x y))
binary_answer at_most x y = Some (truth (int_le x y))
binary_answer greater x y = Some (truth (int_lt y x))
binary_answer at_least x y = Some (truth (int_le y x))

-- the trap of an operator that has no answer: 1 a result outside INTEGER, 2 a divisor below 1
abbrev pub binary_trap : Binary → ℕ
binary_trap add = 1
binary_trap subtract = 1
binary_trap multiply = 1
binary_trap divide = 2
binary_trap modulo = 2
binary_trap union = 1
binary_trap difference = 1
binary_trap intersection = 1
binary_trap equal = 1
binary_trap unequal = 1
binary_trap less = 1
binary_trap at_most = 1
binary_trap greater = 1
binary_trap at_least = 1

-- what a variable with the value x becomes by k, or none: INC and DEC, INCL and EXCL
unfoldable pub updated : Update → ℤ → ℤ → Option ℤ
updated increase x k = kept integer (x +ℤ k)
updated decrease x k = kept integer (x -ℤ k)
updated include x k = if_element k (including x k)
updated exclude x k = if_element k (excluding x k)

-- the trap where there is none: 1 a result outside INTEGER, 5 a set element outside 0 to 15
abbrev pub update_trap : Update → ℕ
update_trap increase = 1
update_trap decrease = 1
update_trap include = 5
update_trap exclude = 5

-- x can be an element of a set
abbrev pub is_element : ℤ → Bool
is_element x = within elements x

-- x is an element of the set s
abbrev pub contained : ℤ → ℤ → ℤ
contained x s = truth (has (unsigned_abs x) s)

-- the channels of a port
abbrev pub channel_numbers : Ends
channel_numbers = record { low = pos 0; high = pos 15 }

-- x is a channel
abbrev pub is_channel : ℤ → Bool
is_channel x = within channel_numbers x

abbrev pub counted : ℤ → ℕ → Option ℕ
counted (pos k) n = cond (nat_lt k n) (Some k) None
counted (negsuc k) n = None

-- which element of the array the index i names, from 0 up, or none outside the bounds
unfoldable pub position : Array → ℤ → Option ℕ
position a i = counted (i -ℤ a.low) a.size

-- how far the limit lies from the start, the way of the step
abbrev pub distance : ℤ → ℤ → ℤ → ℤ
distance start limit step = cond (int_le (pos 0) step) (limit -ℤ start) (start -ℤ limit)

abbrev pub reached : ℤ → ℕ → ℕ
reached (pos n) step = suc (n / step)
reached (negsuc n) step = 0

-- how many terms of a FOR, the start and each by the step from the last, do not surpass the limit
unfoldable pub terms : ℤ → ℤ → ℤ → ℕ
terms start limit step = reached (distance start limit step) (unsigned_abs step)
