-- Sets of elements from 0 to 15, each the sum of 2 ^ i for its elements i. In any word only the low sixteen bits count.
use Rattle.std.specs.Prelude.{◌≡◌, ℕ, zero, suc, ◌+◌, ◌/◌, ◌%◌, ◌^◌, ◌<◌, Bool, cond, not, ◌&&◌, ◌||◌, ℤ, pos, Some, None, Option, ◌==◌, int_le, unsigned_abs}
use Rattle.std.specs.Int.{int_rem_euclid}
use Rattle.integer.specs.Ends.{Ends, Within, within}

-- the elements that a set can have
abbrev pub elements : Ends
elements = record { low = pos 0; high = pos 15 }

-- the words that are sets: they have no other bit than the low sixteen
abbrev pub words : Ends
words = record { low = pos 0; high = pos 65535 }

-- the low sixteen bits of a word
unfoldable pub bits : ℤ → ℕ
bits z = unsigned_abs (int_rem_euclid z (pos 65536))

-- i is an element of the word's set
unfoldable pub has : ℕ → ℤ → Bool
has i z = bits z / 2 ^ i % 2 == 1

-- the sum of 2 ^ i for each i below n that passes f
unfoldable pub powers : (ℕ → Bool) → ℕ → ℕ
powers f zero = 0
powers f (suc n) = cond (f n) (2 ^ n) 0 + powers f n

-- the set of those that pass f
abbrev pub word : (ℕ → Bool) → ℤ
word f = pos (powers f 16)

-- what is in a or b
abbrev pub union_of : ℤ → ℤ → ℤ
union_of a b = word (λ i. has i a || has i b)

-- what is in a and b
abbrev pub intersection_of : ℤ → ℤ → ℤ
intersection_of a b = word (λ i. has i a && has i b)

-- what is in a and not in b
abbrev pub difference_of : ℤ → ℤ → ℤ
difference_of a b = word (λ i. has i a && not (has i b))

-- a with n
abbrev pub including : ℤ → ℤ → ℤ
including a n = word (λ i. has i a || i == unsigned_abs n)

-- a without n
abbrev pub excluding : ℤ → ℤ → ℤ
excluding a n = word (λ i. has i a && not (i == unsigned_abs n))

-- what lies from m to n
abbrev pub span : ℤ → ℤ → ℤ
span m n = word (λ i. int_le m (pos i) && int_le (pos i) n)

-- x if n can be an element, or none
abbrev pub if_element : {A : Type 0} → ℤ → A → Option A
if_element n x = cond (within elements n) (Some x) None

-- m and n can be elements, and are in order
abbrev pub ordered : ℤ → ℤ → Bool
ordered m n = within elements m && within elements n && int_le m n

-- r is a set, of those elements that pass f
pub record Elements (f : ℕ → Bool) (r : ℤ) : Type 0 where
  pub set : Within words r
  pub each : (i : ℕ) → i < 16 → has i r ≡ f i

-- a word made of f is the set of those that pass f
abbrev pub WordIsSet : Type 0
WordIsSet = (f : ℕ → Bool) → Elements f (word f)

-- two sets with the same elements are one
abbrev pub ElementsFix : Type 0
ElementsFix = (a b : ℤ) → Within words a → Within words b → ((i : ℕ) → i < 16 → has i a ≡ has i b) → a ≡ b
