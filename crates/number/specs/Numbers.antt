-- Numbers in the words of a script.
use Rattle.std.specs.Prelude.{◌≡◌, ℕ, List, ℤ, pos, ◌≤ℤ◌, Some, None, Ok, Err, Option, Result, FitsSigned}
use Rattle.std.specs.Int.{w64}
use Rattle.std.specs.Str.Parse.{IsNumeral, without_leading_sign, signed_digits_value}

-- the word is one decimal digit or more, after a sign or none
abbrev pub Written : List ℕ → Type 0
Written word = IsNumeral 10 (without_leading_sign word)

-- the number that it writes
abbrev pub written : List ℕ → ℤ
written word = signed_digits_value 10 word

-- r is the number that the word writes, as its type takes it, or none if the word writes none of 64 bits that the type takes
abbrev pub Reads : {X E : Type 0} → (ℤ → Result X E → Type 0) → List ℕ → Option X → Type 0
Reads takes word (Some x) = Written word × takes (written word) (Ok x)
Reads {E = E} takes word None = Written word → FitsSigned w64 (written word) → (e : E) × takes (written word) (Err e)

-- r is the number that the word writes, or none exactly if it writes none from low to high
abbrev pub Number : ℤ → ℤ → List ℕ → Option ℤ → Type 0
Number low high word (Some z) = Written word × (z ≡ written word) × (low ≤ℤ z) × (z ≤ℤ high)
Number low high word None = Written word → low ≤ℤ written word → written word ≤ℤ high → ⊥

-- an unsigned number among the integers
abbrev pub whole : Option ℕ → Option ℤ
whole (Some n) = Some (pos n)
whole None = None
