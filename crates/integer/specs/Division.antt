-- Division by a divisor of at least 1: the quotient is rounded down, so the remainder is never negative.
use Rattle.std.specs.Prelude.{◌≡◌, cond, List, [], ◌∷◌, map, ℤ, pos, ◌+ℤ◌, ◌-ℤ◌, ◌*ℤ◌, neg_ℤ, ◌≤ℤ◌, ◌<ℤ◌, Some, None, Option, int_le}
use Rattle.std.specs.Int.{int_div_euclid}
use Rattle.integer.specs.Ends.{Ends, Within, integer}

-- a quotient with what it leaves of x
abbrev pub paired : ℤ → ℤ → ℤ → ℤ × ℤ
paired x y q = (q, x -ℤ (q *ℤ y))

-- quotient and remainder of x by y, or none for a divisor below 1
abbrev pub divided : ℤ → ℤ → Option (ℤ × ℤ)
divided x y = cond (int_le (pos 1) y) (Some (paired x y (int_div_euclid x y))) None

-- the law of the pair (q, r): x is q times y and r, and r is at least 0 and below y
abbrev pub Divides : ℤ → ℤ → ℤ × ℤ → Type 0
Divides x y p = (x ≡ (p.0 *ℤ y) +ℤ p.1) × (pos 0 ≤ℤ p.1) × (p.1 <ℤ y)

-- no two pairs satisfy the law
abbrev pub PairIsUnique : Type 0
PairIsUnique = (x y : ℤ) (p s : ℤ × ℤ) → Divides x y p → Divides x y s → p ≡ s

-- any two ends that hold 0, x and y hold the quotient and the remainder
abbrev pub PairIsWithin : Type 0
PairIsWithin = (e : Ends) (x y : ℤ) (p : ℤ × ℤ) → Within e (pos 0) → Within e x → Within e y → Divides x y p → Within e p.0 × Within e p.1

-- dividend, divisor and answer of worked examples
abbrev pub examples : List (ℤ × ℤ × Option (ℤ × ℤ))
examples =
    (neg_ℤ (pos 3), pos 8, Some (neg_ℤ (pos 1), pos 5))
    ∷ (pos 3, pos 8, Some (pos 0, pos 3))
    ∷ (integer.low, pos 1, Some (integer.low, pos 0))
    ∷ (integer.low, pos 8, Some (neg_ℤ (pos 4096), pos 0))
    ∷ (integer.low, pos 32767, Some (neg_ℤ (pos 2), pos 32766))
    ∷ (integer.high, pos 1, Some (integer.high, pos 0))
    ∷ (integer.high, pos 8, Some (pos 4095, pos 7))
    ∷ (integer.high, pos 32767, Some (pos 1, pos 0))
    ∷ (pos 7, pos 0, None)
    ∷ (pos 7, neg_ℤ (pos 2), None)
    ∷ []

-- each example's answer is the one calculated
abbrev pub ExamplesHold : Type 0
ExamplesHold = map (λ row. divided row.0 row.1) examples ≡ map (λ row. row.2) examples
