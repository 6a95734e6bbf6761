-- Numbers between two ends: the test of them, and what is held there.
use Rattle.std.proofs.Common.{◌≡◌, ℤ, ◌≤ℤ◌, sym, subst, arith}
use Rattle.std.proofs.lemmas.Int.{ints}
use Rattle.integer.specs.Bands.{Nearest, HeldIsNearest}
use Rattle.integer.specs.Ends.{Ends, WithinIsTested, held}

pub within_tested : WithinIsTested
within_tested e z = (λ t. grind (arith, ints), λ h. grind (arith, ints))

pub held_nearest : HeldIsNearest
held_nearest e z h = record {
  inside = grind (arith, ints);
  same = grind (arith, ints);
  below = grind (arith, ints);
  above = grind (arith, ints);
  least = grind (arith, ints);
}

pub nearest_at : (e : Ends) (z r : ℤ) → e.low ≤ℤ e.high → r ≡ held e z → Nearest e z r
nearest_at e z r h is = subst (Nearest e z) (sym is) (held_nearest e z h)
