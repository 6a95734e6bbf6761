-- Numbers of 32 bits, calculated in 64 bits.
use Rattle.std.proofs.Common.{◌≡◌, suc, ◌^◌, ℤ, pos, negsuc, ◌*ℤ◌, ap, ◌∙◌, ap₂, arith, w32, w64, SFits, to_z, of_z}
use Rattle.std.proofs.lemmas.Nat.{mul-le}
use Rattle.std.proofs.lemmas.Int.{to_z-of_z, ints}

-- `z as i64`
abbrev pub wide : ℤ → ℤ
wide z = to_z w64 (of_z w64 (to_z w32 (of_z w32 z)))

pub wide_is : (z : ℤ) → SFits w32 z → wide z ≡ z
wide_is z f = omega (arith, ints)

product_fits : (x y : ℤ) → SFits w32 x → SFits w32 y → SFits w64 (x *ℤ y)
product_fits (pos a) (pos b) f g = omega (arith, ints, mul-le a b (2 ^ 31) (2 ^ 31) (omega (arith, ints)) (omega (arith, ints)))
product_fits (pos a) (negsuc b) f g = omega (arith, ints, mul-le a (suc b) (2 ^ 31) (2 ^ 31) (omega (arith, ints)) (omega (arith, ints)))
product_fits (negsuc a) (pos b) f g = omega (arith, ints, mul-le (suc a) b (2 ^ 31) (2 ^ 31) (omega (arith, ints)) (omega (arith, ints)))
product_fits (negsuc a) (negsuc b) f g = omega (arith, ints, mul-le (suc a) (suc b) (2 ^ 31) (2 ^ 31) (omega (arith, ints)) (omega (arith, ints)))

-- `x as i64 * y as i64`
pub wide_product : (x y : ℤ) → SFits w32 x → SFits w32 y → to_z w64 (of_z w64 (wide x *ℤ wide y)) ≡ x *ℤ y
wide_product x y f g =
    ap (λ z. to_z w64 (of_z w64 z)) (ap₂ ◌*ℤ◌ (wide_is x f) (wide_is y g)) ∙ to_z-of_z w64 (x *ℤ y) (product_fits x y f g)
