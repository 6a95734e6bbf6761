-- The width of a sample: the one place where the proofs name it.
use Rattle.std.proofs.Common.{◌≡◌, ℤ, ◌-ℤ◌, arith, w16, w64, SFits, to_z, of_z}
use mir.Syntax.{Width}
use Rattle.std.proofs.lemmas.Int.{to_z-of_z, ints}

-- the width of a sample
abbrev pub width : Width
width = w16

-- z is a sample
abbrev pub Fits : ℤ → Type 0
Fits z = SFits width z

-- a sample that is handed on is the same sample
pub same : (z : ℤ) → Fits z → to_z width (of_z width z) ≡ z
same z fits = to_z-of_z width z fits

-- the difference of two samples fits twice over
pub difference : (y z : ℤ) → Fits y → Fits z → to_z w64 (of_z w64 (to_z w64 (of_z w64 (to_z width (of_z width y))) -ℤ to_z w64 (of_z w64 (to_z width (of_z width z))))) ≡ y -ℤ z
difference y z p q = omega (arith, ints)
