-- Samples are INTEGERs, and so is what is held at INTEGER's ends or between two INTEGERs.
use Rattle.std.proofs.Common.{◌≡◌, ℤ, arith, w32, to_z, of_z}
use Rattle.std.proofs.lemmas.Int.{ints}
use Rattle.integer.specs.Ends.{integer, held, clamped}
use Rattle.ports.specs.Law.{Integer}
use Rattle.ports.specs.Stored.{stored}
use Rattle.ports.proofs.Width.{width, Fits}

pub held_integer : (z : ℤ) → Integer (held integer z)
held_integer z = (grind (arith, ints), grind (arith, ints))

pub clamped_integer : (low high z : ℤ) → Integer low → Integer high → Integer z → Integer (clamped low high z)
clamped_integer low high z l h i = (grind (arith, ints), grind (arith, ints))

pub stored_integer : (z : ℤ) → Integer (stored z)
unfolding stored
stored_integer z = held_integer z

-- a sample that a port keeps is that sample
pub stored_same : (z : ℤ) → Fits z → stored z ≡ z
unfolding stored
stored_same z fits = grind (arith, ints)

-- an INTEGER that is narrowed to a sample is the same number
pub narrowed : (z : ℤ) → Integer z → to_z width (of_z width (to_z w32 (of_z w32 z))) ≡ z
narrowed z i = omega (arith, ints)
