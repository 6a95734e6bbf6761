use Rattle.std.proofs.Common.{arith}
use Rattle.std.proofs.lemmas.Int.{ints, clamps}
use Rattle.integer.specs.Bands.{band}
use Rattle.integer.proofs.Between.{nearest_at}
use Rattle.integer.proofs.bands.clamp.Goals as goal

pub returns-else-x-low-clause-nearest : goal.returns-else-x-low-clause-nearest
returns-else-x-low-clause-nearest c = λ h. nearest_at (band c.args.low c.args.high) c.args.x _ h (grind (arith, ints, clamps))
