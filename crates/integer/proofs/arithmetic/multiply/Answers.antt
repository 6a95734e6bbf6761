use Rattle.std.proofs.Common.{ap, ◌∙◌}
use Rattle.integer.specs.Ends.{integer, kept}
use Rattle.integer.proofs.Wide.{wide_product}
use Rattle.integer.proofs.arithmetic.multiply.Goals as goal

pub returns : goal.returns
returns c = c.fit.ensures ∙ ap (kept integer) (wide_product c.args.x c.args.y c.ranges.x c.ranges.y)
