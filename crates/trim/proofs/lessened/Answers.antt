use Rattle.std.proofs.Common.{◌≡◌, ◌-ℤ◌, sym, ap, ◌∙◌, subst}
use Rattle.integer.specs.Ends.{integer, held}
use Rattle.ports.specs.Law.{Integer}
use Rattle.ports.proofs.Integers.{held_integer, narrowed}
use Rattle.ports.proofs.Width.{difference}
use Rattle.trim.specs.Trims.{less}
use Rattle.trim.proofs.lessened.Goals as goal

pub returns : goal.returns
unfolding less
returns c =
    let z = c.args.z in
    let o = c.args.offset in
    let e : c.saturate.result ≡ held integer (z -ℤ o) = c.saturate.ensures.answer ∙ ap (held integer) (difference z o c.ranges.z c.ranges.offset) in
    narrowed _ (subst Integer (sym e) (held_integer (z -ℤ o))) ∙ e
