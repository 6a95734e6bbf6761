use Rattle.std.proofs.Common.{subst, ap, ◌∙◌}
use Rattle.piles.specs.Exchanges.{Exchanges}
use Rattle.piles.specs.Piles.{paired}
use Rattle.piles.proofs.uses.through_four.Goals as goal

pub returns : goal.returns
returns g c = subst (λ m. Exchanges m c.args.handed c.exchange.result) (c.pair-port.ensures.means ∙ ap (paired c.args.layers.high) c.pair.ensures.means) c.exchange.ensures
