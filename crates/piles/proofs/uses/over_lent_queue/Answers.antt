use Rattle.std.proofs.Common.{subst}
use Rattle.piles.specs.Exchanges.{Exchanges}
use Rattle.piles.specs.Piles.{piled}
use Rattle.piles.proofs.uses.over_lent_queue.Goals as goal

pub returns : goal.returns
returns c = subst (λ m. Exchanges (piled c.args.layers m) c.args.handed c.through_four.result) c.new-queue.ensures.means c.through_four.ensures
