use Rattle.std.proofs.Common.{ap, ◌∙◌}
use Rattle.ports.specs.Calls.{feed_answer}
use Rattle.piles.specs.Piles.{paired}
use Rattle.piles.proofs.uses.held.Goals as goal

pub returns : goal.returns
returns c =
    c.feed.ensures.answer
    ∙ ap (λ m. feed_answer m c.args.c) (c.new-holder.ensures.means ∙ c.pair-2.ensures.means ∙ ap (paired c.args.layers.high) (c.pair.ensures.means ∙ ap (paired c.args.layers.low) c.new.ensures.means))
