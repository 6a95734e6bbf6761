use Rattle.std.proofs.Common.{◌≡◌, sym, ap, ◌∙◌, to_z, of_z, rules}
use Rattle.ports.specs.Calls.{look_answer, feed_after}
use Rattle.ports.specs.Refusals.{numbered}
use Rattle.ports.proofs.Width.{width, same}
use Rattle.trim.specs.Trims.{trimmed}
use Rattle.trim.proofs.Trimming.{trimmed_look, trimmed_fed}
use Rattle.piles.proofs.uses.seen_after.Goals as goal

pub returns : goal.returns
returns g c =
    let k = c.args.c in
    let v = c.args.v in
    let os = c.args.offsets.each in
    let m = g.P.Port.meaning c.args.port.now in
    let t = c.feed.new.self in
    let below = g.P.Port.meaning t.lower.now in
    let made = c.new-trim.ensures.lent in
    let kept = c.feed.ensures.lent in
    let there : numbered c.look.result ≡ look_answer below k = search rules in
    let fed : trimmed t.offsets.each below ≡ trimmed os (feed_after m k v) =
    c.feed.ensures.after ∙ ap (λ n. feed_after n k (to_z width (of_z width v))) c.new-trim.ensures.means ∙ ap (feed_after (trimmed os m) k) (same v c.ranges.v) ∙ sym (trimmed_fed os m k v)
    in
    there ∙ trimmed_look t.offsets.each below k ∙ ap (λ n. look_answer n k) fed ∙ sym (trimmed_look os (feed_after m k v) k)
