use Rattle.std.proofs.Common.{ap, ◌∙◌}
use Rattle.ports.specs.Calls.{feed_after}
use Rattle.ports.proofs.Width.{same}
use Rattle.clip.specs.Clips.{clipped}
use Rattle.clip.proofs.Clipping.{clipped_fed}
use Rattle.clip.proofs.ClipPort.feed.Goals as goal

pub returns-clause-after : goal.returns-clause-after
returns-clause-after g c =
    let bands = c.args.self.now.bands.each in
    let m = g.P.Port.meaning c.args.self.now.lower in
    let k = c.args.c in
    let v = c.args.v in
    ap (clipped bands) (c.feed.ensures.after ∙ ap (feed_after m k) (same v c.ranges.v)) ∙ clipped_fed bands m k v
