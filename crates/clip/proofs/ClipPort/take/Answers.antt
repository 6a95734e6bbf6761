use Rattle.std.proofs.Common.{ap, ◌∙◌}
use Rattle.clip.specs.Clips.{clipped}
use Rattle.clip.proofs.Clipping.{clipped_took}
use Rattle.clip.proofs.ClipPort.take.Goals as goal

pub returns-clause-after : goal.returns-clause-after
returns-clause-after g c =
    let bands = c.args.self.now.bands.each in
    ap (clipped bands) c.take.ensures.after ∙ clipped_took bands (g.P.Port.meaning c.args.self.now.lower) c.args.c
