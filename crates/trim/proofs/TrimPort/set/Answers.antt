use Rattle.std.proofs.Common.{ap, ◌∙◌}
use Rattle.ports.specs.Calls.{set_after}
use Rattle.ports.proofs.Width.{same}
use Rattle.trim.specs.Trims.{trimmed}
use Rattle.trim.proofs.Trimming.{trimmed_set}
use Rattle.trim.proofs.TrimPort.set.Goals as goal

pub returns-clause-after : goal.returns-clause-after
returns-clause-after g c =
    let os = c.args.self.now.offsets.each in
    let m = g.P.Port.meaning c.args.self.now.lower in
    let k = c.args.c in
    let v = c.args.v in
    ap (trimmed os) (c.set.ensures.after ∙ ap (set_after m k) (same v c.ranges.v)) ∙ trimmed_set os m k v
