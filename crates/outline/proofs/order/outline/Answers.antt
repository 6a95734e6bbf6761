use Rattle.std.proofs.Common.{arith}
use Rattle.outline.proofs.Outlines.{inside}
use Rattle.outline.proofs.order.outline.Goals as goal

pub returns-then-root-min : goal.returns-then-root-min
returns-then-root-min c s h p z =
    let i = inside c.args.tree.now 0 c.args.root s p in
    let t = c.if-root-min.true in
    let m = c.min.ensures in
    absurd (omega arith)
