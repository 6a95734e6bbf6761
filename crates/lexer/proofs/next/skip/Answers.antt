use Rattle.std.proofs.Common.{sym, ◌∙◌, arith, rules}
use Rattle.std.proofs.lemmas.List.{length-take, length-drop}
use Rattle.lexer.proofs.Skips.{turn, arrives}
use Rattle.lexer.proofs.next.skip.Goals as goal

pub returns-else-depth-eq0-clause-is : goal.returns-else-depth-eq0-clause-is
returns-else-depth-eq0-clause-is c =
    let a = arrives c.args.source.now c.args.from c.min-at.result c.turns.at c.turns.depth c.turns.opened _ c.min-at.ensures c.turns.invariant.2 c.in-Done.ensures.is in search rules

pub returns-then-depth-eq0-clause-is : goal.returns-then-depth-eq0-clause-is
returns-then-depth-eq0-clause-is c =
    let a = arrives c.args.source.now c.args.from c.min-at.result c.turns.at c.turns.depth c.turns.opened _ c.min-at.ensures c.turns.invariant.2 c.in-Done.ensures.is in search rules

pub returns-in-Stop-clause-is : goal.returns-in-Stop-clause-is
returns-in-Stop-clause-is c =
    arrives c.args.source.now c.args.from c.min-at.result c.turns.at c.turns.depth c.turns.opened _ c.min-at.ensures c.turns.invariant.2 c.in-Stop.ensures.is

pub turns-preserved-in-Open : goal.turns-preserved-in-Open
turns-preserved-in-Open c =
    let t = turn c.args.source.now c.turns.at c.turns.depth c.turns.opened _ c.in-Open.ensures.is in
    let r = simp (length-take, length-drop) at c.in-Open.ensures.room in
    (omega arith, omega arith, sym t ∙ c.turns.invariant.2)

pub turns-preserved-in-Nest : goal.turns-preserved-in-Nest
turns-preserved-in-Nest c =
    let t = turn c.args.source.now c.turns.at c.turns.depth c.turns.opened _ c.in-Nest.ensures.is in
    let r = simp (length-take, length-drop) at c.in-Nest.ensures.room in
    (omega arith, omega arith, sym t ∙ c.turns.invariant.2)

pub turns-preserved-in-Close : goal.turns-preserved-in-Close
turns-preserved-in-Close c =
    let t = turn c.args.source.now c.turns.at c.turns.depth c.turns.opened _ c.in-Close.ensures.is in
    let r = simp (length-take, length-drop) at c.in-Close.ensures.room in
    (omega arith, omega arith, sym t ∙ c.turns.invariant.2)

pub turns-preserved : goal.turns-preserved
turns-preserved c =
    let t = turn c.args.source.now c.turns.at c.turns.depth c.turns.opened _ c.in-Pass.ensures.is in
    let r = simp (length-take, length-drop) at c.in-Pass.ensures.room in
    (omega arith, omega arith, sym t ∙ c.turns.invariant.2)
