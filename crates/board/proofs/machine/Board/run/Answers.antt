use Rattle.std.proofs.Common.{ap, ◌∙◌, arith, rules}
use Rattle.instructions.specs.Steps.{spent}
use Rattle.board.specs.Seen.{view}
use Rattle.board.proofs.Turning.{within, went_all, event, stopped, turned_out}
use Rattle.board.proofs.machine.Board.run.Goals as goal

pub overflow_add-executed : goal.overflow_add-executed
overflow_add-executed g c =
    let w = within c.args.budget c.loop-executed.executed c.loop-executed.events c.steps-stretch.result.executed c.steps-stretch.result.act _ _ (view g.P.Port.meaning c.args.self.now) _ c.loop-executed.invariant.2 c.loop-executed-test.true c.steps-stretch.ensures.gone in
    search rules

pub loop-executed-smaller-in-Went : goal.loop-executed-smaller-in-Went
loop-executed-smaller-in-Went g c =
    let w = went_all c.args.budget c.loop-executed.executed c.loop-executed.events c.steps-stretch.result.executed c.steps-stretch.result.act _ _ _ _ c.loop-executed.invariant.2 c.loop-executed-test.true c.steps-stretch.ensures.gone c.in-Went.ensures.gone in
    omega (arith, w.0)

pub loop-executed-preserved-in-Went : goal.loop-executed-preserved-in-Went
loop-executed-preserved-in-Went g c =
    let w = went_all c.args.budget c.loop-executed.executed c.loop-executed.events c.steps-stretch.result.executed c.steps-stretch.result.act _ _ _ _ c.loop-executed.invariant.2 c.loop-executed-test.true c.steps-stretch.ensures.gone c.in-Went.ensures.gone in
    (omega (arith, c.loop-executed.invariant.0), omega (arith, w.0), w.1, c.meet.ensures.lent ∙ c.loop-executed.invariant.3)

pub overflow_add-executed-in-Event : goal.overflow_add-executed-in-Event
overflow_add-executed-in-Event g c =
    let w = event c.args.budget c.loop-executed.executed c.loop-executed.events c.steps-stretch.result.executed c.steps-stretch.result.act _ _ _ _ c.loop-executed.invariant.2 c.loop-executed-test.true c.steps-stretch.ensures.gone c.in-Event.ensures.gone in
    let few = w.0 in
    search rules

pub loop-executed-preserved : goal.loop-executed-preserved
loop-executed-preserved g c =
    let w = event c.args.budget c.loop-executed.executed c.loop-executed.events c.steps-stretch.result.executed c.steps-stretch.result.act _ _ _ _ c.loop-executed.invariant.2 c.loop-executed-test.true c.steps-stretch.ensures.gone c.in-Event.ensures.gone in
    (omega (arith, c.loop-executed.invariant.0), omega (arith, w.0), w.1, c.meet.ensures.lent ∙ c.loop-executed.invariant.3)

pub returns-in-Stopped-clause-gone : goal.returns-in-Stopped-clause-gone
returns-in-Stopped-clause-gone g c = stopped c.args.budget c.loop-executed.executed c.loop-executed.events c.steps-stretch.result.executed c.steps-stretch.result.act _ _ _ _ c.loop-executed.invariant.2 c.loop-executed-test.true c.steps-stretch.ensures.gone c.in-Stopped.outcome c.in-Stopped.ensures.gone

pub returns-clause-gone : goal.returns-clause-gone
returns-clause-gone g c = turned_out c.args.budget c.loop-executed.executed c.loop-executed.executed c.loop-executed.events _ _ _ c.loop-executed.invariant.2 c.loop-executed-test.false (c.from.ensures ∙ ap spent c.status.ensures)
