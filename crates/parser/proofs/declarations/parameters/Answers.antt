use Rattle.std.proofs.Common.{sym, ap, arith, ◌∙◌}
use Rattle.syntax.specs.Steps.{root}
use Rattle.syntax.proofs.Joins.{fails, goes_ok, goes_out}
use Rattle.syntax.proofs.Parts.{fails_items, fails_next, goes_no_items, leads_end, leads_first, leads_next, next_falls}
use Rattle.parser.proofs.declarations.parameters.Goals as goal

pub returns-then-not-is_next : goal.returns-then-not-is_next
returns-then-not-is_next c d e = goes_no_items c.push-all.ensures c.bare.ensures c.if-not-is_next.ensures

pub returns-in_err-first : goal.returns-in_err-first
returns-in_err-first c d e = goes_out c.from_residual.ensures.1 (fails_items c.push-all.ensures c.if-not-is_next.ensures (fails (c.in_err-first.ensures d e)))

pub loop-descent-init : goal.loop-descent-init
loop-descent-init c =
    record {
      leads = λ d e. leads_first c.push-all.ensures c.bare.ensures c.if-not-is_next.ensures (c.in_ok-first.ensures d e) c.push-all-2.ensures c.bare-2.ensures;
      all = c.push-all-2.ensures.is;
    }

pub returns-in_err-item : goal.returns-in_err-item
returns-in_err-item c d e = goes_out c.from_residual-in_err-item.ensures.1 (fails_next (c.loop-descent.invariant.leads d e) c.loop-descent-test.ensures (fails (c.in_err-item.ensures d e)))

pub loop-descent-smaller : goal.loop-descent-smaller
loop-descent-smaller c = next_falls c.loop-descent-test.ensures (c.in_ok-item.ensures 0 0) c.push-all-in-loop-descent.ensures

pub loop-descent-preserved : goal.loop-descent-preserved
loop-descent-preserved c =
    let i = c.loop-descent.invariant in
    record {
      leads = λ d e. leads_next (i.leads d e) c.loop-descent-test.ensures (c.in_ok-item.ensures d e) c.push-all-in-loop-descent.ensures c.bare-in-loop-descent.ensures i.all (omega arith);
      all = c.push-all-in-loop-descent.ensures.is;
    }

pub returns : goal.returns
returns c d e =
    let h = c.loop-descent-test.ensures in
    let i = c.loop-descent.invariant in
    goes_ok (i.all ∙ ap root (sym h.1)) (leads_end (i.leads d e) h.0 h.1)
