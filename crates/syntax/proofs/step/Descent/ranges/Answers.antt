use Rattle.std.proofs.Common.{◌∙◌, sym, ap, arith}
use Rattle.syntax.specs.Steps.{root}
use Rattle.syntax.proofs.Joins.{fails, goes_ok, goes_out, on_class, off_class}
use Rattle.syntax.proofs.Parts.{leads_first, leads_next, leads_end, fails_items, fails_next, next_falls, goes_no_items}
use Rattle.syntax.proofs.step.Descent.ranges.Goals as goal

pub returns-then-not-begins_elem : goal.returns-then-not-begins_elem
returns-then-not-begins_elem c d e = goes_no_items c.push-all.ensures c.bare.ensures (off_class c.next.ensures.coded c.begins_elem.ensures c.if-not-begins_elem.true tt)

pub returns-in_err-first : goal.returns-in_err-first
returns-in_err-first c d e =
    goes_out c.from_residual.ensures.1 (fails_items c.push-all.ensures (on_class c.next.ensures.coded c.begins_elem.ensures c.if-not-begins_elem.false tt) (fails (c.in_err-first.ensures d e)))

pub loop-self-init : goal.loop-self-init
loop-self-init c =
    record {
      leads = λ d e. leads_first c.push-all.ensures c.bare.ensures (on_class c.next.ensures.coded c.begins_elem.ensures c.if-not-begins_elem.false tt) (c.in_ok-first.ensures d e) c.push-all-2.ensures c.bare-2.ensures;
      all = c.push-all-2.ensures.is;
    }

pub returns-in_err-item : goal.returns-in_err-item
returns-in_err-item c d e = goes_out c.from_residual-in_err-item.ensures.1 (fails_next (c.loop-self.invariant.leads d e) c.loop-self-test.ensures (fails (c.in_err-item.ensures d e)))

pub loop-self-smaller : goal.loop-self-smaller
loop-self-smaller c = next_falls c.loop-self-test.ensures (c.in_ok-item.ensures 0 0) c.push-all-in-loop-self.ensures

pub loop-self-preserved : goal.loop-self-preserved
loop-self-preserved c =
    let i = c.loop-self.invariant in
    record {
      leads = λ d e. leads_next (i.leads d e) c.loop-self-test.ensures (c.in_ok-item.ensures d e) c.push-all-in-loop-self.ensures c.bare-in-loop-self.ensures i.all (omega arith);
      all = c.push-all-in-loop-self.ensures.is;
    }

pub returns : goal.returns
returns c d e =
    let h = c.loop-self-test.ensures in
    let i = c.loop-self.invariant in
    goes_ok (i.all ∙ ap root (sym h.1)) (leads_end (i.leads d e) h.0 h.1)
