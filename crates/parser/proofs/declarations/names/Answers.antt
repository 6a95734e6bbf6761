use Rattle.std.proofs.Common.{sym, ap, arith, ◌∙◌}
use Rattle.syntax.specs.Steps.{root}
use Rattle.syntax.proofs.Joins.{did, did_map, did_seq, fails, fails_first, fails_then, goes_ok, goes_out, rooted}
use Rattle.syntax.proofs.Lays.{lays_more}
use Rattle.syntax.proofs.Parts.{fails_next, leads_end, leads_next, next_falls}
use Rattle.parser.proofs.declarations.names.Goals as goal

pub returns-in_err-all : goal.returns-in_err-all
returns-in_err-all c d e = goes_out c.from_residual.ensures.1 (fails_first (fails (c.in_err-all.ensures d e)))

pub loop-descent-init : goal.loop-descent-init
loop-descent-init c =
    record {
      leads = λ d e.
          let a = c.in_ok-all.ensures d e in
          record { on = λ p' b. did_map (λ v g x. lays_more x.one x.two) (did_seq (did a) b); off = λ k p' b. fails_then (did a) b };
      all = rooted (c.in_ok-all.ensures 0 0);
    }

pub returns-in_err-item : goal.returns-in_err-item
returns-in_err-item c d e = goes_out c.from_residual-in_err-item.ensures.1 (fails_next (c.loop-descent.invariant.leads d e) c.loop-descent-test.ensures (fails (c.in_err-item.ensures d e)))

pub loop-descent-smaller : goal.loop-descent-smaller
loop-descent-smaller c = next_falls c.loop-descent-test.ensures (c.in_ok-item.ensures 0 0) c.push-all.ensures

pub loop-descent-preserved : goal.loop-descent-preserved
loop-descent-preserved c =
    let i = c.loop-descent.invariant in
    record {
      leads = λ d e. leads_next (i.leads d e) c.loop-descent-test.ensures (c.in_ok-item.ensures d e) c.push-all.ensures c.bare.ensures i.all (omega arith);
      all = c.push-all.ensures.is;
    }

pub returns : goal.returns
returns c d e =
    let h = c.loop-descent-test.ensures in
    let i = c.loop-descent.invariant in
    goes_ok (i.all ∙ ap root (sym h.1)) (leads_end (i.leads d e) h.0 h.1)
