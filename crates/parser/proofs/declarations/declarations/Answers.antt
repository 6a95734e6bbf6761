use Rattle.std.proofs.Common.{refl}
use Rattle.syntax.specs.Forms.{declaring}
use Rattle.syntax.specs.Steps.{On}
use Rattle.syntax.proofs.Joins.{did, did_push, did_shrinks, fails, fails_cons, fails_first, goes_ok, goes_out, off_class, on_class}
use Rattle.syntax.proofs.Parts.{leads_end, leads_spared, leads_start}
use Rattle.parser.proofs.declarations.declarations.Goals as goal

pub loop-descent-init : goal.loop-descent-init
loop-descent-init c = record { leads = leads_start c.push-all.ensures c.bare.ensures; all = c.push-all.ensures.is }

pub returns-in_err-item : goal.returns-in_err-item
returns-in_err-item c =
    goes_out c.from_residual.ensures.1 (c.loop-descent.invariant.leads.off _ _ (fails_cons (on_class c.next.ensures.coded c.begins_declaration.ensures c.loop-descent-test.true tt) (fails_first (fails c.in_err-item.ensures))))

pub loop-descent-smaller : goal.loop-descent-smaller
loop-descent-smaller c =
    let o : On c.loop-descent.descent declaring = on_class c.next.ensures.coded c.begins_declaration.ensures c.loop-descent-test.true tt in
    did_shrinks tt o (did_push (did c.in_ok-item.ensures) c.push-all-in-loop-descent.ensures)

pub loop-descent-preserved : goal.loop-descent-preserved
loop-descent-preserved c =
    let i = c.loop-descent.invariant in
    record {
      leads = leads_spared i.leads (on_class c.next.ensures.coded c.begins_declaration.ensures c.loop-descent-test.true tt) c.in_ok-item.ensures c.push-all-in-loop-descent.ensures c.bare-in-loop-descent.ensures i.all;
      all = c.push-all-in-loop-descent.ensures.is;
    }

pub returns : goal.returns
returns c =
    let i = c.loop-descent.invariant in
    goes_ok i.all (leads_end i.leads (off_class c.next.ensures.coded c.begins_declaration.ensures c.loop-descent-test.false tt) refl)
