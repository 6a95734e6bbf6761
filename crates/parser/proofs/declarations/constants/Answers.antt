use Rattle.std.proofs.Common.{refl, arith}
use Rattle.syntax.proofs.Joins.{did, did_expect, did_map, did_on, did_push, did_seq, did_shrinks, fails, fails_cons, fails_expect, fails_first, fails_then, goes_ok, goes_out, length_is, place_is, rooted}
use Rattle.syntax.proofs.Lays.{entry_same, extends_item, spares_leaf, spares_more, unary_lays}
use Rattle.syntax.proofs.Parts.{leads_end, leads_item}
use Rattle.parser.proofs.declarations.constants.Goals as goal

pub returns-in_err-word : goal.returns-in_err-word
returns-in_err-word c d e = goes_out c.from_residual.ensures.1 (fails_first (fails_expect c.in_err-word.ensures))

pub loop-descent-init : goal.loop-descent-init
loop-descent-init c =
    record {
      leads = λ d e. record {
        on = λ p' b. did_map (λ v g x. spares_more (spares_leaf _ x.one.one.passed (entry_same c.placed.ensures refl (place_is x.one.one) refl refl refl) x.one.two) x.two) (did_seq (did_push (did_expect c.in_ok-word.ensures) c.push-all.ensures) b);
        off = λ k p' b. fails_then (did_push (did_expect c.in_ok-word.ensures) c.push-all.ensures) b;
      };
      all = c.push-all.ensures.is;
    }

pub returns-in_err-expect : goal.returns-in_err-expect
returns-in_err-expect c d e =
    let h = c.loop-descent-test.ensures in
    goes_out c.from_residual-in_err-expect.ensures.1 ((c.loop-descent.invariant.leads d e).off _ _ (fails_cons h (fails_first (fails_then (did_on c.pass-name.ensures h) (fails_first (fails_expect c.in_err-expect.ensures))))))

pub returns-in_err-value : goal.returns-in_err-value
returns-in_err-value c d e =
    let h = c.loop-descent-test.ensures in
    goes_out c.from_residual-in_err-value.ensures.1 ((c.loop-descent.invariant.leads d e).off _ _ (fails_cons h (fails_first (fails_then (did_on c.pass-name.ensures h) (fails_then (did_expect c.in_ok-expect.ensures) (fails_first (fails (c.in_err-value.ensures d e))))))))

pub returns-in_err-expect-2 : goal.returns-in_err-expect-2
returns-in_err-expect-2 c d e =
    let h = c.loop-descent-test.ensures in
    goes_out c.from_residual-in_err-expect-2.ensures.1 ((c.loop-descent.invariant.leads d e).off _ _ (fails_cons h (fails_first (fails_then (did_on c.pass-name.ensures h) (fails_then (did_expect c.in_ok-expect.ensures) (fails_then (did (c.in_ok-value.ensures d e)) (fails_expect c.in_err-expect-2.ensures)))))))

pub loop-descent-smaller : goal.loop-descent-smaller
loop-descent-smaller c =
    let h = c.loop-descent-test.ensures in
    did_shrinks tt h (did_push (did_push (did_seq (did_on {d = 0} {e = 0} c.pass-name.ensures h) (did_seq (did_expect c.in_ok-expect.ensures) (did_seq (did (c.in_ok-value.ensures 0 0)) (did_expect c.in_ok-expect-2.ensures)))) c.push-item.ensures) c.push-all-in-loop-descent.ensures)

pub loop-descent-preserved : goal.loop-descent-preserved
loop-descent-preserved c =
    let h = c.loop-descent-test.ensures in
    let i = c.loop-descent.invariant in
    record {
      leads = λ d e. leads_item (i.leads d e) h (did_map
          (λ v g x.
          let a = x.one.one in
          let b = a.two in
          let z = b.two in
          extends_item a.one.passed
          (unary_lays {m = 1} {n = 1} b.one.passed z.one z.two.passed x.one.two
          (entry_same c.placed-in-loop-descent.ensures refl (place_is a.one) (length_is c.pass-name.ensures.keeps a.one c.word_length-length.ensures) (rooted (c.in_ok-value.ensures d e)) refl) 0 (omega arith)) x.two
          (entry_same c.bare.ensures refl refl refl i.all c.push-item.ensures.is) 0 (omega arith))
          (did_push (did_push (did_seq (did_on c.pass-name.ensures h) (did_seq (did_expect c.in_ok-expect.ensures) (did_seq (did (c.in_ok-value.ensures d e)) (did_expect c.in_ok-expect-2.ensures)))) c.push-item.ensures) c.push-all-in-loop-descent.ensures));
      all = c.push-all-in-loop-descent.ensures.is;
    }

pub returns : goal.returns
returns c d e =
    let i = c.loop-descent.invariant in
    goes_ok i.all (leads_end (i.leads d e) c.loop-descent-test.ensures refl)
