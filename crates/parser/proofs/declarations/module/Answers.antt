use Rattle.std.proofs.Common.{refl, sym, ap, arith, ◌∙◌, ◌-◌}
use Rattle.syntax.proofs.Joins.{did, did_expect, did_map, did_node, did_push, did_seq, did_turned, fails, fails_expect, fails_first, fails_node, fails_then, fails_turn, goes_ok, goes_out, keeps_both, length_is, place_is, rooted}
use Rattle.syntax.proofs.Lays.{binary_lays, entry_same, lays_close, lays_paid, passed_both, passed_none}
use Rattle.parser.proofs.declarations.module.Goals as goal

pub returns-in_err-expect : goal.returns-in_err-expect
returns-in_err-expect c = goes_out c.from_residual.ensures.1 (fails_node (fails_first (fails_expect c.in_err-expect.ensures)))

pub returns-in_err-name : goal.returns-in_err-name
returns-in_err-name c = goes_out c.from_residual-in_err-name.ensures.1 (fails_node (fails_then (did_expect c.in_ok-expect.ensures) (fails_first (fails_expect c.in_err-name.ensures))))

pub returns-in_err-expect-2 : goal.returns-in_err-expect-2
returns-in_err-expect-2 c = goes_out c.from_residual-in_err-expect-2.ensures.1 (fails_node (fails_then (did_expect c.in_ok-expect.ensures) (fails_then (did_expect c.in_ok-name.ensures) (fails_first (fails_expect c.in_err-expect-2.ensures)))))

pub returns-in_err-list : goal.returns-in_err-list
returns-in_err-list c = goes_out c.from_residual-in_err-list.ensures.1 (fails_node (fails_then (did_expect c.in_ok-expect.ensures) (fails_then (did_expect c.in_ok-name.ensures) (fails_then (did_expect c.in_ok-expect-2.ensures) (fails_first (fails c.in_err-list.ensures))))))

pub returns-in_err-inner : goal.returns-in_err-inner
returns-in_err-inner c = goes_out c.from_residual-in_err-inner.ensures.1 (fails_node (fails_then (did_expect c.in_ok-expect.ensures) (fails_then (did_expect c.in_ok-name.ensures) (fails_then (did_expect c.in_ok-expect-2.ensures) (fails_then (did c.in_ok-list.ensures) (fails_turn (fails_first (fails c.in_err-inner.ensures))))))))

pub returns-in_err-expect-3 : goal.returns-in_err-expect-3
returns-in_err-expect-3 c = goes_out c.from_residual-in_err-expect-3.ensures.1 (fails_node (fails_then (did_expect c.in_ok-expect.ensures) (fails_then (did_expect c.in_ok-name.ensures) (fails_then (did_expect c.in_ok-expect-2.ensures) (fails_then (did c.in_ok-list.ensures) (fails_turn (fails_then (did c.in_ok-inner.ensures) (fails_expect c.in_err-expect-3.ensures))))))))

pub returns : goal.returns
returns c =
    let n = c.in_ok-name.ensures in
    goes_ok c.push.ensures.is (did_node (did_map
    (λ v g x.
    let a = x.one in
    let b = a.two in
    let l = b.two in
    let m = l.two in
    let t = m.two in
    lays_paid (passed_both (passed_both a.one.passed b.one.passed) l.one.passed)
    (binary_lays {n = 0} m.one passed_none (lays_close {n = 1} t.one t.two.passed 0 (omega arith)) x.two
    (entry_same c.placed.ensures refl (place_is b.one) (length_is (keeps_both c.in_ok-expect.ensures.1.keeps n.1.keeps) b.one c.word_length-length.ensures) (rooted c.in_ok-list.ensures) (rooted c.in_ok-inner.ensures ∙ ap (λ n. n - 1) (sym t.two.passed.used))) 2 (omega arith)) 0 (omega arith))
    (did_push (did_seq (did_expect c.in_ok-expect.ensures) (did_seq (did_expect c.in_ok-name.ensures) (did_seq (did_expect c.in_ok-expect-2.ensures) (did_seq (did c.in_ok-list.ensures) (did_turned (did_seq (did c.in_ok-inner.ensures) (did_expect c.in_ok-expect-3.ensures))))))) c.push.ensures)))
