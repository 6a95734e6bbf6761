use Rattle.std.proofs.Common.{refl, sym, ap, arith, ◌∙◌, ◌-◌}
use Rattle.syntax.proofs.Joins.{did, did_expect, did_map, did_node, did_push, did_seq, did_turned, fails, fails_expect, fails_first, fails_node, fails_then, fails_turn, goes_ok, goes_out, keeps_both, length_is, place_is, rooted}
use Rattle.syntax.proofs.Lays.{binary_lays, entry_same, lays_paid, passed_both, passed_none, spares_close}
use Rattle.parser.proofs.declarations.proc.Goals as goal

pub returns-in_err-expect : goal.returns-in_err-expect
returns-in_err-expect c = goes_out c.from_residual.ensures.1 (fails_node (fails_first (fails_expect c.in_err-expect.ensures)))

pub returns-in_err-name : goal.returns-in_err-name
returns-in_err-name c = goes_out c.from_residual-in_err-name.ensures.1 (fails_node (fails_then (did_expect c.in_ok-expect.ensures) (fails_first (fails_expect c.in_err-name.ensures))))

pub returns-in_err-head : goal.returns-in_err-head
returns-in_err-head c = goes_out c.from_residual-in_err-head.ensures.1 (fails_node (fails_then (did_expect c.in_ok-expect.ensures) (fails_then (did_expect c.in_ok-name.ensures) (fails_first (fails (c.in_err-head.ensures _ _))))))

pub returns-in_err-expect-2 : goal.returns-in_err-expect-2
returns-in_err-expect-2 c = goes_out c.from_residual-in_err-expect-2.ensures.1 (fails_node (fails_then (did_expect c.in_ok-expect.ensures) (fails_then (did_expect c.in_ok-name.ensures) (fails_then (did (c.in_ok-head.ensures _ _)) (fails_first (fails_expect c.in_err-expect-2.ensures))))))

pub returns-in_err-list : goal.returns-in_err-list
returns-in_err-list c = goes_out c.from_residual-in_err-list.ensures.1 (fails_node (fails_then (did_expect c.in_ok-expect.ensures) (fails_then (did_expect c.in_ok-name.ensures) (fails_then (did (c.in_ok-head.ensures _ _)) (fails_then (did_expect c.in_ok-expect-2.ensures) (fails_first (fails (c.in_err-list.ensures _ _))))))))

pub returns-in_err-inner : goal.returns-in_err-inner
returns-in_err-inner c = goes_out c.from_residual-in_err-inner.ensures.1 (fails_node (fails_then (did_expect c.in_ok-expect.ensures) (fails_then (did_expect c.in_ok-name.ensures) (fails_then (did (c.in_ok-head.ensures _ _)) (fails_then (did_expect c.in_ok-expect-2.ensures) (fails_then (did (c.in_ok-list.ensures _ _)) (fails_turn (fails_first (fails c.in_err-inner.ensures)))))))))

pub returns-in_err-expect-3 : goal.returns-in_err-expect-3
returns-in_err-expect-3 c = goes_out c.from_residual-in_err-expect-3.ensures.1 (fails_node (fails_then (did_expect c.in_ok-expect.ensures) (fails_then (did_expect c.in_ok-name.ensures) (fails_then (did (c.in_ok-head.ensures _ _)) (fails_then (did_expect c.in_ok-expect-2.ensures) (fails_then (did (c.in_ok-list.ensures _ _)) (fails_turn (fails_then (did_push (did_push (did c.in_ok-inner.ensures) c.push-block.ensures) c.push-whole.ensures) (fails_expect c.in_err-expect-3.ensures)))))))))

pub returns : goal.returns
returns c =
    let n = c.in_ok-name.ensures in
    goes_ok (c.push-whole.ensures.is ∙ ap (λ n. n - 1) (sym c.in_ok-expect-3.ensures.1.used)) (did_node (did_map
    (λ v g x.
    let b = x.two in
    let f = b.two in
    let l = f.two in
    let m = l.two in
    let t = m.two in
    let block = binary_lays {n = 0} m.one passed_none t.one.one.one t.one.one.two (entry_same c.bare.ensures refl refl refl (rooted (c.in_ok-list.ensures 0 0)) (rooted c.in_ok-inner.ensures)) 2 (omega arith) in
    let whole = binary_lays f.one l.one.passed block t.one.two
    (entry_same c.placed.ensures refl (place_is b.one) (length_is (keeps_both c.in_ok-expect.ensures.1.keeps n.1.keeps) b.one c.word_length-length.ensures) (rooted (c.in_ok-head.ensures 0 0)) c.push-block.ensures.is) 4 (omega arith) in
    spares_close (lays_paid (passed_both x.one.passed b.one.passed) whole 0 (omega arith)) t.two.passed (omega arith))
    (did_seq (did_expect c.in_ok-expect.ensures) (did_seq (did_expect c.in_ok-name.ensures) (did_seq (did (c.in_ok-head.ensures _ _)) (did_seq (did_expect c.in_ok-expect-2.ensures) (did_seq (did (c.in_ok-list.ensures _ _)) (did_turned (did_seq (did_push (did_push (did c.in_ok-inner.ensures) c.push-block.ensures) c.push-whole.ensures) (did_expect c.in_ok-expect-3.ensures))))))))))
