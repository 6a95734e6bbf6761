use Rattle.std.proofs.Common.{refl, arith}
use Rattle.syntax.proofs.Joins.{did, did_expect, did_map, did_push, did_seq, fails, fails_expect, fails_first, fails_then, goes_ok, goes_out, place_is, rooted}
use Rattle.syntax.proofs.Lays.{binary_lays, entry_same, lays_passed, passed_both}
use Rattle.parser.proofs.declarations.array.Goals as goal

pub returns-in_err-array : goal.returns-in_err-array
returns-in_err-array c d e = goes_out c.from_residual.ensures.1 (fails_first (fails_expect c.in_err-array.ensures))

pub returns-in_err-opening : goal.returns-in_err-opening
returns-in_err-opening c d e = goes_out c.from_residual-in_err-opening.ensures.1 (fails_then (did_expect c.in_ok-array.ensures) (fails_first (fails_expect c.in_err-opening.ensures)))

pub returns-in_err-first : goal.returns-in_err-first
returns-in_err-first c d e = goes_out c.from_residual-in_err-first.ensures.1 (fails_then (did_expect c.in_ok-array.ensures) (fails_then (did_expect c.in_ok-opening.ensures) (fails_first (fails (c.in_err-first.ensures d e)))))

pub returns-in_err-expect : goal.returns-in_err-expect
returns-in_err-expect c d e = goes_out c.from_residual-in_err-expect.ensures.1 (fails_then (did_expect c.in_ok-array.ensures) (fails_then (did_expect c.in_ok-opening.ensures) (fails_then (did (c.in_ok-first.ensures d e)) (fails_first (fails_expect c.in_err-expect.ensures)))))

pub returns-in_err-last : goal.returns-in_err-last
returns-in_err-last c d e = goes_out c.from_residual-in_err-last.ensures.1 (fails_then (did_expect c.in_ok-array.ensures) (fails_then (did_expect c.in_ok-opening.ensures) (fails_then (did (c.in_ok-first.ensures d e)) (fails_then (did_expect c.in_ok-expect.ensures) (fails_first (fails (c.in_err-last.ensures d e)))))))

pub returns-in_err-expect-2 : goal.returns-in_err-expect-2
returns-in_err-expect-2 c d e = goes_out c.from_residual-in_err-expect-2.ensures.1 (fails_then (did_expect c.in_ok-array.ensures) (fails_then (did_expect c.in_ok-opening.ensures) (fails_then (did (c.in_ok-first.ensures d e)) (fails_then (did_expect c.in_ok-expect.ensures) (fails_then (did_push (did (c.in_ok-last.ensures d e)) c.push-bounds.ensures) (fails_first (fails_expect c.in_err-expect-2.ensures)))))))

pub returns-in_err-expect-3 : goal.returns-in_err-expect-3
returns-in_err-expect-3 c d e = goes_out c.from_residual-in_err-expect-3.ensures.1 (fails_then (did_expect c.in_ok-array.ensures) (fails_then (did_expect c.in_ok-opening.ensures) (fails_then (did (c.in_ok-first.ensures d e)) (fails_then (did_expect c.in_ok-expect.ensures) (fails_then (did_push (did (c.in_ok-last.ensures d e)) c.push-bounds.ensures) (fails_then (did_expect c.in_ok-expect-2.ensures) (fails_first (fails_expect c.in_err-expect-3.ensures))))))))

pub returns-in_err-kind : goal.returns-in_err-kind
returns-in_err-kind c d e = goes_out c.from_residual-in_err-kind.ensures.1 (fails_then (did_expect c.in_ok-array.ensures) (fails_then (did_expect c.in_ok-opening.ensures) (fails_then (did (c.in_ok-first.ensures d e)) (fails_then (did_expect c.in_ok-expect.ensures) (fails_then (did_push (did (c.in_ok-last.ensures d e)) c.push-bounds.ensures) (fails_then (did_expect c.in_ok-expect-2.ensures) (fails_then (did_expect c.in_ok-expect-3.ensures) (fails (c.in_err-kind.ensures d e)))))))))

pub returns : goal.returns
returns c d e =
    goes_ok c.push.ensures.is (did_map
    (λ v g x.
    let a = x.one in
    let b = a.two in
    let f = b.two in
    let y = f.two in
    let z = y.two in
    let u = z.two in
    let m = u.two in
    let l = binary_lays f.one y.one.passed z.one.one z.one.two (entry_same c.placed.ensures refl (place_is b.one) refl (rooted (c.in_ok-first.ensures d e)) (rooted (c.in_ok-last.ensures d e))) 0 (omega arith) in
    lays_passed (passed_both a.one.passed b.one.passed)
    (binary_lays l (passed_both u.one.passed m.one.passed) m.two x.two
    (entry_same c.placed-2.ensures refl (place_is a.one) refl c.push-bounds.ensures.is (rooted (c.in_ok-kind.ensures d e))) 0 (omega arith)))
    (did_push (did_seq (did_expect c.in_ok-array.ensures) (did_seq (did_expect c.in_ok-opening.ensures) (did_seq (did (c.in_ok-first.ensures d e)) (did_seq (did_expect c.in_ok-expect.ensures) (did_seq (did_push (did (c.in_ok-last.ensures d e)) c.push-bounds.ensures) (did_seq (did_expect c.in_ok-expect-2.ensures) (did_seq (did_expect c.in_ok-expect-3.ensures) (did (c.in_ok-kind.ensures d e))))))))) c.push.ensures))
