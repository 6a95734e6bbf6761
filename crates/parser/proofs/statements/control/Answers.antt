use Rattle.std.proofs.Common.{refl, arith}
use Rattle.syntax.proofs.Joins.{did, did_expect, did_map, did_node, did_push, did_seq, fails, fails_expect, fails_first, fails_node, fails_then, goes_ok, goes_out, length_is, place_is, rooted}
use Rattle.syntax.proofs.Lays.{binary_lays, entry_same, passed_both, passed_none, unary_lays}
use Rattle.parser.proofs.statements.control.Goals as goal

pub returns-in_err-name : goal.returns-in_err-name
returns-in_err-name c e = goes_out c.from_residual.ensures.1 (fails_node (fails_first (fails_expect c.in_err-name.ensures)))

pub returns-in_err-expect : goal.returns-in_err-expect
returns-in_err-expect c e = goes_out c.from_residual-in_err-expect.ensures.1 (fails_node (fails_then (did_expect c.in_ok-name.ensures) (fails_first (fails_expect c.in_err-expect.ensures))))

pub returns-in_err-first : goal.returns-in_err-first
returns-in_err-first c e = goes_out c.from_residual-in_err-first.ensures.1 (fails_node (fails_then (did_expect c.in_ok-name.ensures) (fails_then (did_expect c.in_ok-expect.ensures) (fails_first (fails (c.in_err-first.ensures e))))))

pub returns-in_err-expect-2 : goal.returns-in_err-expect-2
returns-in_err-expect-2 c e = goes_out c.from_residual-in_err-expect-2.ensures.1 (fails_node (fails_then (did_expect c.in_ok-name.ensures) (fails_then (did_expect c.in_ok-expect.ensures) (fails_then (did (c.in_ok-first.ensures e)) (fails_first (fails_expect c.in_err-expect-2.ensures))))))

pub returns-in_err-last : goal.returns-in_err-last
returns-in_err-last c e = goes_out c.from_residual-in_err-last.ensures.1 (fails_node (fails_then (did_expect c.in_ok-name.ensures) (fails_then (did_expect c.in_ok-expect.ensures) (fails_then (did (c.in_ok-first.ensures e)) (fails_then (did_expect c.in_ok-expect-2.ensures) (fails_first (fails (c.in_err-last.ensures e))))))))

pub returns-in_err-step : goal.returns-in_err-step
returns-in_err-step c e = goes_out c.from_residual-in_err-step.ensures.1 (fails_node (fails_then (did_expect c.in_ok-name.ensures) (fails_then (did_expect c.in_ok-expect.ensures) (fails_then (did (c.in_ok-first.ensures e)) (fails_then (did_expect c.in_ok-expect-2.ensures) (fails_then (did_push (did (c.in_ok-last.ensures e)) c.push-limits.ensures) (fails (c.in_err-step.ensures _ e))))))))

pub returns : goal.returns
returns c e =
    let n = c.in_ok-name.ensures in
    goes_ok c.push.ensures.is (did_node (did_map
    (λ v g x.
    let a = x.one.one in
    let b = a.two in
    let y = b.two in
    let z = y.two in
    let u = z.two in
    let l₁ = binary_lays y.one z.one.passed u.one.one u.one.two (entry_same c.bare.ensures refl refl refl (rooted (c.in_ok-first.ensures e)) (rooted (c.in_ok-last.ensures e))) 0 (omega arith) in
    let l₂ = binary_lays {n = 0} l₁ passed_none u.two x.one.two (entry_same c.bare-2.ensures refl refl refl c.push-limits.ensures.is (rooted (c.in_ok-step.ensures 0 e))) 2 (omega arith) in
    unary_lays {m = 2} {n = 0} (passed_both a.one.passed b.one.passed) l₂ passed_none x.two
    (entry_same c.placed.ensures refl (place_is a.one) (length_is n.1.keeps a.one c.word_length-length.ensures) c.push-terms.ensures.is refl) 0 (omega arith))
    (did_push (did_push (did_seq (did_expect c.in_ok-name.ensures) (did_seq (did_expect c.in_ok-expect.ensures) (did_seq (did (c.in_ok-first.ensures e)) (did_seq (did_expect c.in_ok-expect-2.ensures) (did_seq (did_push (did (c.in_ok-last.ensures e)) c.push-limits.ensures) (did (c.in_ok-step.ensures _ e))))))) c.push-terms.ensures) c.push.ensures)))
