use Rattle.std.proofs.Common.{refl, arith}
use Rattle.syntax.proofs.Joins.{did, fails, rooted, goes_ok, goes_out, did_map, did_node, did_expect, did_seq, did_push, fails_node, fails_first, fails_then, fails_expect, place_is}
use Rattle.syntax.proofs.Lays.{unary_lays, entry_same}
use Rattle.syntax.proofs.step.Descent.set.Goals as goal

pub returns-in_err-opening : goal.returns-in_err-opening
returns-in_err-opening c d e = goes_out c.from_residual.ensures.1 (fails_node (fails_first (fails_expect c.in_err-opening.ensures)))

pub returns-in_err-all : goal.returns-in_err-all
returns-in_err-all c d e = goes_out c.from_residual-in_err-all.ensures.1 (fails_node (fails_then (did_expect c.in_ok-opening.ensures) (fails_first (fails (c.in_err-all.ensures d e)))))

pub returns-in_err-expect : goal.returns-in_err-expect
returns-in_err-expect c d e =
    goes_out c.from_residual-in_err-expect.ensures.1 (fails_node (fails_then (did_expect c.in_ok-opening.ensures) (fails_then (did (c.in_ok-all.ensures d e)) (fails_expect c.in_err-expect.ensures))))

pub returns : goal.returns
returns c d e =
    let a = c.in_ok-all.ensures d e in
    goes_ok c.push.ensures.is (did_node (did_map
    (λ v g x.
    let y = x.one in
    unary_lays {m = 1} {n = 1} y.one.passed y.two.one y.two.two.passed x.two (entry_same c.placed.ensures refl (place_is y.one) refl (rooted a) refl) 0 (omega arith))
    (did_push (did_seq (did_expect c.in_ok-opening.ensures) (did_seq (did a) (did_expect c.in_ok-expect.ensures))) c.push.ensures)))
