use Rattle.std.proofs.Common.{refl, arith}
use Rattle.syntax.proofs.Joins.{did, did_expect, did_map, did_node, did_push, did_seq, fails, fails_expect, fails_first, fails_node, fails_then, goes_ok, goes_out, place_is, rooted}
use Rattle.syntax.proofs.Lays.{entry_same, passed_none, unary_lays}
use Rattle.parser.proofs.declarations.body.Goals as goal

pub returns-in_err-all : goal.returns-in_err-all
returns-in_err-all c = goes_out c.from_residual.ensures.1 (fails_node (fails_first (fails c.in_err-all.ensures)))

pub returns-in_err-end : goal.returns-in_err-end
returns-in_err-end c = goes_out c.from_residual-in_err-end.ensures.1 (fails_node (fails_then (did c.in_ok-all.ensures) (fails_expect c.in_err-end.ensures)))

pub returns : goal.returns
returns c =
    goes_ok c.push.ensures.is (did_node (did_map
    (λ v g x.
    let y = x.one in
    unary_lays {m = 0} {n = 1} passed_none y.one y.two.passed x.two (entry_same c.placed.ensures refl (place_is y.two) refl (rooted c.in_ok-all.ensures) refl) 0 (omega arith))
    (did_push (did_seq (did c.in_ok-all.ensures) (did_expect c.in_ok-end.ensures)) c.push.ensures)))
