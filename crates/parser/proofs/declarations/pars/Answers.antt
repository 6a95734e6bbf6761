use Rattle.std.proofs.Common.{refl, arith}
use Rattle.syntax.proofs.Joins.{did, did_expect, did_map, did_node, did_push, did_seq, did_turn, fails, fails_expect, fails_first, fails_node, fails_then, fails_turn, goes_ok, goes_out, rooted}
use Rattle.syntax.proofs.Lays.{binary_lays, entry_same}
use Rattle.parser.proofs.declarations.pars.Goals as goal

pub returns-in_err-all : goal.returns-in_err-all
returns-in_err-all c d e = goes_out c.from_residual.ensures.1 (fails_node (fails_turn (fails_first (fails (c.in_err-all.ensures d e)))))

pub returns-in_err-expect : goal.returns-in_err-expect
returns-in_err-expect c d e = goes_out c.from_residual-in_err-expect.ensures.1 (fails_node (fails_turn (fails_then (did (c.in_ok-all.ensures d e)) (fails_first (fails_expect c.in_err-expect.ensures)))))

pub returns-in_err-kind : goal.returns-in_err-kind
returns-in_err-kind c d e = goes_out c.from_residual-in_err-kind.ensures.1 (fails_node (fails_turn (fails_then (did (c.in_ok-all.ensures d e)) (fails_then (did_expect c.in_ok-expect.ensures) (fails (c.in_err-kind.ensures d e))))))

pub returns : goal.returns
returns c d e =
    goes_ok c.push.ensures.is (did_node (did_turn (did_map
    (λ v g x.
    let y = x.one in
    binary_lays y.one y.two.one.passed y.two.two x.two (entry_same c.bare.ensures refl refl refl (rooted (c.in_ok-all.ensures d e)) (rooted (c.in_ok-kind.ensures d e))) 0 (omega arith))
    (did_push (did_seq (did (c.in_ok-all.ensures d e)) (did_seq (did_expect c.in_ok-expect.ensures) (did (c.in_ok-kind.ensures d e)))) c.push.ensures))))
