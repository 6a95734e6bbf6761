use Rattle.std.proofs.Common.{refl, arith}
use Rattle.syntax.proofs.Joins.{did, did_expect, did_map, did_node, did_push, did_seq, fails, fails_expect, fails_first, fails_node, fails_then, goes_ok, goes_out, place_is, rooted}
use Rattle.syntax.proofs.Lays.{entry_same, passed_none, unary_lays}
use Rattle.parser.proofs.statements.return_statement.Goals as goal

pub returns-in_err-word : goal.returns-in_err-word
returns-in_err-word c e = goes_out c.from_residual.ensures.1 (fails_node (fails_first (fails_expect c.in_err-word.ensures)))

pub returns-in_err-value : goal.returns-in_err-value
returns-in_err-value c e = goes_out c.from_residual-in_err-value.ensures.1 (fails_node (fails_then (did_expect c.in_ok-word.ensures) (fails (c.in_err-value.ensures e))))

pub returns : goal.returns
returns c e =
    goes_ok c.push.ensures.is (did_node (did_map
    (λ v g x.
    let y = x.one in
    unary_lays {m = 1} {n = 0} y.one.passed y.two passed_none x.two (entry_same c.placed.ensures refl (place_is y.one) refl (rooted (c.in_ok-value.ensures e)) refl) 0 (omega arith))
    (did_push (did_seq (did_expect c.in_ok-word.ensures) (did (c.in_ok-value.ensures e))) c.push.ensures)))
