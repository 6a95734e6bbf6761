use Rattle.std.proofs.Common.{refl, arith}
use Rattle.syntax.proofs.Joins.{did, did_expect, did_map, did_push, did_seq, fails, fails_expect, fails_first, fails_then, goes_ok, goes_out, place_is, rooted}
use Rattle.syntax.proofs.Lays.{binary_lays, entry_same}
use Rattle.parser.proofs.statements.assignment.Goals as goal

pub returns-in_err-variable : goal.returns-in_err-variable
returns-in_err-variable c e = goes_out c.from_residual.ensures.1 (fails_first (fails (c.in_err-variable.ensures e)))

pub returns-in_err-becomes : goal.returns-in_err-becomes
returns-in_err-becomes c e = goes_out c.from_residual-in_err-becomes.ensures.1 (fails_then (did (c.in_ok-variable.ensures e)) (fails_first (fails_expect c.in_err-becomes.ensures)))

pub returns-in_err-value : goal.returns-in_err-value
returns-in_err-value c e = goes_out c.from_residual-in_err-value.ensures.1 (fails_then (did (c.in_ok-variable.ensures e)) (fails_then (did_expect c.in_ok-becomes.ensures) (fails (c.in_err-value.ensures e))))

pub returns : goal.returns
returns c e =
    goes_ok c.push.ensures.is (did_map
    (λ v g x.
    let y = x.one in
    binary_lays y.one y.two.one.passed y.two.two x.two (entry_same c.placed.ensures refl (place_is y.two.one) refl (rooted (c.in_ok-variable.ensures e)) (rooted (c.in_ok-value.ensures e))) 0 (omega arith))
    (did_push (did_seq (did (c.in_ok-variable.ensures e)) (did_seq (did_expect c.in_ok-becomes.ensures) (did (c.in_ok-value.ensures e)))) c.push.ensures))
