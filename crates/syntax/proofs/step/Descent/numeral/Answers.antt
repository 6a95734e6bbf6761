use Rattle.std.proofs.Common.{refl}
use Rattle.syntax.proofs.Joins.{goes_ok, goes_out, did_map, did_expect, did_push, fails_expect, place_is, number_is}
use Rattle.syntax.proofs.Lays.{leaf_lays, entry_same}
use Rattle.syntax.proofs.step.Descent.numeral.Goals as goal

pub returns-in_err-digits : goal.returns-in_err-digits
returns-in_err-digits c d e = goes_out c.from_residual.ensures.1 (fails_expect c.in_err-digits.ensures)

pub returns : goal.returns
returns c d e =
    let a = c.in_ok-digits.ensures in
    goes_ok c.push.ensures.is (did_map (λ v g x. leaf_lays {n = 0} _ x.one.passed (entry_same c.placed.ensures refl (place_is x.one) (number_is a.1.keeps x.one c.number_at-value.ensures) refl refl) x.two)
    (did_push (did_expect a) c.push.ensures))
