use Rattle.std.proofs.Common.{refl}
use Rattle.syntax.proofs.Joins.{goes_ok, goes_out, did_map, did_expect, did_push, fails_expect, place_is, length_is}
use Rattle.syntax.proofs.Lays.{leaf_lays, entry_same}
use Rattle.syntax.proofs.step.Descent.name.Goals as goal

pub returns-in_err-name : goal.returns-in_err-name
returns-in_err-name c d e = goes_out c.from_residual.ensures.1 (fails_expect c.in_err-name.ensures)

pub returns : goal.returns
returns c d e =
    let a = c.in_ok-name.ensures in
    goes_ok c.push.ensures.is (did_map (λ v g x. leaf_lays {n = 0} _ x.one.passed (entry_same c.placed.ensures refl (place_is x.one) (length_is a.1.keeps x.one c.word_length-length.ensures) refl refl) x.two)
    (did_push (did_expect a) c.push.ensures))
