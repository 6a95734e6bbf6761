use Rattle.std.proofs.Common.{rules, w64, FitsSigned, subst, sym}
use Rattle.std.proofs.lemmas.Int.{to_z-of_z}
use Rattle.number.specs.Numbers.{Reads}
use Rattle.number.proofs.Taking.{taken}
use Rattle.number.proofs.read.Goals as goal

-- the number is one of 64 bits, and goes on as it was read
pub returns : goal.returns
returns g c =
    let fits : FitsSigned w64 c.in_ok-z.z = search rules in
    let n = c.in_ok-z.ensures in
    subst (λ o. Reads g.T.TryFrom.try_from_gives c.args.word.now o) (sym c.ok.ensures.value)
    (taken g.T.TryFrom.try_from_gives c.args.word.now c.in_ok-z.z c.try_from.result n.0 n.1
    (subst (λ y. g.T.TryFrom.try_from_gives y c.try_from.result) (to_z-of_z w64 c.in_ok-z.z fits) c.try_from.ensures))
