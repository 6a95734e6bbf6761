use Rattle.std.proofs.Common.{ℤ, pos, ◌≤ℤ◌, Some, ap, ◌∙◌, w32, to_z, of_z, SFits, rules}
use Rattle.std.proofs.lemmas.Int.{to_z-of_z}
use Rattle.integer.specs.Division.{Divides}
use Rattle.integer.proofs.Euclid.{euclid_divides, unique}
use Rattle.integer.proofs.division.divide.Goals as goal

-- the pair as it is answered
abbrev pair : goal.After-rem_euclid → ℤ × ℤ
pair c = (to_z w32 (of_z w32 c.div_euclid.result), to_z w32 (of_z w32 c.rem_euclid.result))

pair_lawful : (c : goal.After-rem_euclid) → Divides c.args.x c.args.y (pair c)
pair_lawful c =
    let h : pos 1 ≤ℤ c.args.y = search rules in
    let q : SFits w32 c.div_euclid.result = search rules in
    let r : SFits w32 c.rem_euclid.result = search rules in
    euclid_divides c.args.x c.args.y _ _ h
    (to_z-of_z w32 _ q ∙ (rw (to_z-of_z w32 c.args.x c.ranges.x, to_z-of_z w32 c.args.y c.ranges.y) at c.div_euclid.ensures))
    (to_z-of_z w32 _ r ∙ (rw (to_z-of_z w32 c.args.x c.ranges.x, to_z-of_z w32 c.args.y c.ranges.y) at c.rem_euclid.ensures.value))

pub returns-clause-law : goal.returns-clause-law
returns-clause-law c = pair_lawful c

pub returns-clause-unique : goal.returns-clause-unique
returns-clause-unique c = λ p k. ap Some (unique c.args.x c.args.y (pair c) p (pair_lawful c) k)
