use Rattle.std.proofs.Common.{◌≡◌, true, false, ℤ, pos, ◌+ℤ◌, sym, ◌∙◌, ap₂, arith, w32, w64, to_z, of_z}
use lib.Signed.{le_z}
use Rattle.std.proofs.lemmas.Int.{ints}
use Rattle.std.proofs.lemmas.Bool.{cond-true, cond-false}
use Rattle.control.proofs.flow.goes_on.Goals as goal

-- `z as i64`
abbrev wide : ℤ → ℤ
wide z = to_z w64 (of_z w64 (to_z w32 (of_z w32 z)))

pub returns-then-step-ge0 : goal.returns-then-step-ge0
returns-then-step-ge0 c =
    let next : to_z w64 (of_z w64 (wide c.args.term +ℤ wide c.args.step)) ≡ c.args.term +ℤ c.args.step = omega (arith, ints) in
    let limit : wide c.args.limit ≡ c.args.limit = omega (arith, ints) in
    let up : le_z (pos 0) c.args.step ≡ true = grind (arith, ints) in
    ap₂ le_z next limit ∙ sym (cond-true _ _ _ up)

pub returns-else-step-ge0 : goal.returns-else-step-ge0
returns-else-step-ge0 c =
    let next : to_z w64 (of_z w64 (wide c.args.term +ℤ wide c.args.step)) ≡ c.args.term +ℤ c.args.step = omega (arith, ints) in
    let limit : wide c.args.limit ≡ c.args.limit = omega (arith, ints) in
    let down : le_z (pos 0) c.args.step ≡ false = grind (arith, ints) in
    ap₂ le_z limit next ∙ sym (cond-false _ _ _ down)
