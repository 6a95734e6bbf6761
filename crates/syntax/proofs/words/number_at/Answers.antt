use Rattle.std.proofs.Common.{◌≡◌, w32, ℤ, pos, to_z, of_z, unsigned_abs, take, drop, Ok, Err, Result, ap, ap₂, ◌∙◌, arith, rules}
use Rattle.std.specs.Result.{result_unwrap_or}
use Rattle.faults.specs.declared.kind.FaultKind.{FaultKind}
use Rattle.std.proofs.lemmas.Grind.{common_steps}
use Rattle.vocabulary.specs.Characters.{run}
use Rattle.vocabulary.specs.Numbers.{number_value, judged}
use Rattle.syntax.specs.Symbols.{value_or0}
use Rattle.syntax.proofs.words.number_at.Goals as goal

or_none : (r : Result ℤ FaultKind) (z : ℤ) → z ≡ result_unwrap_or r (pos 0) → unsigned_abs z ≡ value_or0 r
or_none (Ok x) z e = ap unsigned_abs e
or_none (Err k) z e = ap unsigned_abs e

pub returns-in-Some : goal.returns-in-Some
returns-in-Some c =
    let e : c.in-Some.rest.now ≡ drop c.args.place c.args.source.now = grind (arith, common_steps) in
    let z : to_z w32 (of_z w32 c.unwrap_or.result) ≡ c.unwrap_or.result = search rules in
    ap unsigned_abs z ∙ or_none c.number_value.result c.unwrap_or.result c.unwrap_or.ensures ∙ ap value_or0 (c.number_value.ensures ∙ ap₂ (λ n xs. judged (number_value (take n xs))) (c.run.ensures.is ∙ ap run e) e)
