use Rattle.std.proofs.Common.{sym, ◌∙◌, arith}
use Rattle.vocabulary.specs.Numbers.{ceiling}
use Rattle.vocabulary.proofs.Capped.{digit_more, digit_none, digit_all}
use Rattle.vocabulary.proofs.numbers.digits_value.Goals as goal

pub returns-then-digit-base : goal.returns-then-digit-base
returns-then-digit-base c =
    sym (digit_none ceiling c.args.base c.loop-c.total c.args.digits.now c.loop-c.c-index c.digit_value-digit.result (omega arith) c.digit_value-digit.ensures (omega arith)) ∙ c.loop-c.invariant.1

pub loop-c-preserved : goal.loop-c-preserved
loop-c-preserved c =
    let m = c.saturating_mul.ensures in
    let a = c.saturating_add-total.ensures in (
      omega arith,
      digit_more ceiling c.args.base c.loop-c.total c.args.digits.now c.loop-c.c-index c.saturating_add-total.result c.digit_value-digit.result (omega arith) (omega arith) c.digit_value-digit.ensures (omega arith) (omega arith) ∙ c.loop-c.invariant.1,
    )

pub returns : goal.returns
returns c =
    sym (digit_all ceiling c.args.base c.loop-c.total c.args.digits.now c.loop-c.c-index (omega arith) c.loop-c.invariant.0) ∙ c.loop-c.invariant.1
