-- The examples, by computation.
use Rattle.std.proofs.Common.{refl}
use Rattle.integer.specs.Sets.{bits, has, powers}
use Rattle.semantics.specs.Values.{unary_answer, binary_answer, updated, position, terms}
use Rattle.semantics.specs.State.{bind}
use Rattle.semantics.specs.Meaning.{for_rounds, eval_with, args_with, target_with, exec_with, exec, reading}
use Rattle.semantics.specs.Examples.{ExamplesHold}

pub examples_hold : ExamplesHold
unfolding bits has powers unary_answer binary_answer updated position terms bind for_rounds eval_with args_with target_with exec_with exec reading
examples_hold = (refl, (refl, (refl, (refl, (refl, (refl, (refl, (refl, (refl, (refl, (refl, (refl, (refl, (refl, (refl, (refl, (refl, (refl, (refl, (refl, (refl, (refl, tt))))))))))))))))))))))
