use Rattle.std.proofs.Common.{◌≡◌, ◌≤◌, drop}
use Rattle.vocabulary.specs.Numbers.{digits_value, ceiling}
use Rattle.vocabulary.proofs.Capped.{held}
use Rattle.vocabulary.proofs.numbers.digits_value.Given as goal

abbrev pub invariant-loop-c : goal.invariant-loop-c
invariant-loop-c l =
    (l.total ≤ ceiling) × (held ceiling (digits_value l.base l.total (drop l.c-index l.digits)) ≡ held ceiling (digits_value l.base 0 l.digits))
