use Rattle.std.proofs.Common.{◌/◌, ◌^◌, eqb, ap, ◌∙◌}
use Rattle.std.proofs.lemmas.Nat.{and_mask}
use Rattle.integer.specs.Sets.{has}
use Rattle.integer.proofs.Words.{digit_low, placed, given}
use Rattle.integer.proofs.sets.contains.Goals as goal

pub returns : goal.returns
returns c =
    let a = c.args.set in
    let m = c.low_bits.result in
    let i = c.in_ok-i.i in
    let p = placed c.args.element i c.ranges.element c.in_ok-i.ensures in
    given c.args.element _ _ p.0
    (ap (λ t. eqb t 1) (and_mask (m / 2 ^ i) 1) ∙ digit_low a m c.ranges.set c.low_bits.ensures i ∙ ap (λ j. has j a) p.1)
