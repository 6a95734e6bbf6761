use Rattle.std.proofs.Common.{◌||◌, ◌∙◌, ap₂}
use lib.Bits.{bit_or}
use Rattle.std.proofs.lemmas.Nat.{or_lt}
use Rattle.integer.specs.Sets.{has}
use Rattle.integer.proofs.Powers.{digit_or}
use Rattle.integer.proofs.Words.{answered, digit_low}
use Rattle.integer.proofs.sets.union.Goals as goal

pub returns : goal.returns
returns c =
    let a = c.args.a in
    let b = c.args.b in
    let m = c.low_bits.result in
    let n = c.low_bits-2.result in
    let e = answered (λ i. has i a || has i b) (bit_or m n) (or_lt 16 m n c.low_bits.type_inv c.low_bits-2.type_inv)
    (λ i l. digit_or i m n ∙ ap₂ ◌||◌ (digit_low a m c.ranges.a c.low_bits.ensures i) (digit_low b n c.ranges.b c.low_bits-2.ensures i)) in
    record { answer = e.0; members = e.1 }
