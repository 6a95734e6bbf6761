use Rattle.std.proofs.Common.{◌&&◌, ◌∙◌, ap₂, arith}
use lib.Bits.{bit_and}
use Rattle.std.proofs.lemmas.Nat.{and_le_l}
use Rattle.integer.specs.Sets.{has}
use Rattle.integer.proofs.Powers.{digit_and}
use Rattle.integer.proofs.Words.{answered, digit_low}
use Rattle.integer.proofs.sets.intersection.Goals as goal

pub returns : goal.returns
returns c =
    let a = c.args.a in
    let b = c.args.b in
    let m = c.low_bits.result in
    let n = c.low_bits-2.result in
    let e = answered (λ i. has i a && has i b) (bit_and m n) (omega (arith, and_le_l m n))
    (λ i l. digit_and i m n ∙ ap₂ ◌&&◌ (digit_low a m c.ranges.a c.low_bits.ensures i) (digit_low b n c.ranges.b c.low_bits-2.ensures i)) in
    record { answer = e.0; members = e.1 }
