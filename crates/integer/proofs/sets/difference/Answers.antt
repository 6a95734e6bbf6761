use Rattle.std.proofs.Common.{◌-◌, not, ◌&&◌, ap, ◌∙◌, ap₂, arith}
use lib.Bits.{bit_and}
use Rattle.std.proofs.lemmas.Nat.{and_le_l}
use Rattle.integer.specs.Sets.{has}
use Rattle.integer.proofs.Powers.{digit_and, digit_not}
use Rattle.integer.proofs.Words.{answered, digit_low}
use Rattle.integer.proofs.sets.difference.Goals as goal

pub returns : goal.returns
returns c =
    let a = c.args.a in
    let b = c.args.b in
    let m = c.low_bits.result in
    let n = c.low_bits-2.result in
    let e = answered (λ i. has i a && not (has i b)) (bit_and m (65535 - n)) (omega (arith, and_le_l m (65535 - n)))
    (λ i l. digit_and i m (65535 - n)
    ∙ ap₂ ◌&&◌ (digit_low a m c.ranges.a c.low_bits.ensures i)
    (digit_not 16 i n l c.low_bits-2.type_inv ∙ ap not (digit_low b n c.ranges.b c.low_bits-2.ensures i))) in
    record { answer = e.0; members = e.1 }
