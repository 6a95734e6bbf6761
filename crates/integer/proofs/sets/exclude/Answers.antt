use Rattle.std.proofs.Common.{◌-◌, ◌*◌, ◌%◌, ◌^◌, not, ◌&&◌, eqb, nat_abs, ap, ◌∙◌, ap₂, arith}
use lib.Bits.{bit_and}
use Rattle.std.proofs.lemmas.Nat.{and_le_l}
use Rattle.integer.specs.Sets.{has}
use Rattle.integer.proofs.Powers.{digit_and, digit_not}
use Rattle.integer.proofs.Words.{answered, digit_low, digit_bit, placed, given}
use Rattle.integer.proofs.sets.exclude.Goals as goal

pub returns : goal.returns
returns c =
    let a = c.args.set in
    let n = c.args.element in
    let m = c.low_bits.result in
    let b = (1 * 2 ^ c.in_ok-i.i) % 65536 in
    let p = placed n c.in_ok-i.i c.ranges.element c.in_ok-i.ensures in
    let e = answered (λ j. has j a && not (eqb j (nat_abs n))) (bit_and m (65535 - b)) (omega (arith, and_le_l m (65535 - b)))
    (λ j l. digit_and j m (65535 - b)
    ∙ ap₂ ◌&&◌ (digit_low a m c.ranges.set c.low_bits.ensures j)
    (digit_not 16 j b l (omega arith) ∙ ap not (digit_bit n c.in_ok-i.i p.2 p.1 j))) in
    record { answer = given n _ _ p.0 e.0; members = e.1 }
