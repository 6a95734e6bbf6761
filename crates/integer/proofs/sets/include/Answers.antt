use Rattle.std.proofs.Common.{◌*◌, ◌%◌, ◌^◌, ◌||◌, eqb, nat_abs, ◌∙◌, ap₂, arith}
use lib.Bits.{bit_or}
use Rattle.std.proofs.lemmas.Nat.{or_lt}
use Rattle.integer.specs.Sets.{has}
use Rattle.integer.proofs.Powers.{digit_or}
use Rattle.integer.proofs.Words.{answered, digit_low, digit_bit, placed, given}
use Rattle.integer.proofs.sets.include.Goals as goal

pub returns : goal.returns
returns c =
    let a = c.args.set in
    let n = c.args.element in
    let m = c.low_bits.result in
    let b = (1 * 2 ^ c.in_ok-i.i) % 65536 in
    let p = placed n c.in_ok-i.i c.ranges.element c.in_ok-i.ensures in
    let e = answered (λ j. has j a || eqb j (nat_abs n)) (bit_or m b) (or_lt 16 m b c.low_bits.type_inv (omega arith))
    (λ j l. digit_or j m b ∙ ap₂ ◌||◌ (digit_low a m c.ranges.set c.low_bits.ensures j) (digit_bit n c.in_ok-i.i p.2 p.1 j)) in
    record { answer = given n _ _ p.0 e.0; members = e.1 }
