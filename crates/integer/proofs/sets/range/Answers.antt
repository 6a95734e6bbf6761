use Rattle.std.proofs.Common.{◌≡◌, ℕ, ◌+◌, ◌-◌, ◌*◌, ◌%◌, ◌^◌, ◌&&◌, leb, pos, Some, None, sym, ap, ◌∙◌, subst, arith, w32, to_z}
use lib.Signed.{le_z}
use Rattle.std.proofs.lemmas.Int.{to_z_pos}
use Rattle.std.proofs.lemmas.Bool.{cond-true}
use Rattle.integer.specs.Sets.{Elements, powers, ordered, span}
use Rattle.integer.proofs.Powers.{powers_below}
use Rattle.integer.proofs.Words.{placed, sum_bits, ranged, word_set}
use Rattle.integer.proofs.sets.range.Goals as goal

-- the sum of the powers from first to last
abbrev sum : goal.Else-last-first → ℕ
sum c = powers (λ i. leb c.in_ok-first.first i && leb i c.in_ok-last.last) 16

difference : (c : goal.Else-last-first) → (2 * 2 ^ c.in_ok-last.last) % 2 ^ 32 ≡ sum c + (1 * 2 ^ c.in_ok-first.first) % 2 ^ 32
difference c =
    let p = placed c.args.high c.in_ok-last.last c.ranges.high c.in_ok-last.ensures in
    sum_bits c.in_ok-first.first c.in_ok-last.last (omega arith) p.2

pub overflow_sub-result : goal.overflow_sub-result
overflow_sub-result c = omega (arith, difference c)

pub returns : goal.returns
returns c =
    let m = c.args.low in
    let n = c.args.high in
    let l = c.in_ok-first.first in
    let h = c.in_ok-last.last in
    let p = placed m l c.ranges.low c.in_ok-first.ensures in
    let q = placed n h c.ranges.high c.in_ok-last.ensures in
    let r = ranged m n l h p.0 q.0 p.1 q.1 (omega arith) in
    let d : (2 * 2 ^ h) % 2 ^ 32 - (1 * 2 ^ l) % 2 ^ 32 ≡ sum c = omega (arith, difference c) in
    let e : to_z w32 ((2 * 2 ^ h) % 2 ^ 32 - (1 * 2 ^ l) % 2 ^ 32) ≡ span m n =
    ap (to_z w32) d ∙ to_z_pos w32 (sum c) (omega (arith, powers_below (λ i. leb l i && leb i h) 16)) ∙ r.0 in
    record {
      answer = ap Some e ∙ sym (cond-true (ordered m n) (Some (span m n)) None r.1);
      members = subst (Elements (λ i. le_z m (pos i) && le_z (pos i) n)) (sym e) (word_set (λ i. le_z m (pos i) && le_z (pos i) n));
    }
