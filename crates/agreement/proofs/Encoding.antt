-- Constants as operands, tests as facts, and what an answer is known to be.
use Rattle.std.proofs.Common.{◌≡◌, ℕ, ◌-◌, ◌<◌, ◌≤◌, true, false, ltb, ℤ, pos, negsuc, nat_abs, Some, Option, refl, subst, inl, inr, arith}
use Rattle.std.proofs.lemmas.Int.{ints}
use Rattle.std.proofs.lemmas.Bool.{lt-ltb}
use Rattle.integer.specs.Ends.{Ends, integer, Within, within}
use Rattle.instructions.specs.Values.{signed}
use Rattle.semantics.specs.Program.{BOOLEAN, BITSET}
use Rattle.semantics.specs.Values.{Value}
use Rattle.semantics.proofs.Answering.{Answers, some_answer, no_answer}
use Rattle.agreement.specs.Generator.{encoded}

pub test_within : (e : Ends) (z : ℤ) → Within e z → within e z ≡ true
test_within e z h = grind (arith, ints)

-- the answer that there is has the property
pub answered_with : (Q : ℤ → Type 0) (o : Option ℤ) (v : ℤ) → o ≡ Some v → Answers Q o → Q v
answered_with Q o v e (some_answer {x} q) = let r : x ≡ v = cc in subst Q r q
answered_with Q o v e no_answer = absurd (let z : ◌≡◌ {A = ℕ} 0 1 = cc in omega arith)

-- an INTEGER as an operand, and back
pub signed_encoded : (z : ℤ) → Within integer z → signed (encoded z) ≡ z
signed_encoded (pos n) h = let l : n < 32768 = grind (arith, ints) in rw (lt-ltb n 32768 l)
signed_encoded (negsuc n) h =
    let l : n ≤ 32767 = grind (arith, ints) in
    let e : ltb (65535 - n) 32768 ≡ false = grind arith in
    rw e (grind (arith, ints))

pub signed_truth : (z : ℤ) → Value BOOLEAN z → signed (encoded z) ≡ z
signed_truth z (inl e) = rw e
signed_truth z (inr e) = rw e

pub signed_set : (z : ℤ) → Value BITSET z → pos (nat_abs z) ≡ z
signed_set (pos n) h = refl
signed_set (negsuc n) h = absurd (grind (arith, ints))
