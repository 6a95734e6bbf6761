-- Sums of powers of two: the digits of a number are such a sum, and such a sum has these digits.
use Rattle.std.proofs.Common.{◌≡◌, ℕ, zero, suc, ◌+◌, ◌-◌, ◌*◌, ◌/◌, ◌%◌, ◌^◌, ◌<◌, ◌≤◌, min, Bool, true, false, cond, not, ◌&&◌, ◌||◌, eqb, leb, sym, refl, ap, ◌∙◌, ap₂, inl, inr, mul_assoc, pow-suc, one-add, arith}
use native.Mathlib.Nat.{zero-div, div-eq_of_lt, mul-add-mod_self_right}
use lib.Bits.{bit_and, bit_or}
use Rattle.std.proofs.lemmas.Nat.{pow_pos, pow-add, shr-shr, mod-pow-add, field_of, or_shr, or_mod, and_shr, and_mod, div-mul-add, pow_below}
use Rattle.std.proofs.lemmas.Bool.{cases_eq, cases_lt, cases_order, eq-eqb, ne_eqb}
use Rattle.std.proofs.lemmas.Bool.Decides.{nat_tests}
use Rattle.integer.specs.Sets.{powers}

-- digit i of n is one
abbrev pub digit : ℕ → ℕ → Bool
digit i n = eqb (n / 2 ^ i % 2) 1

-- the digit of a truth value
abbrev value : Bool → ℕ
value true = 1
value false = 0

value_back : (b : Bool) → eqb (value b) 1 ≡ b
value_back true = refl
value_back false = refl

value_odd : (b : Bool) → eqb (value b % 2) 1 ≡ b
value_odd true = refl
value_odd false = refl

value_of : (d : ℕ) → d < 2 → d ≡ value (eqb d 1)
value_of zero h = refl
value_of (suc zero) h = refl
value_of (suc (suc d)) h = absurd (omega arith)

value_times : (b : Bool) (n : ℕ) → cond b n 0 ≡ value b * n
value_times true n = omega arith
value_times false n = omega arith

-- an operation that works on each digit apart, as f does
digitwise : (op : ℕ → ℕ → ℕ) (f : Bool → Bool → Bool) → ((m n k : ℕ) → op m n / 2 ^ k ≡ op (m / 2 ^ k) (n / 2 ^ k)) → ((m n k : ℕ) → op m n % 2 ^ k ≡ op (m % 2 ^ k) (n % 2 ^ k)) → ((x y : Bool) → op (value x) (value y) ≡ value (f x y)) → (i m n : ℕ) → digit i (op m n) ≡ f (digit i m) (digit i n)
digitwise op f shr low table i m n =
    ap (λ t. eqb t 1)
    (ap (λ t. t % 2) (shr m n i)
    ∙ low (m / 2 ^ i) (n / 2 ^ i) 1
    ∙ ap₂ op (value_of (m / 2 ^ i % 2) (omega arith)) (value_of (n / 2 ^ i % 2) (omega arith))
    ∙ table (digit i m) (digit i n))
    ∙ value_back (f (digit i m) (digit i n))

or_table : (x y : Bool) → bit_or (value x) (value y) ≡ value (x || y)
or_table true true = refl
or_table true false = refl
or_table false true = refl
or_table false false = refl

and_table : (x y : Bool) → bit_and (value x) (value y) ≡ value (x && y)
and_table true true = refl
and_table true false = refl
and_table false true = refl
and_table false false = refl

pub digit_or : (i m n : ℕ) → digit i (bit_or m n) ≡ (digit i m || digit i n)
digit_or = digitwise bit_or ◌||◌ or_shr or_mod or_table

pub digit_and : (i m n : ℕ) → digit i (bit_and m n) ≡ (digit i m && digit i n)
digit_and = digitwise bit_and ◌&&◌ and_shr and_mod and_table

half : (n i : ℕ) → n / 2 ^ suc i ≡ n / 2 / 2 ^ i
half n i = ap (λ t. n / 2 ^ t) (sym (one-add i)) ∙ sym (shr-shr n 1 i)

-- a digit of the complement to w digits
flipped : (w i n : ℕ) → i < w → n < 2 ^ w → (2 ^ w - 1 - n) / 2 ^ i % 2 + n / 2 ^ i % 2 ≡ 1
flipped zero i n h k = absurd (omega arith)
flipped (suc w) zero n h k = omega (arith, pow-suc 2 w, pow_pos w)
flipped (suc w) (suc i) n h k =
    let p = pow-suc 2 w in
    let q = pow_pos w in
    let e : (2 ^ suc w - 1 - n) / 2 ≡ 2 ^ w - 1 - n / 2 = omega arith in
    rw (half (2 ^ suc w - 1 - n) i, half n i, e) (flipped w i (n / 2) (omega arith) (omega arith))

pub digit_not : (w i n : ℕ) → i < w → n < 2 ^ w → digit i (2 ^ w - 1 - n) ≡ not (digit i n)
digit_not w i n h k = let e = flipped w i n h k in grind (arith, nat_tests)

pub digits_sum : (n k : ℕ) → powers (λ i. digit i n) k ≡ n % 2 ^ k
unfolding powers
digits_sum n zero = omega arith
digits_sum n (suc k) =
    ap₂ ◌+◌ (value_times (digit k n) (2 ^ k) ∙ ap (λ t. t * 2 ^ k) (sym (value_of (n / 2 ^ k % 2) (omega arith)))) (digits_sum n k)
    ∙ sym (mod-pow-add n 1 k)
    ∙ ap (λ t. n % 2 ^ t) (one-add k)

pub powers_same : (f g : ℕ → Bool) (k : ℕ) → ((i : ℕ) → i < k → f i ≡ g i) → powers f k ≡ powers g k
unfolding powers
powers_same f g zero h = refl
powers_same f g (suc k) h =
    ap₂ (λ b s. cond b (2 ^ k) 0 + s) (h k (omega arith)) (powers_same f g k (λ i l. h i (omega arith)))

pub powers_below : (f : ℕ → Bool) (k : ℕ) → powers f k < 2 ^ k
unfolding powers
powers_below f zero = omega arith
powers_below f (suc k) = let h = powers_below f k in let p = pow-suc 2 k in grind (arith, nat_tests)

-- a digit below 2 ^ k is not changed by what stands above
low_digit : (v k s i : ℕ) → i < k → digit i (v * 2 ^ k + s) ≡ digit i s
low_digit v k s i h =
    let j = k - (1 + i) in
    let e : k ≡ j + (1 + i) = omega arith in
    let p : v * 2 ^ k ≡ v * 2 ^ j * 2 ^ (1 + i) = ap (λ t. v * 2 ^ t) e ∙ ap (λ t. v * t) (pow-add 2 j (1 + i)) ∙ sym (mul_assoc v (2 ^ j) (2 ^ (1 + i))) in
    ap (λ t. eqb t 1)
    (sym (field_of (v * 2 ^ k + s) 1 i)
    ∙ ap (λ t. t / 2 ^ i) (ap (λ t. (t + s) % 2 ^ (1 + i)) p ∙ mul-add-mod_self_right (v * 2 ^ j) (2 ^ (1 + i)) s)
    ∙ field_of s 1 i)

pub digit_powers : (f : ℕ → Bool) (k i : ℕ) → i < k → digit i (powers f k) ≡ f i
unfolding powers
digit_powers f zero i h = absurd (omega arith)
digit_powers f (suc k) i h =
    let v = value_times (f k) (2 ^ k) in
    let s = powers f k in
    elim (cases_eq i k) [
      | inl e ↦ ap₂ (λ j t. digit j (t + s)) e v
          ∙ ap (λ t. eqb (t % 2) 1) (div-mul-add (value (f k)) (2 ^ k) s (powers_below f k))
          ∙ value_odd (f k)
          ∙ ap f (sym e)
      | inr n ↦ ap (λ t. digit i (t + s)) v
          ∙ low_digit (value (f k)) k s i (omega arith)
          ∙ digit_powers f k i (omega arith)
    ]

pub digit_single : (i j : ℕ) → digit i (2 ^ j) ≡ eqb i j
digit_single i j =
    let one : 2 ^ j ≡ 1 * 2 ^ j + 0 = omega arith in
    elim (cases_order i j) [
      | inl e ↦ ap₂ digit e one
          ∙ ap (λ t. eqb (t % 2) 1) (div-mul-add 1 (2 ^ j) 0 (pow_pos j))
          ∙ sym (eq-eqb i j e)
      | inr (inl l) ↦ ap (digit i) one ∙ low_digit 1 j 0 i l ∙ ap (λ t. eqb (t % 2) 1) (zero-div (2 ^ i)) ∙ sym (ne_eqb i j (λ e. omega arith))
      | inr (inr l) ↦ ap (λ t. eqb (t % 2) 1) (div-eq_of_lt (pow_below j i l)) ∙ sym (ne_eqb i j (λ e. omega arith))
    ]

pub two_to : (m n : ℕ) → m ≡ n → 2 ^ m ≡ 2 ^ n
two_to m n e = ap (λ t. 2 ^ t) e

-- the sum of the powers from l to h that are below 2 ^ k
pub powers_span : (l h k : ℕ) → l ≤ h → powers (λ i. leb l i && leb i h) k + 2 ^ min k l ≡ 2 ^ min k (suc h)
unfolding powers
powers_span l h zero o =
    let a = two_to (min 0 l) 0 (omega arith) in
    let b = two_to (min 0 (suc h)) 0 (omega arith) in
    omega arith
powers_span l h (suc k) o =
    let ih = powers_span l h k o in
    let p = pow-suc 2 k in
    elim (cases_lt k l) [
      | inl u ↦
          let a = two_to (min k l) k (omega arith) in
          let b = two_to (min k (suc h)) k (omega arith) in
          let c = two_to (min (suc k) l) (suc k) (omega arith) in
          let d = two_to (min (suc k) (suc h)) (suc k) (omega arith) in
          grind (arith, nat_tests)
      | inr u ↦
          let a = two_to (min k l) l (omega arith) in
          let c = two_to (min (suc k) l) l (omega arith) in
          elim (cases_lt h k) [
            | inl v ↦
                let b = two_to (min k (suc h)) (suc h) (omega arith) in
                let d = two_to (min (suc k) (suc h)) (suc h) (omega arith) in
                grind (arith, nat_tests)
            | inr v ↦
                let b = two_to (min k (suc h)) k (omega arith) in
                let d = two_to (min (suc k) (suc h)) (suc k) (omega arith) in
                grind (arith, nat_tests)
          ]
    ]
