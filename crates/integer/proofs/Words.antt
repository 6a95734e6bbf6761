-- Words as sets: the sum of powers that has given elements.
use Rattle.std.proofs.Common.{◌≡◌, ℕ, suc, ◌+◌, ◌*◌, ◌%◌, ◌^◌, ◌<◌, ◌≤◌, min, Bool, true, false, cond, ◌&&◌, eqb, leb, ℤ, pos, negsuc, nat_abs, Some, None, sym, refl, ap, ◌∙◌, subst, ap₂, mod-eq_of_lt, pow-suc, arith, lit<, w32, SFits, to_z, of_z}
use lib.Bits.{bit_and}
use Rattle.std.proofs.lemmas.Nat.{and_mask, one_shl, shl_whole}
use Rattle.std.proofs.lemmas.Int.{ints, to_z_pos, to_z-of_z}
use Rattle.std.proofs.lemmas.Bool.{cond-true, and_from, le-leb, false≢true}
use Rattle.std.proofs.lemmas.Bool.Decides.{nat_tests}
use Rattle.integer.specs.Ends.{within}
use Rattle.integer.specs.Sets.{elements, if_element, ordered, span, bits, has, powers, word, Elements, WordIsSet, ElementsFix}
use Rattle.integer.proofs.Powers.{digit, digits_sum, powers_same, powers_below, digit_powers, digit_single, powers_span, two_to}

pub has_digit : (n i : ℕ) → n < 2 ^ 16 → has i (pos n) ≡ digit i n
unfolding has bits
has_digit n i h = ap (digit i) (mod-eq_of_lt h)

-- a number of sixteen digits is the word of the elements that its digits are
pub word_of : (f : ℕ → Bool) (n : ℕ) → n < 2 ^ 16 → ((i : ℕ) → i < 16 → digit i n ≡ f i) → pos n ≡ word f
word_of f n h same =
    ap pos (sym (mod-eq_of_lt h) ∙ sym (digits_sum n 16) ∙ powers_same (λ i. digit i n) f 16 same)

pub word_set : WordIsSet
word_set f =
    let h = powers_below f 16 in
    record {
      set = (omega (arith, ints), omega (arith, ints));
      each = λ i l. has_digit (powers f 16) i h ∙ digit_powers f 16 i l;
    }

-- a number of sixteen digits that is answered as a word
pub answered : (f : ℕ → Bool) (n : ℕ) → n < 2 ^ 16 → ((i : ℕ) → i < 16 → digit i n ≡ f i) → (to_z w32 n ≡ word f) × Elements f (to_z w32 n)
answered f n h same =
    let e : to_z w32 n ≡ word f = to_z_pos w32 n (omega arith) ∙ word_of f n h same in
    (e, subst (Elements f) (sym e) (word_set f))

-- a word's low sixteen bits, by a mask
read : (z : ℤ) → SFits w32 z → of_z w32 z % 2 ^ 16 ≡ bits z
unfolding bits
read (pos n) f = refl
read (negsuc n) f = omega (arith, f.sfits)

pub low_bits : (z : ℤ) → SFits w32 z → nat_abs (to_z w32 (bit_and (of_z w32 z) 65535)) ≡ bits z
low_bits z f =
    ap nat_abs (ap (to_z w32) (and_mask (of_z w32 z) 16) ∙ to_z_pos w32 (of_z w32 z % 2 ^ 16) (omega arith)) ∙ read z f

-- what `low_bits` answered has the digits of the word's set
pub digit_low : (a : ℤ) (m : ℕ) → SFits w32 a → m ≡ bits (to_z w32 (of_z w32 a)) → (i : ℕ) → digit i m ≡ has i a
unfolding has
digit_low a m f e i = ap (digit i) (e ∙ ap bits (to_z-of_z w32 a f))

-- what a chosen `Some` says of its choice
some_of : {A : Type 0} (b : Bool) (x y : A) → Some x ≡ cond b (Some y) None → (b ≡ true) × (x ≡ y)
some_of true x y e = (refl, cc)
some_of false x y e = let z : ◌≡◌ {A = ℕ} 0 1 = cc in absurd (omega arith)

-- what `place` answered of an element
pub placed : (n : ℤ) (i : ℕ) → SFits w32 n → Some i ≡ if_element (to_z w32 (of_z w32 n)) (nat_abs (to_z w32 (of_z w32 n))) → (within elements n ≡ true) × (i ≡ nat_abs n) × (i < 16)
placed n i f e =
    let at : Some i ≡ if_element n (nat_abs n) = e ∙ ap (λ z. if_element z (nat_abs z)) (to_z-of_z w32 n f) in
    let s = some_of (within elements n) i (nat_abs n) at in
    (s.0, s.1, small n i s.0 s.1)
  where
    small : (n : ℤ) (i : ℕ) → within elements n ≡ true → i ≡ nat_abs n → i < 16
    small (pos n) i w e = grind (arith, nat_tests)
    small (negsuc n) i w e = grind (arith, nat_tests)

-- an answer for an element
pub given : {A : Type 0} (n : ℤ) (x y : A) → within elements n ≡ true → x ≡ y → Some x ≡ if_element n y
given n x y w e = ap Some e ∙ sym (cond-true (within elements n) (Some y) None w)

-- the bit of an element
pub digit_bit : (n : ℤ) (i : ℕ) → i < 16 → i ≡ nat_abs n → (j : ℕ) → digit j ((1 * 2 ^ i) % 65536) ≡ eqb j (nat_abs n)
digit_bit n i h e j = ap (digit j) (one_shl i 16 h) ∙ digit_single j i ∙ ap (eqb j) e

-- the bits from l to h, as a difference of two powers
pub sum_bits : (l h : ℕ) → l ≤ h → h < 16 → (2 * 2 ^ h) % 2 ^ 32 ≡ powers (λ i. leb l i && leb i h) 16 + (1 * 2 ^ l) % 2 ^ 32
sum_bits l h o s =
    let a = two_to (min 16 l) l (omega arith) in
    let b = two_to (min 16 (suc h)) (suc h) (omega arith) in
    omega (arith, powers_span l h 16 o, pow-suc 2 h, shl_whole 2 2 h 32 (lit< tt) (omega arith), one_shl l 32 (omega arith))

-- the ends of a range by their places
pub ranged : (m n : ℤ) (l h : ℕ) → within elements m ≡ true → within elements n ≡ true → l ≡ nat_abs m → h ≡ nat_abs n → l ≤ h → (word (λ i. leb l i && leb i h) ≡ span m n) × (ordered m n ≡ true)
ranged (pos m) (pos n) l h v w e f o =
    (ap₂ (λ x y. word (λ i. leb x i && leb i y)) e f, and_from _ _ (and_from _ _ v w) (le-leb m n (omega arith)))
ranged (negsuc m) n l h v w e f o = absurd (false≢true v)
ranged (pos m) (negsuc n) l h v w e f o = absurd (false≢true w)

pub elements_fix : ElementsFix
elements_fix (pos m) (pos n) h k same =
    let f : m < 2 ^ 16 = omega (arith, ints) in
    let g : n < 2 ^ 16 = omega (arith, ints) in
    word_of (λ i. digit i n) m f (λ i l. sym (has_digit m i f) ∙ same i l ∙ has_digit n i g) ∙ sym (word_of (λ i. digit i n) n g (λ i l. refl))
elements_fix (pos m) (negsuc n) h k same = absurd (omega (arith, ints))
elements_fix (negsuc m) (pos n) h k same = absurd (omega (arith, ints))
elements_fix (negsuc m) (negsuc n) h k same = absurd (omega (arith, ints))
