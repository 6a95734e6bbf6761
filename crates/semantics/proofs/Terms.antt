-- The terms of a FOR, one at a time.
use Rattle.std.proofs.Common.{◌≡◌, ℕ, zero, suc, ◌-◌, ◌/◌, ◌<◌, ◌≤◌, Bool, true, false, cond, ℤ, pos, negsuc, ◌+ℤ◌, ◌-ℤ◌, sym, refl, ap, ◌∙◌, arith}
use native.Mathlib.Nat.{div-eq_of_lt, div-eq-sub-div}
use native.Mathlib.Decide.{dec_lt}
use lib.Dec.{leb-zero}
use lib.Signed.{le_z}
use Rattle.std.proofs.lemmas.Int.{ints}
use Rattle.integer.specs.Ends.{integer, Within}
use Rattle.semantics.specs.Values.{distance, reached, terms}

-- the test that a term does not surpass the limit
abbrev pub continues : (term limit step : ℤ) → Bool
continues t l c = cond (le_z (pos 0) c) (le_z t l) (le_z l t)

reached_none : (d : ℤ) (k : ℕ) → reached d k ≡ 0 → le_z (pos 0) d ≡ false
reached_none (pos x) k e = absurd (omega arith)
reached_none (negsuc x) k e = refl

reached_some : (d : ℤ) (k n : ℕ) → reached d k ≡ suc n → le_z (pos 0) d ≡ true
reached_some (pos x) k n e = grind (arith, ints)
reached_some (negsuc x) k n e = absurd (omega arith)

-- a step less far
nearer_below : (x k : ℕ) → x < suc k → (r : ℤ) → r ≡ pos x -ℤ pos (suc k) → reached r (suc k) ≡ 0
nearer_below x k h (pos y) e = absurd (omega (arith, ints))
nearer_below x k h (negsuc y) e = refl

nearer_above : (x k : ℕ) → suc k ≤ x → (r : ℤ) → r ≡ pos x -ℤ pos (suc k) → reached r (suc k) ≡ x / suc k
nearer_above x k h (pos y) e = let f : x - suc k ≡ y = omega (arith, ints) in ap (λ z. suc (z / suc k)) (sym f) ∙ let q = div-eq-sub-div {m = suc k} {n = x} (omega arith) h in omega (arith, q)
nearer_above x k h (negsuc y) e = absurd (omega (arith, ints))

nearer : (d : ℤ) (k n : ℕ) → reached d (suc k) ≡ suc n → reached (d -ℤ pos (suc k)) (suc k) ≡ n
nearer (pos x) k n e =
    elim (dec_lt x (suc k)) [ yes h ↦ nearer_below x k h _ refl ∙ let q = div-eq_of_lt h in omega (arith, q) | no h ↦ nearer_above x k (omega arith) _ refl ∙ omega arith ]
nearer (negsuc x) k n e = absurd (omega arith)

-- the distance by a step that is not negative
upward : (a l : ℤ) (k : ℕ) → distance a l (pos k) ≡ l -ℤ a
upward a l k = rw leb-zero

upward_by : (a l : ℤ) (k n : ℕ) → reached (distance a l (pos k)) k ≡ n → reached (l -ℤ a) k ≡ n
upward_by a l k n e = rw upward at e

-- no term: the start surpasses the limit
pub terms_none : (a l c : ℤ) → terms a l c ≡ 0 → continues a l c ≡ false
unfolding terms
terms_none a l (pos k) e = let f = reached_none (l -ℤ a) k (upward_by a l k 0 e) in rw leb-zero (grind (arith, ints))
terms_none a l (negsuc k) e = let f = reached_none (a -ℤ l) (suc k) e in grind (arith, ints)

-- a term: the start does not surpass the limit
pub terms_some : (a l c : ℤ) (n : ℕ) → terms a l c ≡ suc n → continues a l c ≡ true
unfolding terms
terms_some a l (pos k) n e = let f = reached_some (l -ℤ a) k n (upward_by a l k (suc n) e) in rw leb-zero (grind (arith, ints))
terms_some a l (negsuc k) n e = let f = reached_some (a -ℤ l) (suc k) n e in grind (arith, ints)

-- and from the next term on there is one less
pub terms_next : (a l c : ℤ) (n : ℕ) → (c ≡ pos 0 → ⊥) → terms a l c ≡ suc n → terms (a +ℤ c) l c ≡ n
unfolding terms
terms_next a l (pos zero) n nz e = absurd (nz refl)
terms_next a l (pos (suc k)) n nz e =
    let f : l -ℤ (a +ℤ pos (suc k)) ≡ (l -ℤ a) -ℤ pos (suc k) = omega (arith, ints) in
    ap (λ z. reached z (suc k)) (upward (a +ℤ pos (suc k)) l (suc k) ∙ f) ∙ nearer (l -ℤ a) k n (upward_by a l (suc k) (suc n) e)
terms_next a l (negsuc k) n nz e =
    let f : (a +ℤ negsuc k) -ℤ l ≡ (a -ℤ l) -ℤ pos (suc k) = omega (arith, ints) in ap (λ z. reached z (suc k)) f ∙ nearer (a -ℤ l) k n e

-- the term behind the start is an INTEGER too, if it does not surpass the limit
pub terms_next_within : (a l c : ℤ) (n : ℕ) → (c ≡ pos 0 → ⊥) → terms a l c ≡ suc (suc n) → Within integer a → Within integer l → Within integer (a +ℤ c)
terms_next_within a l (pos k) n nz e wa wl = let f = rw leb-zero at (terms_some (a +ℤ pos k) l (pos k) n (terms_next a l (pos k) (suc n) nz e)) in (grind (arith, ints), grind (arith, ints))
terms_next_within a l (negsuc k) n nz e wa wl = let f = terms_some (a +ℤ negsuc k) l (negsuc k) n (terms_next a l (negsuc k) (suc n) nz e) in (grind (arith, ints), grind (arith, ints))
