-- The terms of a FOR, all of them.
use Rattle.std.proofs.Common.{◌≡◌, ℕ, zero, suc, ◌<◌, true, false, ℤ, pos, negsuc, ◌+ℤ◌, refl, ap, ◌∙◌, arith}
use lib.IntN.{suc_ℤ-*ℤ, zero-*ℤ}
use Rattle.std.proofs.lemmas.Int.{ints}
use Rattle.semantics.specs.Laws.{ForTerms, term, surpasses}
use Rattle.semantics.specs.Values.{terms}
use Rattle.semantics.proofs.Terms.{continues, terms_none, terms_some, terms_next}

-- terms counted from the next one
term_first : (a c : ℤ) → term a c 0 ≡ a
term_first a c = ap (λ z. a +ℤ z) (zero-*ℤ c) ∙ omega (arith, ints)

term_later : (a c : ℤ) (i : ℕ) → term a c (suc i) ≡ term (a +ℤ c) c i
term_later a c i = let e = suc_ℤ-*ℤ (pos i) c in ap (λ z. a +ℤ z) e ∙ omega (arith, ints)

surpasses_not : (t l c : ℤ) → continues t l c ≡ true → surpasses c l t ≡ false
surpasses_not t l (pos k) e = grind (arith, ints)
surpasses_not t l (negsuc k) e = grind (arith, ints)

surpasses_yes : (t l c : ℤ) → continues t l c ≡ false → surpasses c l t ≡ true
surpasses_yes t l (pos k) e = grind (arith, ints)
surpasses_yes t l (negsuc k) e = grind (arith, ints)

counted : (a l c : ℤ) (n : ℕ) → (c ≡ pos 0 → ⊥) → terms a l c ≡ n → ((i : ℕ) → i < n → surpasses c l (term a c i) ≡ false) × (surpasses c l (term a c n) ≡ true)
counted a l c zero nz e = ((λ i h. absurd (omega arith)), ap (surpasses c l) (term_first a c) ∙ surpasses_yes a l c (terms_none a l c e))
counted a l c (suc n) nz e = let r = counted (a +ℤ c) l c n nz (terms_next a l c n nz e) in (below r, ap (surpasses c l) (term_later a c n) ∙ r.1)
  where
    below : ((i : ℕ) → i < n → surpasses c l (term (a +ℤ c) c i) ≡ false) × (surpasses c l (term (a +ℤ c) c n) ≡ true) → (i : ℕ) → i < suc n → surpasses c l (term a c i) ≡ false
    below r zero h = ap (surpasses c l) (term_first a c) ∙ surpasses_not a l c (terms_some a l c n e)
    below r (suc i) h = ap (surpasses c l) (term_later a c i) ∙ r.0 i (omega arith)

pub for_terms : ForTerms
for_terms a l c nz = counted a l c (terms a l c) nz refl
