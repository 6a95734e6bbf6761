-- Where the check passes, each tree is read, or refused at the first symbol that encloses one too many.
use Rattle.std.proofs.Common.{◌≡◌, ℕ, zero, suc, ◌+◌, ◌≤◌, Bool, cond, not, T, ◌⊎◌, List, [], ◌∷◌, ◌++◌, length, sym, refl, ap, ◌∙◌, subst, ap₂, inl, inr, append_assoc, arith, T_not, length-append}
use lib.Dec.{not_T}
use Rattle.grammar.specs.Ebnf.{Kind, factor, statement, G, alt, rep, nest, mem, Tree, unit, leaf, pair, left, right, nil, cons, node, under, yield, Mark, plain, encloses, marks, in_factors, in_statements}
use Rattle.grammar.specs.Reader.{hd, fits, first, null, deep, Reads, r_eps, r_tok, r_seq, r_left, r_right, r_nil, r_cons, r_node, r_factor, r_statement, Stops, s_seq, s_then, s_left, s_right, s_item, s_more, s_node, s_factors, s_statements, s_factor, s_statement, subset, apart, implies, ok, ranked, passes}
use Rattle.grammar.proofs.Classes.{or_left, or_right, both, both3, both4, implied, and_in, hd_left, hd_right, hd_sub, fits_sub, fits_left, hd_apart, hd_cond, fits_cond}
use Rattle.grammar.proofs.Theory.{reads_at, stops_at}

-- no enclosure is above the limit
abbrev pub Fit : ℕ → Mark → Type 0
Fit limit plain = Unit {0}
Fit limit (encloses κ n) = n ≤ limit

abbrev pub Fits : ℕ → List Mark → Type 0
Fits limit [] = Unit {0}
Fits limit (m ∷ ms) = Fit limit m × Fits limit ms

pub fits_both : (limit : ℕ) (ms ns : List Mark) → Fits limit ms → Fits limit ns → Fits limit (ms ++ ns)
fits_both limit [] ns h k = k
fits_both limit (m ∷ ms) ns h k = (h.0, fits_both limit ms ns h.1 k)

-- a tree has a mark for each symbol
pub as_long : {N : Type 0} (rule : N → G N) {g : G N} (m n : ℕ) (t : Tree rule g) → length (marks rule m n t) ≡ length (yield rule t)
as_long rule m n unit = refl
as_long rule m n (leaf a p) = refl
as_long rule m n (pair t s) = length-append (marks rule m n t) (marks rule m n s) ∙ ap₂ ◌+◌ (as_long rule m n t) (as_long rule m n s) ∙ sym (length-append (yield rule t) (yield rule s))
as_long rule m n (left t) = as_long rule m n t
as_long rule m n (right t) = as_long rule m n t
as_long rule m n nil = refl
as_long rule m n (cons t s) = length-append (marks rule m n t) (marks rule m n s) ∙ ap₂ ◌+◌ (as_long rule m n t) (as_long rule m n s) ∙ sym (length-append (yield rule t) (yield rule s))
as_long rule m n (node t) = as_long rule m n t
as_long rule m n (under {κ} a p t) = ap suc (as_long rule (in_factors κ m) (in_statements κ n) t)

module _ {N : Type 0} (rule : N → G N) (firsts : N → List ℕ) (nulls : N → Bool) (follows : N → List ℕ) (rank : N → ℕ)
    (check : (n : N) → T (passes firsts nulls follows rank rule n)) where
  -- what the check says of a rule
  pub rule_all : (n : N) → T (ok firsts nulls follows (rule n) (follows n)) × T (subset (first firsts nulls (rule n)) (firsts n)) × (T (null firsts nulls (rule n)) → T (nulls n)) × T (ranked firsts nulls follows rank (rank n) (rule n))
  rule_all n =
      let (h, i, k, l) = both4 (ok firsts nulls follows (rule n) (follows n)) (subset (first firsts nulls (rule n)) (firsts n)) (implies (null firsts nulls (rule n)) (nulls n)) (ranked firsts nulls follows rank (rank n) (rule n)) (check n) in
      (h, i, implied (null firsts nulls (rule n)) (nulls n) k, l)

  -- a tree begins with a symbol of its first set, or is empty
  pub starts : {g : G N} (t : Tree rule g) (y : List ℕ) → T (hd (first firsts nulls g) (yield rule t ++ y)) ⊎ ((yield rule t ≡ []) × T (null firsts nulls g))
  starts unit y = inr (refl, tt)
  starts (leaf a p) y = inl p
  starts (pair {g} {h} t s) y =
      elim (starts t (yield rule s ++ y)) [
        | inl b ↦ inl (subst (λ x. T (hd (first firsts nulls g ++ cond (null firsts nulls g) (first firsts nulls h) []) x)) (sym (append_assoc (yield rule t) (yield rule s) y))
            (hd_left (first firsts nulls g) (cond (null firsts nulls g) (first firsts nulls h) []) (yield rule t ++ (yield rule s ++ y)) b))
        | inr e ↦ elim (starts s y) [
          | inl b ↦ inl (hd_cond (null firsts nulls g) (first firsts nulls g) (first firsts nulls h) _ e.1
              (subst (λ x. T (hd (first firsts nulls h) ((x ++ yield rule s) ++ y))) (sym e.0) b))
          | inr d ↦ inr (ap₂ ◌++◌ e.0 d.0, and_in (null firsts nulls g) (null firsts nulls h) e.1 d.1)
        ]
      ]
  starts (left {g} {h} t) y =
      elim (starts t y) [ inl b ↦ inl (hd_left (first firsts nulls g) (first firsts nulls h) _ b) | inr e ↦ inr (e.0, or_left _ _ e.1) ]
  starts (right {g} {h} t) y =
      elim (starts t y) [ inl b ↦ inl (hd_right (first firsts nulls g) (first firsts nulls h) _ b) | inr e ↦ inr (e.0, or_right (null firsts nulls g) _ e.1) ]
  starts nil y = inr (refl, tt)
  starts (cons {g} t s) y =
      elim (starts t (yield rule s ++ y)) [
        | inl b ↦ inl (subst (λ x. T (hd (first firsts nulls g) x)) (sym (append_assoc (yield rule t) (yield rule s) y)) b)
        | inr e ↦ elim (starts s y) [
          | inl b ↦ inl (subst (λ x. T (hd (first firsts nulls g) ((x ++ yield rule s) ++ y))) (sym e.0) b)
          | inr d ↦ inr (ap₂ ◌++◌ e.0 d.0, tt)
        ]
      ]
  starts (under a p t) y = inl p
  starts (node {n} t) y =
      elim (starts t y) [ inl b ↦ inl (hd_sub (first firsts nulls (rule n)) (firsts n) _ (rule_all n).1 b) | inr e ↦ inr (e.0, (rule_all n).2 e.1) ]

  -- what a tree and what may follow it begin with
  pub after : {g : G N} (t : Tree rule g) (f y : List ℕ) → T (fits f y) → T (fits (first firsts nulls g ++ cond (null firsts nulls g) f []) (yield rule t ++ y))
  after {g} t f y h =
      elim (starts t y) [
        | inl b ↦ fits_left (first firsts nulls g) _ _ b
        | inr e ↦ fits_cond (null firsts nulls g) (first firsts nulls g) f _ e.1 (subst (λ x. T (fits f (x ++ y))) (sym e.0) h)
      ]

  pub begun : {g : G N} (t : Tree rule g) (y : List ℕ) → T (not (null firsts nulls g)) → T (hd (first firsts nulls g) (yield rule t ++ y))
  begun {g} t y n = elim (starts t y) [ inl b ↦ b | inr e ↦ absurd (T_not (null firsts nulls g) n e.1) ]

  pub alt_ok : (g h : G N) (f : List ℕ) → T (ok firsts nulls follows (alt g h) f) →
      T (not (null firsts nulls g)) × T (apart (first firsts nulls g) (first firsts nulls h ++ cond (null firsts nulls h) f [])) × T (ok firsts nulls follows g f) × T (ok firsts nulls follows h f)
  alt_ok g h f k =
      both4 (not (null firsts nulls g)) (apart (first firsts nulls g) (first firsts nulls h ++ cond (null firsts nulls h) f [])) (ok firsts nulls follows g f) (ok firsts nulls follows h f) k

  pub rep_ok : (g : G N) (f : List ℕ) → T (ok firsts nulls follows (rep g) f) →
      T (not (null firsts nulls g)) × T (apart (first firsts nulls g) f) × T (ok firsts nulls follows g (first firsts nulls g ++ f))
  rep_ok g f k = both3 (not (null firsts nulls g)) (apart (first firsts nulls g) f) (ok firsts nulls follows g (first firsts nulls g ++ f)) k

  -- where d more factors and e more statements may be enclosed inside m and n, up to the limit, each tree is read, if what follows
  -- may follow; unless a symbol of it encloses one too many, where the first such is refused
  pub data Outcome {g : G N} (limit d e m n : ℕ) (t : Tree rule g) (y : List ℕ) : Type 0 where
    fine : Reads rule firsts nulls d e g (yield rule t ++ y) t y → Fits limit (marks rule m n t) → Outcome limit d e m n t y
    over : (u : List ℕ) (a : ℕ) (v : List ℕ) (κ : Kind) (before behind : List Mark) → yield rule t ≡ u ++ (a ∷ v) →
        marks rule m n t ≡ before ++ (encloses κ (suc limit) ∷ behind) → length before ≡ length u → Fits limit before →
        Stops rule firsts nulls d e g (yield rule t ++ y) deep (a ∷ (v ++ y)) → Outcome limit d e m n t y

  alike : {g h : G N} {t : Tree rule g} {s : Tree rule h} {limit d e m n : ℕ} {y : List ℕ} → yield rule s ≡ yield rule t → marks rule m n s ≡ marks rule m n t →
      (Reads rule firsts nulls d e g (yield rule t ++ y) t y → Reads rule firsts nulls d e h (yield rule s ++ y) s y) →
      ((z : List ℕ) → Stops rule firsts nulls d e g (yield rule t ++ y) deep z → Stops rule firsts nulls d e h (yield rule s ++ y) deep z) →
      Outcome limit d e m n t y → Outcome limit d e m n s y
  alike {limit} p q f k (fine r x) = fine (f r) (subst (Fits limit) (sym q) x)
  alike p q f k (over u a v κ b c i j l x r) = over u a v κ b c (p ∙ i) (q ∙ j) l x (k _ r)

  -- a tree of two parts, each with its outcome
  joined : {g h j : G N} {t : Tree rule g} {s : Tree rule h} {c : Tree rule j} {limit d e m n : ℕ} {y : List ℕ} →
      yield rule c ≡ yield rule t ++ yield rule s → marks rule m n c ≡ marks rule m n t ++ marks rule m n s →
      (Reads rule firsts nulls d e g (yield rule t ++ (yield rule s ++ y)) t (yield rule s ++ y) → Reads rule firsts nulls d e h (yield rule s ++ y) s y → Reads rule firsts nulls d e j (yield rule t ++ (yield rule s ++ y)) c y) →
      ((z : List ℕ) → Stops rule firsts nulls d e g (yield rule t ++ (yield rule s ++ y)) deep z → Stops rule firsts nulls d e j (yield rule t ++ (yield rule s ++ y)) deep z) →
      ((z : List ℕ) → Reads rule firsts nulls d e g (yield rule t ++ (yield rule s ++ y)) t (yield rule s ++ y) → Stops rule firsts nulls d e h (yield rule s ++ y) deep z → Stops rule firsts nulls d e j (yield rule t ++ (yield rule s ++ y)) deep z) →
      Outcome limit d e m n t (yield rule s ++ y) → Outcome limit d e m n s y → Outcome limit d e m n c y
  joined {t} {s} {limit} {m} {n} {y} i j f k l (fine r x) (fine r' x') =
      fine (reads_at rule firsts nulls (sym (append_assoc (yield rule t) (yield rule s) y) ∙ ap (λ w. w ++ y) (sym i)) (f r r'))
      (subst (Fits limit) (sym j) (fits_both limit (marks rule m n t) (marks rule m n s) x x'))
  joined {t} {s} {m} {n} {y} i j f k l (fine r x) (over u a v κ b c i' j' e' x' r') =
      over (yield rule t ++ u) a v κ (marks rule m n t ++ b) c
      (i ∙ ap (λ w. yield rule t ++ w) i' ∙ sym (append_assoc (yield rule t) u (a ∷ v)))
      (j ∙ ap (λ w. marks rule m n t ++ w) j' ∙ sym (append_assoc (marks rule m n t) b (encloses κ _ ∷ c)))
      (length-append (marks rule m n t) b ∙ ap₂ ◌+◌ (as_long rule m n t) e' ∙ sym (length-append (yield rule t) u))
      (fits_both _ (marks rule m n t) b x x')
      (stops_at rule firsts nulls (sym (append_assoc (yield rule t) (yield rule s) y) ∙ ap (λ w. w ++ y) (sym i)) (l _ r r'))
  joined {j = g''} {t} {s} {c = t''} {d} {e} {m} {n} {y} i j f k l (over u a v κ b c i' j' e' x' r') o =
      over u a (v ++ yield rule s) κ b (c ++ marks rule m n s)
      (i ∙ ap (λ w. w ++ yield rule s) i' ∙ append_assoc u (a ∷ v) (yield rule s))
      (j ∙ ap (λ w. w ++ marks rule m n s) j' ∙ append_assoc b (encloses κ _ ∷ c) (marks rule m n s))
      e' x'
      (subst (λ z. Stops rule firsts nulls d e g'' (yield rule t'' ++ y) deep (a ∷ z)) (sym (append_assoc v (yield rule s) y))
      (stops_at rule firsts nulls (sym (append_assoc (yield rule t) (yield rule s) y) ∙ ap (λ w. w ++ y) (sym i)) (k _ r')))

  enter_factor : {k : ℕ} {c : List ℕ} {g : G N} {t : Tree rule g} {limit d e m n : ℕ} {y : List ℕ} (a : ℕ) (p : T (mem a (k ∷ c))) → suc m ≤ limit →
      Outcome limit d e (suc m) n t y → Outcome {g = nest factor k c g} limit (suc d) e m n (under a p t) y
  enter_factor a p h (fine r x) = fine (r_factor p r) (h, x)
  enter_factor {m} {n} a p h (over u b v κ j o e₀ e₁ e₂ x r) =
      over (a ∷ u) b v κ (encloses factor (suc m) ∷ j) o (ap (λ w. a ∷ w) e₀) (ap (λ w. encloses factor (suc m) ∷ w) e₁) (ap suc e₂) (h, x) (s_factor p r)

  enter_statement : {k : ℕ} {c : List ℕ} {g : G N} {t : Tree rule g} {limit d e m n : ℕ} {y : List ℕ} (a : ℕ) (p : T (mem a (k ∷ c))) → suc n ≤ limit →
      Outcome limit d e m (suc n) t y → Outcome {g = nest statement k c g} limit d (suc e) m n (under a p t) y
  enter_statement a p h (fine r x) = fine (r_statement p r) (h, x)
  enter_statement {m} {n} a p h (over u b v κ j o e₀ e₁ e₂ x r) =
      over (a ∷ u) b v κ (encloses statement (suc n) ∷ j) o (ap (λ w. a ∷ w) e₀) (ap (λ w. encloses statement (suc n) ∷ w) e₁) (ap suc e₂) (h, x) (s_statement p r)

  pub outcome : {g : G N} (t : Tree rule g) (limit d e m n : ℕ) → m + d ≡ limit → n + e ≡ limit → (f : List ℕ) → T (ok firsts nulls follows g f) → (y : List ℕ) → T (fits f y) → Outcome limit d e m n t y
  outcome unit limit d e m n h i f k y l = fine r_eps tt
  outcome (leaf a p) limit d e m n h i f k y l = fine (r_tok p) (tt, tt)
  outcome (pair {g} {h = g'} t s) limit d e m n h i f k y l =
      let (k₀, k₁) = both (ok firsts nulls follows g (first firsts nulls g' ++ cond (null firsts nulls g') f [])) (ok firsts nulls follows g' f) k in
      joined refl refl (λ p q. r_seq p q) (λ z p. s_seq p) (λ z p q. s_then p q)
      (outcome t limit d e m n h i _ k₀ (yield rule s ++ y) (after s f y l)) (outcome s limit d e m n h i f k₁ y l)
  outcome (left {g} {h = g'} t) limit d e m n h i f k y l =
      let (k₀, k₁, k₂, k₃) = alt_ok g g' f k in
      alike refl refl (λ p. r_left (begun t y k₀) p) (λ z p. s_left (begun t y k₀) p) (outcome t limit d e m n h i f k₂ y l)
  outcome (right {g} {h = g'} t) limit d e m n h i f k y l =
      let (k₀, k₁, k₂, k₃) = alt_ok g g' f k in
      let b = not_T _ (λ b. hd_apart (first firsts nulls g) _ _ k₁ b (after t f y l)) in
      alike refl refl (λ p. r_right b p) (λ z p. s_right b p) (outcome t limit d e m n h i f k₃ y l)
  outcome (nil {g}) limit d e m n h i f k y l = fine (r_nil (not_T _ (λ b. hd_apart (first firsts nulls g) f y (rep_ok g f k).1 b l))) tt
  outcome (cons {g} t s) limit d e m n h i f k y l =
      let (k₀, k₁, k₂) = rep_ok g f k in
      let b = begun t (yield rule s ++ y) k₀ in
      joined refl refl (λ p q. r_cons b p q) (λ z p. s_item b p) (λ z p q. s_more b p q)
      (outcome t limit d e m n h i _ k₂ (yield rule s ++ y) (after s f y l)) (outcome s limit d e m n h i f k y l)
  outcome (node {n = o} t) limit d e m n h i f k y l =
      alike refl refl (λ p. r_node p) (λ z p. s_node p) (outcome t limit d e m n h i (follows o) (rule_all o).0 y (fits_sub f (follows o) y k l))
  outcome (under {κ = factor} {c} {g} a p t) limit zero e m n h i f k y l =
      over [] a (yield rule t) factor [] _ refl (ap (λ x. encloses factor (suc x) ∷ marks rule (suc m) n t) (omega arith)) refl tt (s_factors p)
  outcome (under {κ = factor} a p t) limit (suc d) e m n h i f k y l =
      enter_factor a p (omega arith) (outcome t limit d e (suc m) n (omega arith) i f k y l)
  outcome (under {κ = statement} a p t) limit d zero m n h i f k y l =
      over [] a (yield rule t) statement [] _ refl (ap (λ x. encloses statement (suc x) ∷ marks rule m (suc n) t) (omega arith)) refl tt (s_statements p)
  outcome (under {κ = statement} a p t) limit d (suc e) m n h i f k y l =
      enter_statement a p (omega arith) (outcome t limit d e m (suc n) h (omega arith) f k y l)
