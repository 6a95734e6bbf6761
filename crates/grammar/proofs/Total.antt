-- Where the check passes, every list of symbols is read or refused: no nonterminal is met again before a symbol is read.
use Rattle.std.proofs.Common.{◌≡◌, ℕ, zero, suc, ◌+◌, ◌<◌, ◌≤◌, Bool, true, false, cond, not, T, ◌⊎◌, List, [], ◌∷◌, ◌++◌, sym, refl, ap, ◌∙◌, subst, inl, inr, arith, ltb→lt, lt→ltb, T_not}
use Rattle.grammar.specs.Ebnf.{factor, statement, G, eps, tok, seq, alt, rep, ref, nest, mem, Tree, unit, leaf, pair, left, right, nil, cons, node, under, yield}
use Rattle.grammar.specs.Reader.{hd, first, null, implies, Why, wrong, deep, Reads, r_eps, r_tok, r_seq, r_left, r_right, r_nil, r_cons, r_node, r_factor, r_statement, Stops, s_tok, s_seq, s_then, s_left, s_right, s_item, s_more, s_node, s_out, s_factors, s_statements, s_factor, s_statement, ok, ranked, passes}
use Rattle.grammar.proofs.Classes.{both, implied, and_in}
use Rattle.grammar.proofs.Theory.{sound}
use Rattle.grammar.proofs.Decides as decides

-- a test holds or not
test : (b : Bool) → T b ⊎ T (not b)
test true = inl tt
test false = inr tt

implied_by : (a b : Bool) → T b → T (implies a b)
implied_by true b h = h
implied_by false b h = tt

-- each symbol weighs more than every rank
abbrev weight : ℕ → List ℕ → ℕ
weight top [] = 0
weight top (a ∷ w) = suc top + weight top w

lighter : (top : ℕ) (u y : List ℕ) → weight top y ≤ weight top (u ++ y)
lighter top [] y = omega arith
lighter top (a ∷ u) y = let h = lighter top u y in omega arith

module _ {N : Type 0} (rule : N → G N) (firsts : N → List ℕ) (nulls : N → Bool) (follows : N → List ℕ) (rank : N → ℕ)
    (check : (n : N) → T (passes firsts nulls follows rank rule n)) (top : ℕ) (below : (n : N) → rank n < top) where
  -- what the reader comes to
  pub data Comes (d e : ℕ) (g : G N) (w : List ℕ) : Type 0 where
    done : (t : Tree rule g) (y : List ℕ) → Reads rule firsts nulls d e g w t y → Comes d e g w
    fails : (φ : Why) (z : List ℕ) → Stops rule firsts nulls d e g w φ z → Comes d e g w

  -- what is left is lighter, or nothing was read
  progress : {d e : ℕ} {g : G N} {w y : List ℕ} {t : Tree rule g} → Reads rule firsts nulls d e g w t y → (weight top y + top < weight top w) ⊎ ((y ≡ w) × T (null firsts nulls g))
  progress {g} {w} {y} {t} r = go (yield rule t) refl (sound rule firsts nulls r)
    where
      go : (u : List ℕ) → yield rule t ≡ u → w ≡ yield rule t ++ y → (weight top y + top < weight top w) ⊎ ((y ≡ w) × T (null firsts nulls g))
      go [] e s = elim (decides.starts rule firsts nulls follows rank check t []) [
        | inl b ↦ absurd (subst (λ x. T (hd (first firsts nulls g) (x ++ []))) e b)
        | inr n ↦ inr (sym (s ∙ ap (λ x. x ++ y) e), n.1)
      ]
      go (a ∷ u) e s =
          let l : weight top w ≡ weight top ((a ∷ u) ++ y) = ap (weight top) (s ∙ ap (λ x. x ++ y) e) in
          let h = lighter top u y in
          inl (omega arith)

  -- every nonterminal is of a rank below the top
  all_ranked : (g : G N) → T (ranked firsts nulls follows rank top g)
  all_ranked eps = tt
  all_ranked (tok k c) = tt
  all_ranked (seq g h) = and_in (ranked firsts nulls follows rank top g) (implies (null firsts nulls g) (ranked firsts nulls follows rank top h)) (all_ranked g) (implied_by (null firsts nulls g) (ranked firsts nulls follows rank top h) (all_ranked h))
  all_ranked (alt g h) = and_in (ranked firsts nulls follows rank top g) (ranked firsts nulls follows rank top h) (all_ranked g) (all_ranked h)
  all_ranked (rep g) = all_ranked g
  all_ranked (ref n) = lt→ltb (rank n) top (below n)
  all_ranked (nest κ k c g) = tt

  -- what is decided of everything lighter
  abbrev Decided : ℕ → Type 0
  Decided bound = (d e : ℕ) (g : G N) (r : ℕ) (f : List ℕ) → T (ranked firsts nulls follows rank r g) → T (ok firsts nulls follows g f) → (w : List ℕ) → weight top w + r < bound → Comes d e g w

  then_seq : {d e : ℕ} {g h : G N} {w : List ℕ} → Comes d e g w → ((t : Tree rule g) (x : List ℕ) → Reads rule firsts nulls d e g w t x → Comes d e h x) → Comes d e (seq g h) w
  then_seq (fails φ z s) k = fails φ z (s_seq s)
  then_seq (done t x r) k = elim (k t x r) [ done s y q ↦ done (pair t s) y (r_seq r q) | fails φ z q ↦ fails φ z (s_then r q) ]

  step : (bound : ℕ) → Decided bound → (d e : ℕ) (g : G N) (r : ℕ) (f : List ℕ) → T (ranked firsts nulls follows rank r g) → T (ok firsts nulls follows g f) → (w : List ℕ) → weight top w + r < suc bound → Comes d e g w
  step b rec d e eps r f k o w l = done unit w r_eps
  step b rec d e (tok i c) r f k o [] l = fails wrong [] (s_tok tt)
  step b rec d e (tok i c) r f k o (a ∷ w) l =
      elim (test (mem a (i ∷ c))) [ inl h ↦ done (leaf a h) w (r_tok h) | inr h ↦ fails wrong (a ∷ w) (s_tok h) ]
  step b rec d e (seq g h) r f k o w l =
      let (k₀, k₁) = both (ranked firsts nulls follows rank r g) (implies (null firsts nulls g) (ranked firsts nulls follows rank r h)) k in
      let (o₀, o₁) = both (ok firsts nulls follows g (first firsts nulls h ++ cond (null firsts nulls h) f [])) (ok firsts nulls follows h f) o in
      then_seq (step b rec d e g r _ k₀ o₀ w l) (λ t x p. elim (progress p) [
        | inl m ↦ step b rec d e h top f (all_ranked h) o₁ x (omega arith)
        | inr m ↦ step b rec d e h r f (implied (null firsts nulls g) (ranked firsts nulls follows rank r h) k₁ m.1) o₁ x (subst (λ v. weight top v + r < suc b) (sym m.0) l)
      ])
  step b rec d e (alt g h) r f k o w l =
      let (k₀, k₁) = both (ranked firsts nulls follows rank r g) (ranked firsts nulls follows rank r h) k in
      let (o₀, o₁, o₂, o₃) = decides.alt_ok rule firsts nulls follows rank check g h f o in
      elim (test (hd (first firsts nulls g) w)) [
        | inl q ↦ elim (step b rec d e g r f k₀ o₂ w l) [ done t y p ↦ done (left t) y (r_left q p) | fails φ z p ↦ fails φ z (s_left q p) ]
        | inr q ↦ elim (step b rec d e h r f k₁ o₃ w l) [ done t y p ↦ done (right t) y (r_right q p) | fails φ z p ↦ fails φ z (s_right q p) ]
      ]
  step b rec d e (rep g) r f k o w l =
      let (o₀, o₁, o₂) = decides.rep_ok rule firsts nulls follows rank check g f o in
      elim (test (hd (first firsts nulls g) w)) [
        | inr q ↦ done nil w (r_nil q)
        | inl q ↦ elim (step b rec d e g r _ k o₂ w l) [
          | fails φ z p ↦ fails φ z (s_item q p)
          | done t x p ↦ elim (progress p) [
            | inr m ↦ absurd (T_not (null firsts nulls g) o₀ m.1)
            | inl m ↦ elim (rec d e (rep g) top f (all_ranked g) o x (omega arith)) [
              | done s y p' ↦ done (cons t s) y (r_cons q p p')
              | fails φ z p' ↦ fails φ z (s_more q p p')
            ]
          ]
        ]
      ]
  step b rec d e (ref n) r f k o w l =
      let (i₀, i₁, i₂, i₃) = decides.rule_all rule firsts nulls follows rank check n in
      let h = ltb→lt (rank n) r k in
      elim (rec d e (rule n) (rank n) (follows n) i₃ i₀ w (omega arith)) [ done t y p ↦ done (node t) y (r_node p) | fails φ z p ↦ fails φ z (s_node p) ]
  step b rec d e (nest κ i c g) r f k o [] l = fails wrong [] (s_out tt)
  step b rec zero e (nest factor i c g) r f k o (a ∷ w) l =
      elim (test (mem a (i ∷ c))) [ inr h ↦ fails wrong (a ∷ w) (s_out h) | inl h ↦ fails deep (a ∷ w) (s_factors h) ]
  step b rec (suc d) e (nest factor i c g) r f k o (a ∷ w) l =
      elim (test (mem a (i ∷ c))) [
        | inr h ↦ fails wrong (a ∷ w) (s_out h)
        | inl h ↦ elim (step b rec d e g top f (all_ranked g) o w (omega arith)) [ done t y p ↦ done (under a h t) y (r_factor h p) | fails φ z p ↦ fails φ z (s_factor h p) ]
      ]
  step b rec d zero (nest statement i c g) r f k o (a ∷ w) l =
      elim (test (mem a (i ∷ c))) [ inr h ↦ fails wrong (a ∷ w) (s_out h) | inl h ↦ fails deep (a ∷ w) (s_statements h) ]
  step b rec d (suc e) (nest statement i c g) r f k o (a ∷ w) l =
      elim (test (mem a (i ∷ c))) [
        | inr h ↦ fails wrong (a ∷ w) (s_out h)
        | inl h ↦ elim (step b rec d e g top f (all_ranked g) o w (omega arith)) [ done t y p ↦ done (under a h t) y (r_statement h p) | fails φ z p ↦ fails φ z (s_statement h p) ]
      ]

  decided : (bound : ℕ) → Decided bound
  decided zero d e g r f k o w l = absurd (omega arith)
  decided (suc bound) d e g r f k o w l = step bound (decided bound) d e g r f k o w l

  -- every list is read or refused
  pub total : (d e : ℕ) (g : G N) → T (ok firsts nulls follows g []) → (w : List ℕ) → Comes d e g w
  total d e g o w = decided (suc (weight top w + top)) d e g top [] (all_ranked g) o w (omega arith)
