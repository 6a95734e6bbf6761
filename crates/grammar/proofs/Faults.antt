-- Where the check passes: sentences have one tree, and what a refusal says of its place.
use Rattle.std.proofs.Common.{◌≡◌, ℕ, zero, suc, ◌<◌, ◌≤◌, max, Bool, cond, T, ◌⊎◌, List, [], ◌∷◌, ◌++◌, length, get_or, take, drop, sym, refl, ap, ◌∙◌, subst, inl, inr, append_assoc, append-nil, le_of_suc-le-suc, arith, length-append}
use mathlib.Core.List.{nil≢cons}
use native.Mathlib.Decide.{dec_lt}
use lib.Dec.{not_T}
use Rattle.std.proofs.lemmas.List.{take-append-drop, get_or_at, get_or_append_left, take_at, drop_at}
use Rattle.grammar.specs.Ebnf.{Kind, factor, statement, G, ref, Tree, unit, leaf, pair, left, right, nil, cons, node, under, yield, Mark, plain, encloses, marks, Viable}
use Rattle.grammar.specs.Reader.{fits, first, null, Why, wrong, deep, Reads, r_eps, r_tok, r_seq, r_left, r_right, r_nil, r_cons, r_node, r_factor, r_statement, Stops, ok, passes}
use Rattle.grammar.proofs.Classes.{both, fits_sub, hd_apart}
use Rattle.grammar.proofs.Theory.{reads_at, stops_at, sound, det, not_both, local, up, up_wrong, stops_det, stopped}
use Rattle.grammar.proofs.Decides.{Fit, Fits, as_long}
use Rattle.grammar.proofs.Decides as decides
use Rattle.grammar.proofs.Prefixes.{same_next, same_before, front, drop_place}

-- a mark among those that fit is no enclosure above the limit
pub fits_at : (limit : ℕ) (ms : List Mark) (k : ℕ) (κ : Kind) → Fits limit ms → get_or ms k plain ≡ encloses κ (suc limit) → ⊥
fits_at limit [] k κ h e = let z : ◌≡◌ {A = ℕ} 0 1 = cc in omega arith
fits_at limit (m ∷ ms) zero κ h e = let f = subst (Fit limit) e h.0 in omega arith
fits_at limit (m ∷ ms) (suc k) κ h e = fits_at limit ms k κ h.1 e

module _ {N : Type 0} (rule : N → G N) (firsts : N → List ℕ) (nulls : N → Bool) (follows : N → List ℕ) (rank : N → ℕ)
    (check : (n : N) → T (passes firsts nulls follows rank rule n)) where
  -- each tree is read where as many may enclose as it has symbols
  reads : {g : G N} (t : Tree rule g) (d e : ℕ) (f : List ℕ) → T (ok firsts nulls follows g f) → (y : List ℕ) → T (fits f y) →
      length (yield rule t) ≤ d → length (yield rule t) ≤ e → Reads rule firsts nulls d e g (yield rule t ++ y) t y
  reads unit d e f k y h l m = r_eps
  reads (leaf a p) d e f k y h l m = r_tok p
  reads (pair {g} {h = g'} t s) d e f k y h l m =
      let (k₀, k₁) = both (ok firsts nulls follows g (first firsts nulls g' ++ cond (null firsts nulls g') f [])) (ok firsts nulls follows g' f) k in
      let n = length-append (yield rule t) (yield rule s) in
      reads_at rule firsts nulls (sym (append_assoc (yield rule t) (yield rule s) y))
      (r_seq (reads t d e _ k₀ (yield rule s ++ y) (decides.after rule firsts nulls follows rank check s f y h) (omega arith) (omega arith)) (reads s d e f k₁ y h (omega arith) (omega arith)))
  reads (left {g} {h = g'} t) d e f k y h l m =
      let (k₀, k₁, k₂, k₃) = decides.alt_ok rule firsts nulls follows rank check g g' f k in
      r_left (decides.begun rule firsts nulls follows rank check t y k₀) (reads t d e f k₂ y h l m)
  reads (right {g} {h = g'} t) d e f k y h l m =
      let (k₀, k₁, k₂, k₃) = decides.alt_ok rule firsts nulls follows rank check g g' f k in
      r_right (not_T _ (λ b. hd_apart (first firsts nulls g) _ _ k₁ b (decides.after rule firsts nulls follows rank check t f y h))) (reads t d e f k₃ y h l m)
  reads (nil {g}) d e f k y h l m = r_nil (not_T _ (λ b. hd_apart (first firsts nulls g) f y (decides.rep_ok rule firsts nulls follows rank check g f k).1 b h))
  reads (cons {g} t s) d e f k y h l m =
      let (k₀, k₁, k₂) = decides.rep_ok rule firsts nulls follows rank check g f k in
      let n = length-append (yield rule t) (yield rule s) in
      reads_at rule firsts nulls (sym (append_assoc (yield rule t) (yield rule s) y))
      (r_cons (decides.begun rule firsts nulls follows rank check t (yield rule s ++ y) k₀)
      (reads t d e _ k₂ (yield rule s ++ y) (decides.after rule firsts nulls follows rank check s f y h) (omega arith) (omega arith)) (reads s d e f k y h (omega arith) (omega arith)))
  reads (node {n} t) d e f k y h l m = r_node (reads t d e (follows n) (decides.rule_all rule firsts nulls follows rank check n).0 y (fits_sub f (follows n) y k h) l m)
  reads (under {κ = factor} a p t) zero e f k y h l m = absurd (omega arith)
  reads (under {κ = factor} a p t) (suc d) e f k y h l m = r_factor p (reads t d e f k y h (omega arith) (omega arith))
  reads (under {κ = statement} a p t) d zero f k y h l m = absurd (omega arith)
  reads (under {κ = statement} a p t) d (suc e) f k y h l m = r_statement p (reads t d e f k y h (omega arith) (omega arith))

  module _ (g : G N) (good : T (ok firsts nulls follows g [])) where
    -- a sentence is read where enough may enclose
    pub complete : (d e : ℕ) (t : Tree rule g) → length (yield rule t) ≤ d → length (yield rule t) ≤ e → Reads rule firsts nulls d e g (yield rule t) t []
    complete d e t l m = reads_at rule firsts nulls (append-nil (yield rule t)) (reads t d e [] good [] tt l m)

    -- the symbols have one tree
    pub unique : (t s : Tree rule g) → yield rule t ≡ yield rule s → t ≡ s
    unique t s e =
        let d = max (length (yield rule t)) (length (yield rule s)) in
        (det rule firsts nulls (complete d d t (omega arith) (omega arith)) (reads_at rule firsts nulls (sym e) (complete d d s (omega arith) (omega arith)))).0

    -- a sentence is read and left over are symbols: no sentence goes on with the next of them
    pub trailing : (d e : ℕ) (w z : List ℕ) (a : ℕ) (t : Tree rule g) → Reads rule firsts nulls d e g w t (a ∷ z) → (v : List ℕ) (s : Tree rule g) → yield rule s ≡ yield rule t ++ (a ∷ v) → ⊥
    trailing d e w z a t r v s q =
        let m = max (max d e) (length (yield rule s)) in
        let p = local rule firsts nulls (up rule firsts nulls {d' = m} {e' = m} (omega arith) (omega arith) r) (a ∷ v) (λ c. refl) in
        nil≢cons (det rule firsts nulls (complete m m s (omega arith) (omega arith)) (reads_at rule firsts nulls (sym q) p)).1

    -- what a tree comes to where so many may enclose: it fits and is read, or it is refused at the first that is one too many
    pub record Over (limit : ℕ) (t : Tree rule g) : Type 0 where
      pub at : ℕ
      pub inside : at < length (yield rule t)
      pub kind : Kind
      pub marked : get_or (marks rule 0 0 t) at plain ≡ encloses kind (suc limit)
      pub first_one : (j : ℕ) (κ : Kind) → j < at → get_or (marks rule 0 0 t) j plain ≡ encloses κ (suc limit) → ⊥
      pub refused : Stops rule firsts nulls limit limit g (yield rule t) deep (drop at (yield rule t))

    pub within : (limit : ℕ) (t : Tree rule g) → (Fits limit (marks rule 0 0 t) × Reads rule firsts nulls limit limit g (yield rule t) t []) ⊎ Over limit t
    within limit t = go (decides.outcome rule firsts nulls follows rank check t limit limit limit 0 0 (omega arith) (omega arith) [] good [] tt)
      where
        go : decides.Outcome rule firsts nulls follows rank check limit limit limit 0 0 t [] → (Fits limit (marks rule 0 0 t) × Reads rule firsts nulls limit limit g (yield rule t) t []) ⊎ Over limit t
        go (decides.fine r x) = inl (x, reads_at rule firsts nulls (append-nil (yield rule t)) r)
        go (decides.over u a v κ b c i j l x r) =
            let n = ap length i ∙ length-append u (a ∷ v) in
            inr (record {
              at = length u;
              inside = omega arith;
              kind = κ;
              marked = ap (λ ms. get_or ms (length u) plain) j ∙ get_or_at b (encloses κ (suc limit)) c plain (length u) l;
              first_one = λ k μ h q. fits_at limit b k μ x (sym (get_or_append_left b (encloses κ (suc limit) ∷ c) plain k (omega arith)) ∙ sym (ap (λ ms. get_or ms k plain) j) ∙ q);
              refused = subst (λ z. Stops rule firsts nulls limit limit g (yield rule t) deep z) (ap (λ z. a ∷ z) (append-nil v) ∙ sym (ap (drop (length u)) i ∙ drop_at u (a ∷ v) (length u) refl))
                  (stops_at rule firsts nulls (append-nil (yield rule t)) r);
            })

    module _ (least : (n : N) → Tree rule (ref n)) where
      -- a refusal at k depends on the symbols up to k alone
      pub moved : (d e : ℕ) (φ : Why) (w : List ℕ) (k : ℕ) → k ≤ length w → Stops rule firsts nulls d e g w φ (drop k w) → (v : List ℕ) → take (suc k) w ≡ take (suc k) v → Stops rule firsts nulls d e g v φ (drop k v)
      moved d e φ w k h s v q =
          let i = stopped rule firsts nulls least s in
          let f = front i.before w k h i.split in
          stops_at rule firsts nulls (ap (λ x. x ++ drop k v) (f ∙ same_before k (suc k) w v (omega arith) q) ∙ take-append-drop k v) (i.again (drop k v) (same_next k w v q))

      -- what stands before a refusal begins a sentence
      pub viable : (d e : ℕ) (φ : Why) (w : List ℕ) (k : ℕ) → k ≤ length w → Stops rule firsts nulls d e g w φ (drop k w) → Viable rule g (take k w)
      viable d e φ w k h s =
          let i = stopped rule firsts nulls least s in
          (i.more, i.tree, i.yields ∙ ap (λ x. x ++ i.more) (front i.before w k h i.split))

      -- no sentence, however deep, goes on with what is wrong
      pub dead : (d e : ℕ) (w : List ℕ) (k : ℕ) → k ≤ length w → Stops rule firsts nulls d e g w wrong (drop k w) → (t : Tree rule g) → take (suc k) w ≡ take (suc k) (yield rule t) → ⊥
      dead d e w k h s t q =
          let m = max (max d e) (length (yield rule t)) in
          not_both rule firsts nulls (complete m m t (omega arith) (omega arith))
          (up_wrong rule firsts nulls {d' = m} {e' = m} (omega arith) (omega arith) (moved d e wrong w k h s (yield rule t) q))

      -- a sentence does go on with what is too deep, and it is one too many in each
      pub deep_next : (limit : ℕ) (w : List ℕ) (k : ℕ) → k ≤ length w → Stops rule firsts nulls limit limit g w deep (drop k w) → (k < length w) × Viable rule g (take (suc k) w)
      deep_next limit w k h s =
          let i = stopped rule firsts nulls least s in
          let (a, y, m, p, q) = i.after tt in
          let f = front i.before w k h i.split in
          let l = ap length (i.split ∙ ap (λ x. i.before ++ x) p) ∙ length-append i.before (a ∷ y) in
          let o = ap length i.split ∙ length-append i.before (drop k w) in
          let b : length (i.before ++ (a ∷ [])) ≡ suc k = length-append i.before (a ∷ []) ∙ (omega (arith, long k w h, ap length f)) in
          let e : take (suc k) w ≡ i.before ++ (a ∷ []) =
          ap (take (suc k)) (i.split ∙ ap (λ x. i.before ++ x) p ∙ sym (append_assoc i.before (a ∷ []) y)) ∙ take_at (i.before ++ (a ∷ [])) y (suc k) b in
          (omega (arith, long k w h, ap length f), (m, i.tree, i.yields ∙ ap (λ x. i.before ++ x) q ∙ sym (append_assoc i.before (a ∷ []) m) ∙ ap (λ x. x ++ m) (sym e)))
        where
          long : (k : ℕ) (w : List ℕ) → k ≤ length w → length (take k w) ≡ k
          long zero w h = refl
          long (suc k) [] h = omega arith
          long (suc k) (a ∷ w) h = ap suc (long k w (le_of_suc-le-suc h))

      pub always : (limit : ℕ) (w : List ℕ) (k : ℕ) → k < length w → Stops rule firsts nulls limit limit g w deep (drop k w) → (t : Tree rule g) → take (suc k) w ≡ take (suc k) (yield rule t) → k < length (yield rule t) →
          (κ : Kind) × (get_or (marks rule 0 0 t) k plain ≡ encloses κ (suc limit))
      always limit w k h s t q l =
          let z = moved limit limit deep w k (omega arith) s (yield rule t) q in
          elim (within limit t) [
            | inl r ↦ absurd (not_both rule firsts nulls r.1 z)
            | inr o ↦
                let i = o.inside in
                let e = drop_place (yield rule t) o.at k (omega arith) (omega arith) (stops_det rule firsts nulls o.refused z).1 in
                (o.kind, subst (λ x. get_or (marks rule 0 0 t) x plain ≡ encloses o.kind (suc limit)) e o.marked)
          ]

      -- where the reader passes symbol j of w, no sentence has one too many there
      pub passed : (limit : ℕ) (w : List ℕ) (j : ℕ) → ((k : ℕ) → k ≤ j → k < length w → Stops rule firsts nulls limit limit g w deep (drop k w) → ⊥) → j < length w → (t : Tree rule g) → take (suc j) (yield rule t) ≡ take (suc j) w →
          (κ : Kind) → get_or (marks rule 0 0 t) j plain ≡ encloses κ (suc limit) → ⊥
      passed limit w j free h t q κ m =
          elim (within limit t) [
            | inl r ↦ fits_at limit (marks rule 0 0 t) j κ r.0 m
            | inr o ↦ elim (dec_lt j o.at) [
              | yes l ↦ o.first_one j κ l m
              | no l ↦
                  let i = o.inside in
                  free o.at (omega arith) (omega arith) (moved limit limit deep (yield rule t) o.at (omega arith) o.refused w (same_before (suc o.at) (suc j) (yield rule t) w (omega arith) q))
            ]
          ]

      -- what is read fits
      pub fitting : (limit : ℕ) (w y : List ℕ) (t : Tree rule g) → Reads rule firsts nulls limit limit g w t y → Fits limit (marks rule 0 0 t)
      fitting limit w y t r =
          elim (within limit t) [
            | inl x ↦ x.0
            | inr o ↦
                let i = o.inside in
                let s = sound rule firsts nulls r in
                let l = length-append (yield rule t) y in
                absurd (not_both rule firsts nulls r (moved limit limit deep (yield rule t) o.at (omega arith) o.refused w (begun_prefix (yield rule t) y w (suc o.at) i s)))
          ]
        where
          begun_prefix : (u y w : List ℕ) (k : ℕ) → k ≤ length u → w ≡ u ++ y → take k u ≡ take k w
          begun_prefix u y w zero h e = refl
          begun_prefix [] y w (suc k) h e = absurd (omega arith)
          begun_prefix (a ∷ u) y w (suc k) h e = sym (ap (take (suc k)) e ∙ ap (λ x. a ∷ x) (sym (begun_prefix u y (u ++ y) k (le_of_suc-le-suc h) refl)))
