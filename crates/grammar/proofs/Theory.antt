-- The reader is sound and single-valued, and depends on no symbol past the next one.
use Rattle.std.proofs.Common.{◌≡◌, ℕ, zero, suc, ◌≤◌, Bool, not, T, eqb, List, [], ◌∷◌, ◌++◌, sym, refl, ap, ◌∙◌, subst, ap₂, append_assoc, append-nil, le_of_suc-le-suc, arith, T_not}
use lib.Dec.{T_prop, eqb_refl}
use Rattle.grammar.proofs.Classes.{or_left}
use Rattle.grammar.specs.Ebnf.{factor, statement, G, eps, tok, seq, alt, rep, ref, nest, mem, Tree, unit, leaf, pair, left, right, nil, cons, node, under, yield}
use Rattle.grammar.specs.Reader.{hd, first, Why, wrong, deep, Reads, r_eps, r_tok, r_seq, r_left, r_right, r_nil, r_cons, r_node, r_factor, r_statement, Stops, s_tok, s_seq, s_then, s_left, s_right, s_item, s_more, s_node, s_out, s_factors, s_statements, s_factor, s_statement}

abbrev pub Deep : Why → Type 0
Deep wrong = ⊥
Deep deep = Unit {0}

-- the two begin alike: no class tells their next symbols apart
abbrev pub Same : List ℕ → List ℕ → Type 0
Same y z = (c : List ℕ) → hd c y ≡ hd c z

pub same_append : (u y z : List ℕ) → Same y z → Same (u ++ y) (u ++ z)
same_append [] y z e c = e c
same_append (a ∷ u) y z e c = refl

module _ {N : Type 0} (rule : N → G N) (firsts : N → List ℕ) (nulls : N → Bool) where
  pub reads_at : {d e : ℕ} {g : G N} {w w' y : List ℕ} {t : Tree rule g} → w ≡ w' → Reads rule firsts nulls d e g w t y → Reads rule firsts nulls d e g w' t y
  reads_at {d} {e} {g} {y} {t} q r = subst (λ x. Reads rule firsts nulls d e g x t y) q r

  pub stops_at : {d e : ℕ} {φ : Why} {g : G N} {w w' z : List ℕ} → w ≡ w' → Stops rule firsts nulls d e g w φ z → Stops rule firsts nulls d e g w' φ z
  stops_at {d} {e} {φ} {g} {z} q r = subst (λ x. Stops rule firsts nulls d e g x φ z) q r

  pub sound : {d e : ℕ} {g : G N} {w y : List ℕ} {t : Tree rule g} → Reads rule firsts nulls d e g w t y → w ≡ yield rule t ++ y
  sound r_eps = refl
  sound (r_tok p) = refl
  sound {y} (r_seq {t} {s} p q) = sound p ∙ ap (λ x. yield rule t ++ x) (sound q) ∙ sym (append_assoc (yield rule t) (yield rule s) y)
  sound (r_left b p) = sound p
  sound (r_right b p) = sound p
  sound (r_nil b) = refl
  sound {y} (r_cons {t} {s} b p q) = sound p ∙ ap (λ x. yield rule t ++ x) (sound q) ∙ sym (append_assoc (yield rule t) (yield rule s) y)
  sound (r_node p) = sound p
  sound (r_factor {a} p q) = ap (λ x. a ∷ x) (sound q)
  sound (r_statement {a} p q) = ap (λ x. a ∷ x) (sound q)

  -- a second reading of the same symbols is the same
  pub det : {d e : ℕ} {g : G N} {w y y' : List ℕ} {t t' : Tree rule g} → Reads rule firsts nulls d e g w t y → Reads rule firsts nulls d e g w t' y' → (t ≡ t') × (y ≡ y')
  det r_eps r_eps = (refl, refl)
  det (r_tok {k} {c} {a} p) (r_tok p') = (ap (leaf a) (T_prop (mem a (k ∷ c)) p p'), refl)
  det (r_seq p q) (r_seq p' q') =
      let (e, f) = det p p' in
      let (e', f') = det q (reads_at (sym f) q') in
      (ap₂ pair e e', f')
  det (r_left b p) (r_left b' p') = let (e, f) = det p p' in (ap left e, f)
  det (r_left b p) (r_right b' p') = absurd (T_not _ b' b)
  det (r_right b p) (r_left b' p') = absurd (T_not _ b b')
  det (r_right b p) (r_right b' p') = let (e, f) = det p p' in (ap right e, f)
  det (r_nil b) (r_nil b') = (refl, refl)
  det (r_nil b) (r_cons b' p' q') = absurd (T_not _ b b')
  det (r_cons b p q) (r_nil b') = absurd (T_not _ b' b)
  det (r_cons b p q) (r_cons b' p' q') =
      let (e, f) = det p p' in
      let (e', f') = det q (reads_at (sym f) q') in
      (ap₂ cons e e', f')
  det (r_node p) (r_node p') = let (e, f) = det p p' in (ap node e, f)
  det (r_factor {k} {c} {a} p q) (r_factor p' q') = let (e, f) = det q q' in (ap₂ (under a) (T_prop (mem a (k ∷ c)) p p') e, f)
  det (r_statement {k} {c} {a} p q) (r_statement p' q') = let (e, f) = det q q' in (ap₂ (under a) (T_prop (mem a (k ∷ c)) p p') e, f)

  -- what is read is not refused
  pub not_both : {d e : ℕ} {φ : Why} {g : G N} {w y z : List ℕ} {t : Tree rule g} → Reads rule firsts nulls d e g w t y → Stops rule firsts nulls d e g w φ z → ⊥
  not_both r_eps s = elim s [ ]
  not_both (r_tok p) (s_tok b) = T_not _ b p
  not_both (r_seq p q) (s_seq s) = not_both p s
  not_both (r_seq p q) (s_then p' s) = not_both q (stops_at (sym (det p p').1) s)
  not_both (r_left b p) (s_left b' s) = not_both p s
  not_both (r_left b p) (s_right b' s) = T_not _ b' b
  not_both (r_right b p) (s_left b' s) = T_not _ b b'
  not_both (r_right b p) (s_right b' s) = not_both p s
  not_both (r_nil b) (s_item b' s) = T_not _ b b'
  not_both (r_nil b) (s_more b' p s) = T_not _ b b'
  not_both (r_cons b p q) (s_item b' s) = not_both p s
  not_both (r_cons b p q) (s_more b' p' s) = not_both q (stops_at (sym (det p p').1) s)
  not_both (r_node p) (s_node s) = not_both p s
  not_both (r_factor p q) (s_out b) = T_not _ b p
  not_both (r_factor p q) (s_factor p' s) = not_both q s
  not_both (r_statement p q) (s_out b) = T_not _ b p
  not_both (r_statement p q) (s_statement p' s) = not_both q s

  pub same_from : {d e : ℕ} {g : G N} {w y : List ℕ} {t : Tree rule g} → Reads rule firsts nulls d e g w t y → (z : List ℕ) → Same y z → Same w (yield rule t ++ z)
  same_from {y} {t} p z e c = ap (hd c) (sound p) ∙ same_append (yield rule t) y z e c

  -- what is read depends on no symbol past the next one
  pub local : {d e : ℕ} {g : G N} {w y : List ℕ} {t : Tree rule g} → Reads rule firsts nulls d e g w t y → (z : List ℕ) → Same y z → Reads rule firsts nulls d e g (yield rule t ++ z) t z
  local r_eps z e = r_eps
  local (r_tok p) z e = r_tok p
  local (r_seq {t} {s} p q) z e =
      reads_at (sym (append_assoc (yield rule t) (yield rule s) z)) (r_seq (local p (yield rule s ++ z) (same_from q z e)) (local q z e))
  local (r_left {g} b p) z e = r_left (subst T (same_from p z e (first firsts nulls g)) b) (local p z e)
  local (r_right {g} b p) z e = r_right (subst (λ x. T (not x)) (same_from p z e (first firsts nulls g)) b) (local p z e)
  local (r_nil {g} b) z e = r_nil (subst (λ x. T (not x)) (e (first firsts nulls g)) b)
  local (r_cons {g} {t} {s} b p q) z e =
      let f = same_from q z e in
      reads_at (sym (append_assoc (yield rule t) (yield rule s) z))
      (r_cons (subst T (same_from p (yield rule s ++ z) f (first firsts nulls g)) b) (local p (yield rule s ++ z) f) (local q z e))
  local (r_node p) z e = r_node (local p z e)
  local (r_factor p q) z e = r_factor p (local q z e)
  local (r_statement p q) z e = r_statement p (local q z e)

  -- where more may enclose, what is read is read, and what is wrong is wrong
  pub up : {d e d' e' : ℕ} {g : G N} {w y : List ℕ} {t : Tree rule g} → d ≤ d' → e ≤ e' → Reads rule firsts nulls d e g w t y → Reads rule firsts nulls d' e' g w t y
  up l m r_eps = r_eps
  up l m (r_tok p) = r_tok p
  up l m (r_seq p q) = r_seq (up l m p) (up l m q)
  up l m (r_left b p) = r_left b (up l m p)
  up l m (r_right b p) = r_right b (up l m p)
  up l m (r_nil b) = r_nil b
  up l m (r_cons b p q) = r_cons b (up l m p) (up l m q)
  up l m (r_node p) = r_node (up l m p)
  up {d' = zero} l m (r_factor p q) = absurd (omega arith)
  up {d' = suc d'} l m (r_factor p q) = r_factor p (up (le_of_suc-le-suc l) m q)
  up {e' = zero} l m (r_statement p q) = absurd (omega arith)
  up {e' = suc e'} l m (r_statement p q) = r_statement p (up l (le_of_suc-le-suc m) q)

  pub up_wrong : {d e d' e' : ℕ} {g : G N} {w z : List ℕ} → d ≤ d' → e ≤ e' → Stops rule firsts nulls d e g w wrong z → Stops rule firsts nulls d' e' g w wrong z
  up_wrong l m (s_tok b) = s_tok b
  up_wrong l m (s_seq s) = s_seq (up_wrong l m s)
  up_wrong l m (s_then p s) = s_then (up l m p) (up_wrong l m s)
  up_wrong l m (s_left b s) = s_left b (up_wrong l m s)
  up_wrong l m (s_right b s) = s_right b (up_wrong l m s)
  up_wrong l m (s_item b s) = s_item b (up_wrong l m s)
  up_wrong l m (s_more b p s) = s_more b (up l m p) (up_wrong l m s)
  up_wrong l m (s_node s) = s_node (up_wrong l m s)
  up_wrong l m (s_out b) = s_out b
  up_wrong {d' = zero} l m (s_factor p s) = absurd (omega arith)
  up_wrong {d' = suc d'} l m (s_factor p s) = s_factor p (up_wrong (le_of_suc-le-suc l) m s)
  up_wrong {e' = zero} l m (s_statement p s) = absurd (omega arith)
  up_wrong {e' = suc e'} l m (s_statement p s) = s_statement p (up_wrong l (le_of_suc-le-suc m) s)

  -- the reason and the place of a refusal are the only ones
  pub stops_det : {d e : ℕ} {φ ψ : Why} {g : G N} {w z z' : List ℕ} → Stops rule firsts nulls d e g w φ z → Stops rule firsts nulls d e g w ψ z' → (φ ≡ ψ) × (z ≡ z')
  stops_det (s_tok b) (s_tok b') = (refl, refl)
  stops_det (s_seq s) (s_seq s') = stops_det s s'
  stops_det (s_seq s) (s_then p s') = absurd (not_both p s)
  stops_det (s_then p s) (s_seq s') = absurd (not_both p s')
  stops_det (s_then p s) (s_then p' s') = stops_det s (stops_at (sym (det p p').1) s')
  stops_det (s_left b s) (s_left b' s') = stops_det s s'
  stops_det (s_left b s) (s_right b' s') = absurd (T_not _ b' b)
  stops_det (s_right b s) (s_left b' s') = absurd (T_not _ b b')
  stops_det (s_right b s) (s_right b' s') = stops_det s s'
  stops_det (s_item b s) (s_item b' s') = stops_det s s'
  stops_det (s_item b s) (s_more b' p s') = absurd (not_both p s)
  stops_det (s_more b p s) (s_item b' s') = absurd (not_both p s')
  stops_det (s_more b p s) (s_more b' p' s') = stops_det s (stops_at (sym (det p p').1) s')
  stops_det (s_node s) (s_node s') = stops_det s s'
  stops_det (s_out b) (s_out b') = (refl, refl)
  stops_det (s_out b) (s_factors p) = absurd (T_not _ b p)
  stops_det (s_out b) (s_statements p) = absurd (T_not _ b p)
  stops_det (s_out b) (s_factor p s) = absurd (T_not _ b p)
  stops_det (s_out b) (s_statement p s) = absurd (T_not _ b p)
  stops_det (s_factors p) (s_out b) = absurd (T_not _ b p)
  stops_det (s_factors p) (s_factors p') = (refl, refl)
  stops_det (s_statements p) (s_out b) = absurd (T_not _ b p)
  stops_det (s_statements p) (s_statements p') = (refl, refl)
  stops_det (s_factor p s) (s_out b) = absurd (T_not _ b p)
  stops_det (s_factor p s) (s_factor p' s') = stops_det s s'
  stops_det (s_statement p s) (s_out b) = absurd (T_not _ b p)
  stops_det (s_statement p s) (s_statement p' s') = stops_det s s'

module _ {N : Type 0} (rule : N → G N) (least : (n : N) → Tree rule (ref n)) where
  -- a sentence of each expression, if each nonterminal has one
  pub smallest : (g : G N) → Tree rule g
  smallest eps = unit
  smallest (tok k c) = leaf k (or_left (eqb k k) (mem k c) (eqb_refl k))
  smallest (seq g h) = pair (smallest g) (smallest h)
  smallest (alt g h) = left (smallest g)
  smallest (rep g) = nil
  smallest (ref n) = least n
  smallest (nest κ k c g) = under k (or_left (eqb k k) (mem k c) (eqb_refl k)) (smallest g)

module _ {N : Type 0} (rule : N → G N) (firsts : N → List ℕ) (nulls : N → Bool) (least : (n : N) → Tree rule (ref n)) where
  -- a refusal: what stands before the fault begins a sentence, and the refusal depends on no symbol past the fault
  pub record Stopped (d e : ℕ) (φ : Why) (g : G N) (w z : List ℕ) : Type 0 where
    pub before : List ℕ
    pub split : w ≡ before ++ z
    pub more : List ℕ
    pub tree : Tree rule g
    pub yields : yield rule tree ≡ before ++ more
    pub again : (x : List ℕ) → Same z x → Stops rule firsts nulls d e g (before ++ x) φ x
    pub after : Deep φ → (a : ℕ) × (y m : List ℕ) × (z ≡ a ∷ y) × (more ≡ a ∷ m)

  factors_again : (e k : ℕ) (c : List ℕ) (g : G N) (a : ℕ) (w : List ℕ) → T (mem a (k ∷ c)) → (x : List ℕ) → Same (a ∷ w) x → Stops rule firsts nulls zero e (nest factor k c g) x deep x
  factors_again e k c g a w p [] f = absurd (subst T (f (k ∷ c)) p)
  factors_again e k c g a w p (b ∷ x) f = s_factors (subst T (f (k ∷ c)) p)

  statements_again : (d k : ℕ) (c : List ℕ) (g : G N) (a : ℕ) (w : List ℕ) → T (mem a (k ∷ c)) → (x : List ℕ) → Same (a ∷ w) x → Stops rule firsts nulls d zero (nest statement k c g) x deep x
  statements_again d k c g a w p [] f = absurd (subst T (f (k ∷ c)) p)
  statements_again d k c g a w p (b ∷ x) f = s_statements (subst T (f (k ∷ c)) p)

  pub stopped : {d e : ℕ} {φ : Why} {g : G N} {w z : List ℕ} → Stops rule firsts nulls d e g w φ z → Stopped d e φ g w z
  stopped (s_tok {k} {c} b) =
      record {
        before = [];
        split = refl;
        more = _;
        tree = smallest rule least (tok k c);
        yields = refl;
        again = λ x e. s_tok (subst (λ v. T (not v)) (e (k ∷ c)) b);
        after = λ n. absurd n;
      }
  stopped (s_seq {h} s) =
      let i = stopped s in
      let m = smallest rule least h in
      record {
        before = i.before;
        split = i.split;
        more = i.more ++ yield rule m;
        tree = pair i.tree m;
        yields = ap (λ x. x ++ yield rule m) i.yields ∙ append_assoc i.before i.more (yield rule m);
        again = λ x e. s_seq (i.again x e);
        after = λ n. let (a, y, m', p, q) = i.after n in (a, y, m' ++ yield rule m, p, ap (λ x. x ++ yield rule m) q);
      }
  stopped {z} (s_then {t} p s) =
      let i = stopped s in
      let u = yield rule t in
      record {
        before = u ++ i.before;
        split = sound rule firsts nulls p ∙ ap (λ x. u ++ x) i.split ∙ sym (append_assoc u i.before z);
        more = i.more;
        tree = pair t i.tree;
        yields = ap (λ x. u ++ x) i.yields ∙ sym (append_assoc u i.before i.more);
        again = λ x e. stops_at rule firsts nulls (sym (append_assoc u i.before x))
            (s_then (local rule firsts nulls p (i.before ++ x) (λ c. ap (hd c) i.split ∙ same_append i.before z x e c)) (i.again x e));
        after = i.after;
      }
  stopped {z} (s_left {g} b s) =
      let i = stopped s in
      record {
        before = i.before;
        split = i.split;
        more = i.more;
        tree = left i.tree;
        yields = i.yields;
        again = λ x e. s_left (subst T (ap (hd (first firsts nulls g)) i.split ∙ same_append i.before z x e (first firsts nulls g)) b) (i.again x e);
        after = i.after;
      }
  stopped {z} (s_right {g} b s) =
      let i = stopped s in
      record {
        before = i.before;
        split = i.split;
        more = i.more;
        tree = right i.tree;
        yields = i.yields;
        again = λ x e. s_right (subst (λ v. T (not v)) (ap (hd (first firsts nulls g)) i.split ∙ same_append i.before z x e (first firsts nulls g)) b) (i.again x e);
        after = i.after;
      }
  stopped {z} (s_item {g} b s) =
      let i = stopped s in
      record {
        before = i.before;
        split = i.split;
        more = i.more;
        tree = cons i.tree nil;
        yields = append-nil (yield rule i.tree) ∙ i.yields;
        again = λ x e. s_item (subst T (ap (hd (first firsts nulls g)) i.split ∙ same_append i.before z x e (first firsts nulls g)) b) (i.again x e);
        after = i.after;
      }
  stopped {z} (s_more {g} {w} {x = y} {t} b p s) =
      let i = stopped s in
      let u = yield rule t in
      record {
        before = u ++ i.before;
        split = sound rule firsts nulls p ∙ ap (λ x. u ++ x) i.split ∙ sym (append_assoc u i.before z);
        more = i.more;
        tree = cons t i.tree;
        yields = ap (λ x. u ++ x) i.yields ∙ sym (append_assoc u i.before i.more);
        again = λ x e.
            let f : Same y (i.before ++ x) = λ c. ap (hd c) i.split ∙ same_append i.before z x e c in
            stops_at rule firsts nulls (sym (append_assoc u i.before x))
            (s_more (subst T (same_from rule firsts nulls p (i.before ++ x) f (first firsts nulls g)) b) (local rule firsts nulls p (i.before ++ x) f) (i.again x e));
        after = i.after;
      }
  stopped (s_node s) =
      let i = stopped s in
      record {
        before = i.before;
        split = i.split;
        more = i.more;
        tree = node i.tree;
        yields = i.yields;
        again = λ x e. s_node (i.again x e);
        after = i.after;
      }
  stopped (s_out {κ} {k} {c} {g} b) =
      record {
        before = [];
        split = refl;
        more = _;
        tree = smallest rule least (nest κ k c g);
        yields = refl;
        again = λ x e. s_out (subst (λ v. T (not v)) (e (k ∷ c)) b);
        after = λ n. absurd n;
      }
  stopped {e} (s_factors {k} {c} {g} {a} {w} p) =
      record {
        before = [];
        split = refl;
        more = a ∷ yield rule (smallest rule least g);
        tree = under a p (smallest rule least g);
        yields = refl;
        again = λ x f. factors_again e k c g a w p x f;
        after = λ n. (a, w, yield rule (smallest rule least g), refl, refl);
      }
  stopped {d} (s_statements {k} {c} {g} {a} {w} p) =
      record {
        before = [];
        split = refl;
        more = a ∷ yield rule (smallest rule least g);
        tree = under a p (smallest rule least g);
        yields = refl;
        again = λ x f. statements_again d k c g a w p x f;
        after = λ n. (a, w, yield rule (smallest rule least g), refl, refl);
      }
  stopped (s_factor {a} p s) =
      let i = stopped s in
      record {
        before = a ∷ i.before;
        split = ap (λ x. a ∷ x) i.split;
        more = i.more;
        tree = under a p i.tree;
        yields = ap (λ x. a ∷ x) i.yields;
        again = λ x e. s_factor p (i.again x e);
        after = i.after;
      }
  stopped (s_statement {a} p s) =
      let i = stopped s in
      record {
        before = a ∷ i.before;
        split = ap (λ x. a ∷ x) i.split;
        more = i.more;
        tree = under a p i.tree;
        yields = ap (λ x. a ∷ x) i.yields;
        again = λ x e. s_statement p (i.again x e);
        after = i.after;
      }
