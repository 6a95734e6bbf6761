-- What every syntax tree of the grammar has: as many parts as its kinds say, and the first place of each expression.
use Rattle.std.proofs.Common.{◌≡◌, ℕ, suc, ◌+◌, ◌⊎◌, List, [], ◌∷◌, length, refl, ap, ◌∙◌, inl, inr, add-zero}
use Rattle.vocabulary.specs.declared.tag.Tag.TheVariants as tag
use Rattle.lexer.specs.declared.symbol.SymbolRecord.{SymbolRecord}
use Rattle.grammar.specs.Ebnf.{G, eps, tok, seq, alt, rep, ref, nest, Tree, unit, leaf, pair, left, right, nil, cons, node, under, yield}
use Rattle.grammar.specs.Codes.{code}
use Rattle.grammar.specs.Language.{NT, Module, Decl, Proc, Heading, Pars, Body, Elem, Const, Set, Range, «Type», Stats, Stat, Action, If, While, Repeat, Loop, Return, For, Control, Index, Args, Expr, Sum, Term, Factor, rule}
use Rattle.syntax.specs.Symbols.{place_of}
use Rattle.syntax.specs.Value.{Val, value}
use Rattle.syntax.specs.Syntax.{Label, Syntax, parts, Shaped, begin}
use Rattle.syntax.specs.Syntax as syntax
use Rattle.syntax.specs.Actions.{act, chain, empty, items, names, maybe, behind, result_type, target, designator, signed, either}
use Rattle.parser.specs.Parsing.{ExpressionsBegin}

-- of each item
abbrev Each : {X : Type 0} → (X → Type 0) → List X → Type 0
Each P [] = Unit {0}
Each P (x ∷ xs) = P x × Each P xs

-- of each tree in the values of an expression
abbrev All : (g : G NT) → Val Syntax g → Type 0
All eps v = Unit {0}
All (tok k c) v = Unit {0}
All (seq g h) v = All g v.0 × All h v.1
All (alt g h) (inl v) = All g v
All (alt g h) (inr v) = All h v
All (rep g) vs = Each (λ v. All g v) vs
All (ref n) v = Shaped v
All (nest κ k c g) v = All g v.1

chain_shaped : {X : Type 0} (l : X → Label) (f : X → Syntax) (P : X → Type 0) → ((x : X) → parts (l x).kind ≡ 2) → ((x : X) → P x → Shaped (f x)) →
    (a : Syntax) → Shaped a → (xs : List X) → Each P xs → Shaped (chain l f a xs)
chain_shaped l f P k h a s [] e = s
chain_shaped l f P k h a s (x ∷ xs) (p, e) = chain_shaped l f P k h (syntax.binary (l x) a (f x)) (k x, s, h x p) xs e

chain_begin : {X : Type 0} (l : X → Label) (f : X → Syntax) (a : Syntax) (xs : List X) → begin (chain l f a xs) ≡ begin a
chain_begin l f a [] = refl
chain_begin l f a (x ∷ xs) = chain_begin l f (syntax.binary (l x) a (f x)) xs

module _ (s : List ℕ) (rs : List SymbolRecord) where
  items_shaped : (n : NT) (c : ℕ) (v : (Syntax × List (ℕ × Syntax)) ⊎ Unit {0}) → All (alt (seq (ref n) (rep (seq (tok c []) (ref n)))) eps) v → Shaped (items s rs empty v)
  items_shaped n c (inl (x, xs)) (p, e) = chain_shaped _ _ _ (λ y. refl) (λ y q. q.1) _ (refl, refl, p) xs e
  items_shaped n c (inr u) e = refl

  each_name : (xs : List (ℕ × ℕ)) → Each (λ x. Unit {0}) xs
  each_name [] = tt
  each_name (x ∷ xs) = (tt, each_name xs)

  names_shaped : (i : ℕ) (is : List (ℕ × ℕ)) → Shaped (names s rs i is)
  names_shaped i is = chain_shaped _ _ (λ x. Unit {0}) (λ y. refl) (λ y q. refl) _ refl is (each_name is)

  either_shaped : (x : Syntax ⊎ Syntax) → All (alt (ref Decl) (ref Proc)) x → Shaped (either s rs x)
  either_shaped (inl a) h = h
  either_shaped (inr a) h = h

  maybe_shaped : (n : NT) (x : Syntax ⊎ Unit {0}) → All (alt (ref n) eps) x → Shaped (maybe s rs x)
  maybe_shaped n (inl a) h = h
  maybe_shaped n (inr u) h = refl

  behind_shaped : (c : ℕ) (n : NT) (x : (ℕ × Syntax) ⊎ Unit {0}) → All (alt (seq (tok c []) (ref n)) eps) x → Shaped (behind s rs x)
  behind_shaped c n (inl p) h = h.1
  behind_shaped c n (inr u) h = refl

  result_shaped : (r : (ℕ × ℕ) ⊎ Unit {0}) → Shaped (result_type s rs r)
  result_shaped (inl p) = refl
  result_shaped (inr u) = refl

  target_shaped : (i : ℕ) (x : Syntax ⊎ Unit {0}) → All (alt (ref Index) eps) x → Shaped (target s rs i x)
  target_shaped i (inl x) h = (refl, h)
  target_shaped i (inr u) h = refl

  designator_shaped : (i : ℕ) (x : (Syntax ⊎ Syntax) ⊎ Unit {0}) → All (alt (alt (ref Index) (ref Args)) eps) x → Shaped (designator s rs i x)
  designator_shaped i (inl (inl x)) h = (refl, h)
  designator_shaped i (inl (inr x)) h = (refl, h)
  designator_shaped i (inr u) h = refl

  signed_shaped : (x : ℕ ⊎ Unit {0}) (a : Syntax) → Shaped a → Shaped (signed s rs x a)
  signed_shaped (inl i) a h = (refl, h)
  signed_shaped (inr u) a h = h

  -- each rule makes a tree of this kind of such trees
  act_shaped : (n : NT) (v : Val Syntax (rule n)) → All (rule n) v → Shaped (act s rs n v)
  act_shaped Module (m, (i, (z, (ds, (b, (j, p)))))) h = (refl, chain_shaped _ _ _ (λ y. refl) either_shaped _ refl ds h.1.1.1.0, (refl, h.1.1.1.1.0))
  act_shaped Decl (inl (i, cs)) h = chain_shaped _ _ _ (λ y. refl) (λ y q. (refl, q.1.1.0)) _ refl cs h.1
  act_shaped Decl (inr (i, vs)) h = chain_shaped _ _ _ (λ y. refl) (λ y q. (refl, names_shaped y.0 y.1.0, q.1.1.1.0)) _ refl vs h.1
  act_shaped Proc (p, (i, (g, (z, (ds, (b, (j, c))))))) h =
      (refl, h.1.1.0, (refl, chain_shaped _ _ _ (λ y. refl) (λ y q. q) _ refl ds h.1.1.1.1.0, (refl, h.1.1.1.1.1.0)))
  act_shaped Heading (inl (o, (ps, (c, r)))) h = (refl, items_shaped Pars (code tag.Semicolon) ps h.1.0, result_shaped r)
  act_shaped Heading (inr u) h = (refl, refl, refl)
  act_shaped Pars (i, (is, (c, j))) h = (refl, names_shaped i is, refl)
  act_shaped Body (ss, i) h = (refl, behind_shaped (code tag.Begin) Stats ss h.0)
  act_shaped Elem (inl (inl i, j)) h = refl
  act_shaped Elem (inl (inr u, j)) h = refl
  act_shaped Elem (inr i) h = refl
  act_shaped Const (inl e) h = h
  act_shaped Const (inr e) h = h
  act_shaped Set (i, (es, j)) h = (refl, items_shaped Range (code tag.Comma) es h.1.0)
  act_shaped Range (a, inl p) h = (refl, h.0, h.1.1)
  act_shaped Range (a, inr u) h = h.0
  act_shaped «Type» (inl i) h = refl
  act_shaped «Type» (inr (i, (o, (x, (d, (y, (c, (f, j)))))))) h = (refl, (refl, h.1.1.0, h.1.1.1.1.0), refl)
  act_shaped Stats (a, as') h = chain_shaped _ _ _ (λ y. refl) (λ y q. q.1) a h.0 as' h.1
  act_shaped Stat (inl (inl a)) h = h
  act_shaped Stat (inl (inr (inl i))) h = refl
  act_shaped Stat (inl (inr (inr (inl a)))) h = h
  act_shaped Stat (inl (inr (inr (inr (inl a))))) h = h
  act_shaped Stat (inl (inr (inr (inr (inr (inl a)))))) h = h
  act_shaped Stat (inl (inr (inr (inr (inr (inr (inl a))))))) h = h
  act_shaped Stat (inl (inr (inr (inr (inr (inr (inr (inl a)))))))) h = h
  act_shaped Stat (inl (inr (inr (inr (inr (inr (inr (inr a)))))))) h = h
  act_shaped Stat (inr u) h = refl
  act_shaped Action (i, inl (x, (j, e))) h = (refl, target_shaped i x h.1.0, h.1.1.1)
  act_shaped Action (i, inr a) h = (refl, maybe_shaped Args a h.1)
  act_shaped If (i, (e, (j, (a, (as', (b, k)))))) h =
      (refl, chain_shaped _ _ _ (λ y. refl) (λ y q. (refl, q.1.0, q.1.1.1)) _ (refl, h.0, h.1.1.0) as' h.1.1.1.0, behind_shaped (code tag.Else) Stats b h.1.1.1.1.0)
  act_shaped While (i, (e, (j, (a, k)))) h = (refl, h.0, h.1.1.0)
  act_shaped Repeat (i, (a, (j, e))) h = (refl, h.0, h.1.1)
  act_shaped Loop (i, (a, k)) h = (refl, h.0)
  act_shaped Return (i, e) h = (refl, maybe_shaped Expr e h.1)
  act_shaped For (i, (c, (j, (a, k)))) h = (refl, h.0, h.1.1.0)
  act_shaped Control (i, (b, (x, (o, (y, z))))) h = (refl, (refl, (refl, h.1.1.0, h.1.1.1.1.0), behind_shaped (code tag.By) Elem z h.1.1.1.1.1))
  act_shaped Index (i, (e, j)) h = (refl, h.0)
  act_shaped Args (i, (es, j)) h = items_shaped Expr (code tag.Comma) es h.0
  act_shaped Expr (a, inl p) h = (refl, h.0, h.1.1)
  act_shaped Expr (a, inr u) h = h.0
  act_shaped Sum (z, (a, bs)) h = chain_shaped _ _ _ (λ y. refl) (λ y q. q.1) _ (signed_shaped z a h.1.0) bs h.1.1
  act_shaped Term (a, bs) h = chain_shaped _ _ _ (λ y. refl) (λ y q. q.1) a h.0 bs h.1
  act_shaped Factor (inl i) h = refl
  act_shaped Factor (inr (inl e)) h = h
  act_shaped Factor (inr (inr (inl (i, x)))) h = designator_shaped i x h.1
  act_shaped Factor (inr (inr (inr (inl (i, (e, j)))))) h = (refl, h.0)
  act_shaped Factor (inr (inr (inr (inr (i, f))))) h = (refl, h)

  all_shaped : {g : G NT} (t : Tree rule g) (i : ℕ) → All g (value rule Syntax (act s rs) t i)
  all_shaped unit i = tt
  all_shaped (leaf a p) i = tt
  all_shaped (pair t u) i = (all_shaped t i, all_shaped u (i + length (yield rule t)))
  all_shaped (left t) i = all_shaped t i
  all_shaped (right t) i = all_shaped t i
  all_shaped nil i = tt
  all_shaped (cons t u) i = (all_shaped t i, all_shaped u (i + length (yield rule t)))
  all_shaped (node {n} t) i = act_shaped n (value rule Syntax (act s rs) t i) (all_shaped t i)
  all_shaped (under a p t) i = all_shaped t (suc i)

  pub shaped : (t : Tree rule (ref Module)) (i : ℕ) → Shaped (value rule Syntax (act s rs) t i)
  shaped t i = all_shaped t i

  begin_factor : (t : Tree rule (ref Factor)) (i : ℕ) → begin (value rule Syntax (act s rs) t i) ≡ place_of rs i
  begin_factor (node (left (leaf a p))) i = refl
  begin_factor (node (right (left (node (pair (leaf a p) t))))) i = refl
  begin_factor (node (right (right (left (pair (leaf a p) (left (left t))))))) i = refl
  begin_factor (node (right (right (left (pair (leaf a p) (left (right t))))))) i = refl
  begin_factor (node (right (right (left (pair (leaf a p) (right unit)))))) i = refl
  begin_factor (node (right (right (right (left (under a p t)))))) i = refl
  begin_factor (node (right (right (right (right (under a p t)))))) i = refl

  begin_term : (t : Tree rule (ref Term)) (i : ℕ) → begin (value rule Syntax (act s rs) t i) ≡ place_of rs i
  begin_term (node (pair t u)) i = chain_begin _ _ _ (value rule Syntax (act s rs) u (i + length (yield rule t))) ∙ begin_factor t i

  begin_sum : (t : Tree rule (ref Sum)) (i : ℕ) → begin (value rule Syntax (act s rs) t i) ≡ place_of rs i
  begin_sum (node (pair (left (leaf a p)) (pair t u))) i = chain_begin _ _ _ (value rule Syntax (act s rs) u (i + 1 + length (yield rule t)))
  begin_sum (node (pair (right unit) (pair t u))) i =
      chain_begin _ _ _ (value rule Syntax (act s rs) u (i + 0 + length (yield rule t))) ∙ begin_term t (i + 0) ∙ ap (place_of rs) (add-zero i)

  begin_expr : (t : Tree rule (ref Expr)) (i : ℕ) → begin (value rule Syntax (act s rs) t i) ≡ place_of rs i
  begin_expr (node (pair t (left u))) i = begin_sum t i
  begin_expr (node (pair t (right unit))) i = begin_sum t i

pub expressions_begin : ExpressionsBegin
expressions_begin = (λ s rs t i. begin_expr s rs t i, λ s rs t i. begin_sum s rs t i, λ s rs t i. begin_term s rs t i, λ s rs t i. begin_factor s rs t i)
