-- How the steps of a descent put readings together, and refusals, one combination for each form of grammar expression.
use Rattle.std.proofs.Common.{◌≡◌, ℕ, zero, suc, ◌+◌, ◌<◌, ◌≤◌, Bool, true, false, not, T, ◌⊎◌, List, [], ◌∷◌, ◌++◌, length, get_or, drop, Ok, Err, Result, sym, refl, ap, ◌∙◌, subst, subst₂, ap₂, inl, inr, append_assoc, add-zero, arith, T_not, length-append, drop-cons}
use Rattle.std.specs.Result.{IsErrAnd}
use Rattle.std.proofs.lemmas.Result.{err_from_is_err_and}
use Rattle.lexer.specs.declared.symbol.SymbolRecord.{SymbolRecord}
use Rattle.grammar.specs.Ebnf.{Kind, factor, statement, G, eps, tok, seq, alt, rep, ref, nest, mem, Tree, unit, leaf, pair, left, right, nil, cons, node, under, yield}
use Rattle.grammar.specs.Reader.{hd, first, null, Why, wrong, deep, Reads, r_eps, r_tok, r_seq, r_left, r_right, r_nil, r_cons, r_node, r_factor, r_statement, Stops, s_tok, s_seq, s_then, s_left, s_right, s_item, s_more, s_node, s_out, s_factors, s_statements, s_factor, s_statement}
use Rattle.grammar.specs.Language.{NT, rule}
use Rattle.grammar.specs.Sets.{firsts, nulls, follows, rank}
use Rattle.grammar.proofs.Decides as decides
use Rattle.grammar.proofs.Table.{check}
use Rattle.syntax.specs.declared.step.Cursor.{Cursor}
use Rattle.syntax.specs.declared.step.Descent.{Descent}
use Rattle.syntax.specs.declared.step.Stop.{Stop}
use Rattle.syntax.specs.declared.step.Stop.TheVariants.{Impossible, TooDeep}
use Rattle.syntax.specs.declared.tree.TreeRecord.{TreeRecord}
use Rattle.syntax.specs.Symbols.{tag_codes, tag_at, place_of, word_length, number_at}
use Rattle.syntax.specs.Value.{Val, value}
use Rattle.syntax.specs.Syntax.{Syntax}
use Rattle.syntax.specs.Actions.{act}
use Rattle.syntax.specs.Steps.{On, Off, Keeps, Advances, Expects, Opens, Added, Pushed, remaining, root}
use Rattle.syntax.specs.Post.{Passed, Taken, Bad, Got, Made, Refused, Tells, Did, Fails, Does, Goes}
use Rattle.syntax.proofs.Tags.{tags_long}

abbrev pub F : G NT → List ℕ
F = first firsts nulls

-- what is written, by the value
abbrev pub Wrote : G NT → Type 1
Wrote g = Val Syntax g → Cursor → List TreeRecord → Cursor → List TreeRecord → Type 0

-- a symbol of a class is there
hd_in : (w : List ℕ) (i : ℕ) (c : List ℕ) → T (hd c (drop i w)) → (i < length w) × T (mem (get_or w i 0) c)
hd_in [] zero c h = absurd h
hd_in [] (suc i) c h = absurd h
hd_in (x ∷ w) zero c h = (omega arith, h)
hd_in (x ∷ w) (suc i) c h = let k = hd_in w i c h in (let j = k.0 in omega arith, k.1)

pub keeps_both : {p p₁ p₂ : Descent} → Keeps p p₁ → Keeps p₁ p₂ → Keeps p p₂
keeps_both a b = record { source = b.source ∙ a.source; symbols = b.symbols ∙ a.symbols; lent = b.lent ∙ a.lent; long = b.long ∙ a.long }

pub keeps_same : {p p' : Descent} → p' ≡ p → Keeps p p'
keeps_same {p} e = subst (λ x. Keeps p x) (sym e) (record { source = refl; symbols = refl; lent = refl; long = refl })

-- both parts of a pair, one behind the other
pub record Then (g h : G NT) (P : Wrote g) (Q : Wrote h) (c₁ : Cursor) (t₁ : List TreeRecord) (v : Val Syntax g × Val Syntax h) (c : Cursor) (t : List TreeRecord) (c₂ : Cursor) (t₂ : List TreeRecord) : Type 0 where
  pub one : P v.0 c t c₁ t₁
  pub two : Q v.1 c₁ t₁ c₂ t₂

-- the first way or the other, with the value told
pub record Inl (g h : G NT) (P : Wrote g) (v : Val Syntax g ⊎ Val Syntax h) (c : Cursor) (t : List TreeRecord) (c' : Cursor) (t' : List TreeRecord) : Type 0 where
  pub part : Val Syntax g
  pub is : v ≡ inl part
  pub wrote : P part c t c' t'

pub record Inr (g h : G NT) (P : Wrote h) (v : Val Syntax g ⊎ Val Syntax h) (c : Cursor) (t : List TreeRecord) (c' : Cursor) (t' : List TreeRecord) : Type 0 where
  pub part : Val Syntax h
  pub is : v ≡ inr part
  pub wrote : P part c t c' t'

-- behind a symbol that encloses
pub record Inside (g : G NT) (P : Wrote g) (rs : List SymbolRecord) (r : SymbolRecord) (c₁ : Cursor) (t₁ : List TreeRecord) (v : ℕ × Val Syntax g) (c : Cursor) (t : List TreeRecord) (c₂ : Cursor) (t₂ : List TreeRecord) : Type 0 where
  pub one : Taken rs r v.0 c t c₁ t₁
  pub two : P v.1 c₁ t₁ c₂ t₂

-- with a record written behind
pub record Pushing (g : G NT) (r : TreeRecord) (P : Wrote g) (c₁ : Cursor) (t₁ : List TreeRecord) (v : Val Syntax g) (c : Cursor) (t : List TreeRecord) (c₂ : Cursor) (t₂ : List TreeRecord) : Type 0 where
  pub one : P v c t c₁ t₁
  pub two : Added r c₁ t₁ c₂ t₂

-- one item and the rest of a repetition
abbrev cons_tree : {g : G NT} → Tree rule (seq g (rep g)) → Tree rule (rep g)
cons_tree (pair t s) = cons t s

cons_yield : {g : G NT} (t : Tree rule (seq g (rep g))) → length (yield rule (cons_tree t)) ≡ length (yield rule t)
cons_yield (pair t s) = refl

cons_reads : {d e : ℕ} {g : G NT} {v y : List ℕ} {t : Tree rule (seq g (rep g))} → T (hd (F g) v) → Reads rule firsts nulls d e (seq g (rep g)) v t y → Reads rule firsts nulls d e (rep g) v (cons_tree t) y
cons_reads b (r_seq p q) = r_cons b p q

cons_stops : {d e : ℕ} {φ : Why} {g : G NT} {v y : List ℕ} → T (hd (F g) v) → Stops rule firsts nulls d e (seq g (rep g)) v φ y → Stops rule firsts nulls d e (rep g) v φ y
cons_stops b (s_seq s) = s_item b s
cons_stops b (s_then p s) = s_more b p s

-- (g h) k as g (h k)
abbrev turned : {g h k : G NT} → Tree rule (seq (seq g h) k) → Tree rule (seq g (seq h k))
turned (pair (pair t s) u) = pair t (pair s u)

turned_reads : {d e : ℕ} {g h k : G NT} {v y : List ℕ} {t : Tree rule (seq (seq g h) k)} → Reads rule firsts nulls d e (seq (seq g h) k) v t y → Reads rule firsts nulls d e (seq g (seq h k)) v (turned t) y
turned_reads (r_seq (r_seq p q) r) = r_seq p (r_seq q r)

turned_stops : {d e : ℕ} {φ : Why} {g h k : G NT} {v y : List ℕ} → Stops rule firsts nulls d e (seq (seq g h) k) v φ y → Stops rule firsts nulls d e (seq g (seq h k)) v φ y
turned_stops (s_seq (s_seq s)) = s_seq s
turned_stops (s_seq (s_then p s)) = s_then p (s_seq s)
turned_stops (s_then (r_seq p q) s) = s_then p (s_then q s)

turned_long : {g h k : G NT} (t : Tree rule (seq (seq g h) k)) → length (yield rule (turned t)) ≡ length (yield rule t)
turned_long (pair (pair t s) u) = ap length (sym (append_assoc (yield rule t) (yield rule s) (yield rule u)))

-- nothing, and then g
abbrev skipped : {g : G NT} → Tree rule (seq eps g) → Tree rule g
skipped (pair unit t) = t

skipped_reads : {d e : ℕ} {g : G NT} {v y : List ℕ} {t : Tree rule (seq eps g)} → Reads rule firsts nulls d e (seq eps g) v t y → Reads rule firsts nulls d e g v (skipped t) y
skipped_reads (r_seq r_eps q) = q

skipped_long : {g : G NT} (t : Tree rule (seq eps g)) → length (yield rule (skipped t)) ≡ length (yield rule t)
skipped_long (pair unit t) = refl

-- what cannot be empty has a symbol
not_empty : {g : G NT} (t : Tree rule g) → T (not (null firsts nulls g)) → 0 < length (yield rule t)
not_empty {g} t n = go (yield rule t) refl
  where
    go : (u : List ℕ) → yield rule t ≡ u → 0 < length (yield rule t)
    go [] e = elim (decides.starts rule firsts nulls follows rank check t []) [
      | inl b ↦ absurd (subst (λ x. T (hd (F g) (x ++ []))) e b)
      | inr z ↦ absurd (T_not (null firsts nulls g) n z.1)
    ]
    go (a ∷ u) e = let l = ap length e in omega arith

module _ (source : List ℕ) (symbols : List SymbolRecord) where
  abbrev w : List ℕ
  w = tag_codes symbols

  abbrev val_of : {g : G NT} → Tree rule g → ℕ → Val Syntax g
  val_of t i = value rule Syntax (act source symbols) t i

  -- one symbol, whose value is its index
  got_tok : {d e k : ℕ} {c : List ℕ} {i : ℕ} → T (hd (k ∷ c) (drop i w)) → Got source symbols d e (tok k c) i (i + 1) i
  got_tok {d} {e} {k} {c} {i} o =
      let h = hd_in w i (k ∷ c) o in
      let l = h.0 in
      let f : i + 1 ≡ suc i = omega arith in
      record {
        within = λ n. omega arith;
        tree = leaf (get_or w i 0) h.1;
        reads = subst₂ (λ x y. Reads rule firsts nulls d e (tok k c) x (leaf (get_or w i 0) h.1) (drop y w)) (sym (drop-cons w i 0 l)) (sym f) (r_tok h.1);
        span = refl;
        is = refl;
      }

  made_seq : {d e : ℕ} {g h : G NT} {P : Wrote g} {Q : Wrote h} {c c₁ c₂ : Cursor} {t t₁ t₂ : List TreeRecord} →
      Made source symbols d e g P c t c₁ t₁ → Made source symbols d e h Q c₁ t₁ c₂ t₂ → Made source symbols d e (seq g h) (Then g h P Q c₁ t₁) c t c₂ t₂
  made_seq m n =
      let x = m.got.span in
      let y = n.got.span in
      let z = length-append (yield rule m.got.tree) (yield rule n.got.tree) in
      record {
        val = (m.val, n.val);
        got = record {
          within = λ l. n.got.within (m.got.within l);
          tree = pair m.got.tree n.got.tree;
          reads = r_seq m.got.reads n.got.reads;
          span = omega arith;
          is = λ i. (m.got.is i, (ap (val_of n.got.tree) (sym x) ∙ n.got.is) i);
        };
        wrote = record { one = m.wrote; two = n.wrote };
      }

  cons_value : {g : G NT} (t : Tree rule (seq g (rep g))) (i : ℕ) (v : Val Syntax g × List (Val Syntax g)) → val_of t i ≡ v → val_of (cons_tree t) i ≡ v.0 ∷ v.1
  cons_value (pair t s) i v e = ap (λ x. x.0 ∷ x.1) e

  turned_value : {g h k : G NT} (t : Tree rule (seq (seq g h) k)) (i : ℕ) (v : (Val Syntax g × Val Syntax h) × Val Syntax k) → val_of t i ≡ v → val_of (turned t) i ≡ (v.0.0, (v.0.1, v.1))
  turned_value (pair (pair t s) u) i v e =
      let l = length-append (yield rule t) (yield rule s) in
      ap (λ x. (val_of t i, (val_of s (i + length (yield rule t)), val_of u x))) (regroup i (length (yield rule t)) (length (yield rule s)) (length (yield rule t ++ yield rule s)) l)
      ∙ ap (λ x. (x.0.0, (x.0.1, x.1))) e
    where
      regroup : (i a b c : ℕ) → c ≡ a + b → (i + a) + b ≡ i + c
      regroup i a b c h = omega arith

  skipped_value : {g : G NT} (t : Tree rule (seq eps g)) (i : ℕ) (v : Unit {0} × Val Syntax g) → val_of t i ≡ v → val_of (skipped t) i ≡ v.1
  skipped_value (pair unit t) i v e = ap (val_of t) (sym (add-zero i)) ∙ ap (λ x. x.1) e

  -- behind a symbol that encloses
  got_around : {d e k : ℕ} {c : List ℕ} {g : G NT} {i j : ℕ} {v : Val Syntax g} → T (hd (k ∷ c) (drop i w)) → Got source symbols d e g (i + 1) j v → Got source symbols (suc d) e (nest factor k c g) i j (i, v)
  got_around {d} {e} {k} {c} {g} {i} {j} {v} o m =
      let h = hd_in w i (k ∷ c) o in
      let l = h.0 in
      let f : i + 1 ≡ suc i = omega arith in
      let y = m.span in
      record {
        within = λ z. m.within (omega arith);
        tree = under (get_or w i 0) h.1 m.tree;
        reads = subst (λ x. Reads rule firsts nulls (suc d) e (nest factor k c g) x (under (get_or w i 0) h.1 m.tree) (drop j w)) (sym (drop-cons w i 0 l)) (r_factor h.1 (subst (λ x. Reads rule firsts nulls d e g (drop x w) m.tree (drop j w)) f m.reads));
        span = omega arith;
        is = ap (λ x. (i, x)) (ap (val_of m.tree) (sym f) ∙ m.is);
      }

  got_within : {d e k : ℕ} {c : List ℕ} {g : G NT} {i j : ℕ} {v : Val Syntax g} → T (hd (k ∷ c) (drop i w)) → Got source symbols d e g (i + 1) j v → Got source symbols d (suc e) (nest statement k c g) i j (i, v)
  got_within {d} {e} {k} {c} {g} {i} {j} {v} o m =
      let h = hd_in w i (k ∷ c) o in
      let l = h.0 in
      let f : i + 1 ≡ suc i = omega arith in
      let y = m.span in
      record {
        within = λ z. m.within (omega arith);
        tree = under (get_or w i 0) h.1 m.tree;
        reads = subst (λ x. Reads rule firsts nulls d (suc e) (nest statement k c g) x (under (get_or w i 0) h.1 m.tree) (drop j w)) (sym (drop-cons w i 0 l)) (r_statement h.1 (subst (λ x. Reads rule firsts nulls d e g (drop x w) m.tree (drop j w)) f m.reads));
        span = omega arith;
        is = ap (λ x. (i, x)) (ap (val_of m.tree) (sym f) ∙ m.is);
      }

-- a fact of a step that has moved on, seen from before it
back : {d e : ℕ} {g : G NT} {P : Tells g} {p p₁ p₂ : Descent} → Keeps p p₁ → Did d e g P p₁ p₂ → Made p.source.now p.symbols.now d e g (P p.source.now p.symbols.now) p₁.here p₁.tree.now p₂.here p₂.tree.now
back {d} {e} {g} {P} {p₁} {p₂} k a = subst₂ (λ s rs. Made s rs d e g (P s rs) p₁.here p₁.tree.now p₂.here p₂.tree.now) k.source k.symbols a.made

-- what was read and written, seen otherwise
pub did_as : {d e d' e' : ℕ} {g h : G NT} {P : Tells g} {Q : Tells h} {p p' : Descent} →
    (Made p.source.now p.symbols.now d e g (P p.source.now p.symbols.now) p.here p.tree.now p'.here p'.tree.now → Made p.source.now p.symbols.now d' e' h (Q p.source.now p.symbols.now) p.here p.tree.now p'.here p'.tree.now) →
    Did d e g P p p' → Did d' e' h Q p p'
did_as f a = record { keeps = a.keeps; made = f a.made }

-- what was written, told otherwise
pub did_map : {d e : ℕ} {g : G NT} {P Q : Tells g} {p p' : Descent} →
    ((v : Val Syntax g) → Got p.source.now p.symbols.now d e g p.here.at p'.here.at v → P p.source.now p.symbols.now v p.here p.tree.now p'.here p'.tree.now → Q p.source.now p.symbols.now v p.here p.tree.now p'.here p'.tree.now) →
    Did d e g P p p' → Did d e g Q p p'
did_map f a = did_as (λ m. record { val = m.val; got = m.got; wrote = f m.val m.got m.wrote }) a

pub did_seq : {d e : ℕ} {g h : G NT} {P : Tells g} {Q : Tells h} {p p₁ p₂ : Descent} →
    Did d e g P p p₁ → Did d e h Q p₁ p₂ → Did d e (seq g h) (λ s rs. Then g h (P s rs) (Q s rs) p₁.here p₁.tree.now) p p₂
did_seq a b = record { keeps = keeps_both a.keeps b.keeps; made = made_seq _ _ a.made (back a.keeps b) }

pub did_node : {d e : ℕ} {n : NT} {P : Tells (ref n)} {p p' : Descent} → Did d e (rule n) (λ s rs v. P s rs (act s rs n v)) p p' → Did d e (ref n) P p p'
did_node {n} {p} a = did_as (λ m. record {
  val = act p.source.now p.symbols.now n m.val;
  got = record { within = m.got.within; tree = node m.got.tree; reads = r_node m.got.reads; span = m.got.span; is = ap (act p.source.now p.symbols.now n) m.got.is };
  wrote = m.wrote;
}) a

-- the first way or the other, by the next symbol
pub did_left : {d e : ℕ} {g h : G NT} {P : Tells (alt g h)} {p p' : Descent} → On p (F g) → Did d e g (λ s rs v. P s rs (inl v)) p p' → Did d e (alt g h) P p p'
did_left o a = did_as (λ m. record {
  val = inl m.val;
  got = record { within = m.got.within; tree = left m.got.tree; reads = r_left o.is m.got.reads; span = m.got.span; is = ap inl m.got.is };
  wrote = m.wrote;
}) a

pub did_right : {d e : ℕ} {g h : G NT} {P : Tells (alt g h)} {p p' : Descent} → Off p (F g) → Did d e h (λ s rs v. P s rs (inr v)) p p' → Did d e (alt g h) P p p'
did_right o a = did_as (λ m. record {
  val = inr m.val;
  got = record { within = m.got.within; tree = right m.got.tree; reads = r_right o.is_not m.got.reads; span = m.got.span; is = ap inr m.got.is };
  wrote = m.wrote;
}) a

pub did_inl : {d e : ℕ} {g h : G NT} {P : Tells g} {p p' : Descent} → On p (F g) → Did d e g P p p' → Did d e (alt g h) (λ s rs. Inl g h (P s rs)) p p'
did_inl o a = did_left o (did_map (λ v g x. record { part = v; is = refl; wrote = x }) a)

pub did_inr : {d e : ℕ} {g h : G NT} {P : Tells h} {p p' : Descent} → Off p (F g) → Did d e h P p p' → Did d e (alt g h) (λ s rs. Inr g h (P s rs)) p p'
did_inr o a = did_right o (did_map (λ v g x. record { part = v; is = refl; wrote = x }) a)

-- nothing is read
pub did_none : {d e : ℕ} {p p' : Descent} → p' ≡ p → Did d e eps (λ s rs v. Passed 0) p p'
did_none {d} {e} {p} q = subst (λ x. Did d e eps (λ s rs v. Passed 0) p x) (sym q) (record {
  keeps = keeps_same refl;
  made = record { val = tt; got = record { within = λ l. l; tree = unit; reads = r_eps; span = omega arith; is = refl }; wrote = record { on = omega arith; same = refl; used = refl } };
})

pub did_nil : {d e : ℕ} {g : G NT} {p p' : Descent} → Off p (F g) → p' ≡ p → Did d e (rep g) (λ s rs v c t c' t'. (v ≡ []) × Passed 0 c t c' t') p p'
did_nil {d} {e} {g} {p} o q = subst (λ x. Did d e (rep g) (λ s rs v c t c' t'. (v ≡ []) × Passed 0 c t c' t') p x) (sym q) (record {
  keeps = keeps_same refl;
  made = record {
    val = [];
    got = record { within = λ l. l; tree = nil; reads = r_nil o.is_not; span = omega arith; is = refl };
    wrote = (refl, record { on = omega arith; same = refl; used = refl });
  };
})

pub did_cons : {d e : ℕ} {g : G NT} {P : Tells (rep g)} {p p' : Descent} → On p (F g) → Did d e (seq g (rep g)) (λ s rs v. P s rs (v.0 ∷ v.1)) p p' → Did d e (rep g) P p p'
did_cons {p} o a = did_as (λ m. record {
  val = m.val.0 ∷ m.val.1;
  got = record {
    within = m.got.within;
    tree = cons_tree m.got.tree;
    reads = cons_reads o.is m.got.reads;
    span = m.got.span ∙ ap (λ x. p.here.at + x) (sym (cons_yield m.got.tree));
    is = cons_value _ _ m.got.tree p.here.at m.val m.got.is;
  };
  wrote = m.wrote;
}) a

pub did_turn : {d e : ℕ} {g h k : G NT} {P : Tells (seq g (seq h k))} {p p' : Descent} → Did d e (seq (seq g h) k) (λ s rs v. P s rs (v.0.0, (v.0.1, v.1))) p p' → Did d e (seq g (seq h k)) P p p'
did_turn {p} a = did_as (λ m. record {
  val = (m.val.0.0, (m.val.0.1, m.val.1));
  got = record {
    within = m.got.within;
    tree = turned m.got.tree;
    reads = turned_reads m.got.reads;
    span = m.got.span ∙ ap (λ x. p.here.at + x) (sym (turned_long m.got.tree));
    is = turned_value _ _ m.got.tree p.here.at m.val m.got.is;
  };
  wrote = m.wrote;
}) a

-- with what was written known, and not what is to be told
pub did_turned : {d e : ℕ} {g h k : G NT} {P : Tells (seq (seq g h) k)} {p p' : Descent} → Did d e (seq (seq g h) k) P p p' → Did d e (seq g (seq h k)) (λ s rs v. P s rs ((v.0, v.1.0), v.1.1)) p p'
did_turned a = did_turn a

pub did_skip : {d e : ℕ} {g : G NT} {P : Tells (seq eps g)} {p p' : Descent} → Did d e (seq eps g) P p p' → Did d e g (λ s rs v. P s rs (tt, v)) p p'
did_skip {p} a = did_as (λ m. record {
  val = m.val.1;
  got = record {
    within = m.got.within;
    tree = skipped m.got.tree;
    reads = skipped_reads m.got.reads;
    span = m.got.span ∙ ap (λ x. p.here.at + x) (sym (skipped_long m.got.tree));
    is = skipped_value _ _ m.got.tree p.here.at m.val m.got.is;
  };
  wrote = m.wrote;
}) a

-- over a symbol of a class
on_inside : {p : Descent} {c : List ℕ} → On p c → p.here.at < length p.symbols.now
on_inside {p} {c} o = let h = (hd_in (tag_codes p.symbols.now) p.here.at c o.is).0 in let n = tags_long p.symbols.now in omega arith

taken : {r : SymbolRecord} {p p' : Descent} {c : List ℕ} → Advances r p p' → On p c → Taken p.symbols.now r p.here.at p.here p.tree.now p'.here p'.tree.now
taken a o = record { index = refl; symbol = a.symbol; passed = record { on = a.on (on_inside o); same = a.same; used = a.used } }

pub did_on : {d e k : ℕ} {c : List ℕ} {r : SymbolRecord} {p p' : Descent} → Advances r p p' → On p (k ∷ c) → Did d e (tok k c) (λ s rs. Taken rs r) p p'
did_on {d} {e} {k} {c} {r} {p} {p'} a o = record {
  keeps = a.keeps;
  made = record {
    val = p.here.at;
    got = subst (λ x. Got p.source.now p.symbols.now d e (tok k c) p.here.at x p.here.at) (sym (a.on (on_inside o))) (got_tok _ _ o.is);
    wrote = taken a o;
  };
}

pub did_expect : {d e k : ℕ} {r : SymbolRecord} {p p' : Descent} → Expects k p (Ok r) p' → Did d e (tok k []) (λ s rs. Taken rs r) p p'
did_expect x = did_on x.1 x.0

-- behind a symbol that encloses
pub did_around : {d d' e k : ℕ} {g : G NT} {P : Tells g} {r : SymbolRecord} {p p₁ p₂ : Descent} → Opens k d p (Ok (r, d')) p₁ → Did d' e g P p₁ p₂ →
    Did d e (nest factor k [] g) (λ s rs. Inside g (P s rs) rs r p₁.here p₁.tree.now) p p₂
did_around {d'} {e} {k} {g} {P} {r} {p} {p₁} {p₂} (o, a, z) b =
    let m = back a.keeps b in
    subst (λ y. Did y e (nest factor k [] g) (λ s rs. Inside g (P s rs) rs r p₁.here p₁.tree.now) p p₂) (sym z) (record {
      keeps = keeps_both a.keeps b.keeps;
      made = record {
        val = (p.here.at, m.val);
        got = got_around _ _ o.is (subst (λ x. Got p.source.now p.symbols.now d' e g x p₂.here.at m.val) (a.on (on_inside o)) m.got);
        wrote = record { one = taken a o; two = m.wrote };
      };
    })

pub did_within : {d e e' k : ℕ} {g : G NT} {P : Tells g} {r : SymbolRecord} {p p₁ p₂ : Descent} → Opens k e p (Ok (r, e')) p₁ → Did d e' g P p₁ p₂ →
    Did d e (nest statement k [] g) (λ s rs. Inside g (P s rs) rs r p₁.here p₁.tree.now) p p₂
did_within {d} {e'} {k} {g} {P} {r} {p} {p₁} {p₂} (o, a, z) b =
    let m = back a.keeps b in
    subst (λ y. Did d y (nest statement k [] g) (λ s rs. Inside g (P s rs) rs r p₁.here p₁.tree.now) p p₂) (sym z) (record {
      keeps = keeps_both a.keeps b.keeps;
      made = record {
        val = (p.here.at, m.val);
        got = got_within _ _ o.is (subst (λ x. Got p.source.now p.symbols.now d e' g x p₂.here.at m.val) (a.on (on_inside o)) m.got);
        wrote = record { one = taken a o; two = m.wrote };
      };
    })

pub did_push : {d e : ℕ} {g : G NT} {P : Tells g} {r : TreeRecord} {i : ℕ} {p p₁ p₂ : Descent} → Did d e g P p p₁ → Pushed r i p₁ p₂ → Did d e g (λ s rs. Pushing g r (P s rs) p₁.here p₁.tree.now) p p₂
did_push {d} {e} {g} {p} a q = record {
  keeps = keeps_both a.keeps q.keeps;
  made = record {
    val = a.made.val;
    got = subst (λ x. Got p.source.now p.symbols.now d e g p.here.at x a.made.val) (sym q.added.at) a.made.got;
    wrote = record { one = a.made.wrote; two = q.added };
  };
}

-- no more are left than before; fewer behind what cannot be empty
pub did_keeps : {d e : ℕ} {g : G NT} {P : Tells g} {p p' : Descent} → Did d e g P p p' → remaining p' ≤ remaining p
did_keeps {p} {p'} a = let x = a.made.got.span in let y : length p'.symbols.now ≡ length p.symbols.now = ap length a.keeps.symbols in omega arith

pub did_shrinks : {d e : ℕ} {c : List ℕ} {g : G NT} {P : Tells g} {p p' : Descent} → T (not (null firsts nulls g)) → On p c → Did d e g P p p' → remaining p' < remaining p
did_shrinks {p} {p'} z o a =
    let x = a.made.got.span in
    let y = not_empty a.made.got.tree z in
    let i = on_inside o in
    let j : length p'.symbols.now ≡ length p.symbols.now = ap length a.keeps.symbols in
    omega arith

pub on_falls : {r : SymbolRecord} {c : List ℕ} {p p' : Descent} → Advances r p p' → On p c → remaining p' < remaining p
on_falls {p} {p'} a o = let i = on_inside o in let h = a.on i in let j : length p'.symbols.now ≡ length p.symbols.now = ap length a.keeps.symbols in omega arith

-- a refusal, seen as one of another expression
refused_as : {d e d' e' : ℕ} {g h : G NT} {v : List ℕ} {i j : ℕ} → ((φ : Why) (k : ℕ) → Bad d e φ g v i k → Bad d' e' φ h v j k) → (k : Stop) → Refused d e g v i k → Refused d' e' h v j k
refused_as f (Impossible k) b = f wrong k b
refused_as f (TooDeep k) b = f deep k b

pub fails_as : {d e d' e' : ℕ} {g h : G NT} {p p₁ : Descent} {k : Stop} {p' : Descent} → Keeps p p₁ → ((φ : Why) (k : ℕ) → Bad d e φ g (tag_codes p.symbols.now) p₁.here.at k → Bad d' e' φ h (tag_codes p.symbols.now) p.here.at k) → Fails d e g p₁ k p' → Fails d' e' h p k p'
fails_as {d} {e} {g} {p} {p₁} {k} q f a = record {
  keeps = keeps_both q a.keeps;
  refused = refused_as f k (subst (λ x. Refused d e g (tag_codes x) p₁.here.at k) q.symbols a.refused);
}

pub fails_first : {d e : ℕ} {g h : G NT} {p p' : Descent} {k : Stop} → Fails d e g p k p' → Fails d e (seq g h) p k p'
fails_first a = fails_as (keeps_same refl) (λ φ k b. record { inside = b.inside; stops = s_seq b.stops }) a

pub fails_then : {d e : ℕ} {g h : G NT} {P : Tells g} {p p₁ p' : Descent} {k : Stop} → Did d e g P p p₁ → Fails d e h p₁ k p' → Fails d e (seq g h) p k p'
fails_then m a = let t = m.made.got in fails_as m.keeps (λ φ k b. record { inside = λ l. b.inside (t.within l); stops = s_then t.reads b.stops }) a

pub fails_left : {d e : ℕ} {g h : G NT} {p p' : Descent} {k : Stop} → On p (F g) → Fails d e g p k p' → Fails d e (alt g h) p k p'
fails_left o a = fails_as (keeps_same refl) (λ φ k b. record { inside = b.inside; stops = s_left o.is b.stops }) a

pub fails_right : {d e : ℕ} {g h : G NT} {p p' : Descent} {k : Stop} → Off p (F g) → Fails d e h p k p' → Fails d e (alt g h) p k p'
fails_right o a = fails_as (keeps_same refl) (λ φ k b. record { inside = b.inside; stops = s_right o.is_not b.stops }) a

pub fails_node : {d e : ℕ} {n : NT} {p p' : Descent} {k : Stop} → Fails d e (rule n) p k p' → Fails d e (ref n) p k p'
fails_node a = fails_as (keeps_same refl) (λ φ k b. record { inside = b.inside; stops = s_node b.stops }) a

pub fails_cons : {d e : ℕ} {g : G NT} {p p' : Descent} {k : Stop} → On p (F g) → Fails d e (seq g (rep g)) p k p' → Fails d e (rep g) p k p'
fails_cons o a = fails_as (keeps_same refl) (λ φ k b. record { inside = b.inside; stops = cons_stops o.is b.stops }) a

pub fails_turn : {d e : ℕ} {g h k : G NT} {p p' : Descent} {z : Stop} → Fails d e (seq (seq g h) k) p z p' → Fails d e (seq g (seq h k)) p z p'
fails_turn a = fails_as (keeps_same refl) (λ φ k b. record { inside = b.inside; stops = turned_stops b.stops }) a

-- behind a record that was written
pub fails_pushed : {d e : ℕ} {g : G NT} {r : TreeRecord} {i : ℕ} {p p₁ p' : Descent} {k : Stop} → Pushed r i p p₁ → Fails d e g p₁ k p' → Fails d e g p k p'
fails_pushed {d} {e} {g} {p} q a = fails_as q.keeps (λ φ k b. subst (λ x. Bad d e φ g (tag_codes p.symbols.now) x k) q.added.at b) a

-- a symbol that is none of those that may stand there
pub fails_expect : {d e k : ℕ} {p p' : Descent} {s : Stop} → Expects k p (Err s) p' → Fails d e (tok k []) p s p'
fails_expect {d} {e} {k} {p} (o, q, z) = record {
  keeps = keeps_same q;
  refused = subst (λ x. Refused d e (tok k []) (tag_codes p.symbols.now) p.here.at x) (sym z) (record { inside = λ l. l; stops = s_tok o.is_not });
}

pub fails_out : {d e k : ℕ} {κ : Kind} {c : List ℕ} {g : G NT} {p p' : Descent} {s : Stop} → s ≡ Impossible p.here.at → p' ≡ p → Off p (k ∷ c) → Fails d e (nest κ k c g) p s p'
fails_out {d} {e} {k} {κ} {c} {g} {p} z q o = record {
  keeps = keeps_same q;
  refused = subst (λ x. Refused d e (nest κ k c g) (tag_codes p.symbols.now) p.here.at x) (sym z) (record { inside = λ l. l; stops = s_out o.is_not });
}

-- one too many
pub fails_deep : {d e k : ℕ} {c : List ℕ} {g : G NT} {p p' : Descent} {s : Stop} → d ≡ 0 → s ≡ TooDeep p.here.at → p' ≡ p → On p (k ∷ c) → Fails d e (nest factor k c g) p s p'
fails_deep {e} {k} {c} {g} {p} {p'} {s} y z q o =
    let v = tag_codes p.symbols.now in
    let h = hd_in v p.here.at (k ∷ c) o.is in
    let f = sym (drop-cons v p.here.at 0 h.0) in
    record {
      keeps = keeps_same q;
      refused = subst₂ (λ n x. Refused n e (nest factor k c g) v p.here.at x) (sym y) (sym z) (record { inside = λ l. l; stops = subst (λ x. Stops rule firsts nulls 0 e (nest factor k c g) x deep x) f (s_factors h.1) });
    }

pub fails_full : {d e k : ℕ} {c : List ℕ} {g : G NT} {p p' : Descent} {s : Stop} → e ≡ 0 → s ≡ TooDeep p.here.at → p' ≡ p → On p (k ∷ c) → Fails d e (nest statement k c g) p s p'
fails_full {d} {k} {c} {g} {p} {p'} {s} y z q o =
    let v = tag_codes p.symbols.now in
    let h = hd_in v p.here.at (k ∷ c) o.is in
    let f = sym (drop-cons v p.here.at 0 h.0) in
    record {
      keeps = keeps_same q;
      refused = subst₂ (λ n x. Refused d n (nest statement k c g) v p.here.at x) (sym y) (sym z) (record { inside = λ l. l; stops = subst (λ x. Stops rule firsts nulls d 0 (nest statement k c g) x deep x) f (s_statements h.1) });
    }

-- either of these
pub fails_open : {d e k : ℕ} {g : G NT} {p p' : Descent} {s : Stop} → Opens k d p (Err s) p' → Fails d e (nest factor k [] g) p s p'
fails_open (q, inl (o, z)) = fails_out z q o
fails_open (q, inr (o, y, z)) = fails_deep y z q o

pub fails_begin : {d e k : ℕ} {g : G NT} {p p' : Descent} {s : Stop} → Opens k e p (Err s) p' → Fails d e (nest statement k [] g) p s p'
fails_begin (q, inl (o, z)) = fails_out z q o
fails_begin (q, inr (o, y, z)) = fails_full y z q o

pub fails_around : {d d' e k : ℕ} {g : G NT} {r : SymbolRecord} {p p₁ p' : Descent} {s : Stop} → Opens k d p (Ok (r, d')) p₁ → Fails d' e g p₁ s p' → Fails d e (nest factor k [] g) p s p'
fails_around {d'} {e} {k} {g} {p} {p₁} {p'} {s} (o, a, y) b =
    let v = tag_codes p.symbols.now in
    let h = hd_in v p.here.at (k ∷ []) o.is in
    let l = h.0 in
    let at : p₁.here.at ≡ suc p.here.at = a.on (on_inside o) ∙ omega arith in
    subst (λ n. Fails n e (nest factor k [] g) p s p') (sym y) (fails_as a.keeps (λ φ j x. record {
      inside = λ z. x.inside (omega arith);
      stops = subst (λ q. Stops rule firsts nulls (suc d') e (nest factor k [] g) q φ (drop j v)) (sym (drop-cons v p.here.at 0 l)) (s_factor h.1 (subst (λ q. Stops rule firsts nulls d' e g (drop q v) φ (drop j v)) at x.stops));
    }) b)

pub fails_within : {d e e' k : ℕ} {g : G NT} {r : SymbolRecord} {p p₁ p' : Descent} {s : Stop} → Opens k e p (Ok (r, e')) p₁ → Fails d e' g p₁ s p' → Fails d e (nest statement k [] g) p s p'
fails_within {d} {e'} {k} {g} {p} {p₁} {p'} {s} (o, a, y) b =
    let v = tag_codes p.symbols.now in
    let h = hd_in v p.here.at (k ∷ []) o.is in
    let l = h.0 in
    let at : p₁.here.at ≡ suc p.here.at = a.on (on_inside o) ∙ omega arith in
    subst (λ n. Fails d n (nest statement k [] g) p s p') (sym y) (fails_as a.keeps (λ φ j x. record {
      inside = λ z. x.inside (omega arith);
      stops = subst (λ q. Stops rule firsts nulls d (suc e') (nest statement k [] g) q φ (drop j v)) (sym (drop-cons v p.here.at 0 l)) (s_statement h.1 (subst (λ q. Stops rule firsts nulls d e' g (drop q v) φ (drop j v)) at x.stops));
    }) b)

-- what a call came to
pub did : {d e : ℕ} {g : G NT} {P : Tells g} {i : ℕ} {p p' : Descent} → Goes d e g P p (Ok i) p' → Did d e g P p p'
did a = a.went.0

pub rooted : {d e : ℕ} {g : G NT} {P : Tells g} {i : ℕ} {p p' : Descent} → Goes d e g P p (Ok i) p' → i ≡ root p'
rooted a = a.went.1

pub fails : {d e : ℕ} {g : G NT} {P : Tells g} {k : Stop} {p p' : Descent} → Goes d e g P p (Err k) p' → Fails d e g p k p'
fails a = a.went

pub goes_ok : {d e : ℕ} {g : G NT} {P : Tells g} {i : ℕ} {p p' : Descent} → i ≡ root p' → Did d e g P p p' → Goes d e g P p (Ok i) p'
goes_ok e a = record { went = (a, e) }

pub goes_err : {d e : ℕ} {g : G NT} {P : Tells g} {k : Stop} {p p' : Descent} → Fails d e g p k p' → Goes d e g P p (Err k) p'
goes_err a = record { went = a }

-- by the exit of a `?`
pub goes_out : {d e : ℕ} {g : G NT} {P : Tells g} {r : Result ℕ Stop} {k : Stop} {p p' : Descent} → IsErrAnd r (λ x. x ≡ k) → Fails d e g p k p' → Goes d e g P p r p'
goes_out {d} {e} {g} {P} {r} {k} {p} {p'} h a = let q = err_from_is_err_and r h in subst (λ x. Goes d e g P p x p') (sym (q.1 ∙ ap Err q.2)) (goes_err a)

-- a call whose answer is passed on
pub goes_as : {d e d' e' : ℕ} {g h : G NT} {P : Tells g} {Q : Tells h} {p p₁ : Descent} {r : Result ℕ Stop} {p' : Descent} →
    (Did d e g P p₁ p' → Did d' e' h Q p p') → ((k : Stop) → Fails d e g p₁ k p' → Fails d' e' h p k p') → Goes d e g P p₁ r p' → Goes d' e' h Q p r p'
goes_as {d} {e} {d'} {e'} {g} {h} {P} {Q} {p} {p₁} {r} {p'} f k a = record { went = go r a.went }
  where
    go : (r : Result ℕ Stop) → Does d e g P p₁ r p' → Does d' e' h Q p r p'
    go (Ok i) x = (f x.0, x.1)
    go (Err s) x = k s x

-- from p on h goes as g does from p₀ on
pub record Leads (d e : ℕ) (g : G NT) (P : Tells g) (p₀ : Descent) (h : G NT) (Q : Tells h) (p : Descent) : Type 0 where
  pub on : (p' : Descent) → Did d e h Q p p' → Did d e g P p₀ p'
  pub off : (k : Stop) (p' : Descent) → Fails d e h p k p' → Fails d e g p₀ k p'

-- what a symbol that was passed tells
pub place_is : {rs : List SymbolRecord} {r : SymbolRecord} {i : ℕ} {c c' : Cursor} {t t' : List TreeRecord} → Taken rs r i c t c' t' → r.place ≡ place_of rs i
place_is x = ap (λ y. y.place) x.symbol

pub tag_is : {rs : List SymbolRecord} {r : SymbolRecord} {i : ℕ} {c c' : Cursor} {t t' : List TreeRecord} → Taken rs r i c t c' t' → r.tag ≡ tag_at rs i
tag_is x = ap (λ y. y.tag) x.symbol

pub length_is : {p p₁ : Descent} {rs : List SymbolRecord} {r : SymbolRecord} {i n : ℕ} {c c' : Cursor} {t t' : List TreeRecord} →
    Keeps p p₁ → Taken rs r i c t c' t' → n ≡ word_length p₁.source.now r.place → n ≡ word_length p.source.now (place_of rs i)
length_is {p} k x e = e ∙ ap₂ word_length k.source (place_is x)

pub number_is : {p p₁ : Descent} {rs : List SymbolRecord} {r : SymbolRecord} {i n : ℕ} {c c' : Cursor} {t t' : List TreeRecord} →
    Keeps p p₁ → Taken rs r i c t c' t' → n ≡ number_at p₁.source.now r.place → n ≡ number_at p.source.now (place_of rs i)
number_is {p} k x e = e ∙ ap₂ number_at k.source (place_is x)

-- from what the code has tested
no_mem : (a : ℕ) (c : List ℕ) → T (not (mem a c)) → false ≡ mem a c
no_mem a c h = go (mem a c) h
  where
    go : (b : Bool) → T (not b) → false ≡ b
    go true h = absurd h
    go false h = refl

hd_at : (c v : List ℕ) (i : ℕ) → T (not (mem 0 c)) → hd c (drop i v) ≡ mem (get_or v i 0) c
hd_at c [] zero n = no_mem 0 c n
hd_at c [] (suc i) n = no_mem 0 c n
hd_at c (x ∷ v) zero n = refl
hd_at c (x ∷ v) (suc i) n = hd_at c v i n

pub on_by : {c : List ℕ} {p : Descent} (k : ℕ) → k ≡ get_or (tag_codes p.symbols.now) p.here.at 0 → T (not (mem 0 c)) → T (mem k c) → On p c
on_by {c} {p} k e f m = record { is = subst T (sym (hd_at c (tag_codes p.symbols.now) p.here.at f)) (subst (λ x. T (mem x c)) e m) }

pub off_by : {c : List ℕ} {p : Descent} (k : ℕ) → k ≡ get_or (tag_codes p.symbols.now) p.here.at 0 → T (not (mem 0 c)) → T (not (mem k c)) → Off p c
off_by {c} {p} k e f m = record { is_not = subst (λ x. T (not x)) (sym (hd_at c (tag_codes p.symbols.now) p.here.at f)) (subst (λ x. T (not (mem x c))) e m) }

-- by a test of a class
pub on_class : {c : List ℕ} {p : Descent} {k : ℕ} {b : Bool} → k ≡ get_or (tag_codes p.symbols.now) p.here.at 0 → b ≡ mem k c → b ≡ true → T (not (mem 0 c)) → On p c
on_class {c} {k} e f h z = on_by k e z (subst T (sym h ∙ f) tt)

pub off_class : {c : List ℕ} {p : Descent} {k : ℕ} {b : Bool} → k ≡ get_or (tag_codes p.symbols.now) p.here.at 0 → b ≡ mem k c → b ≡ false → T (not (mem 0 c)) → Off p c
off_class {c} {k} e f h z = off_by k e z (subst (λ x. T (not x)) (sym h ∙ f) tt)
