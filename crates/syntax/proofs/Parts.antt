-- Repetitions that are read by loops, where what was read so far leads to whatever is read of the rest, and parts that may be absent.
use Rattle.std.proofs.Common.{◌≡◌, ℕ, suc, ◌<◌, ◌≤◌, List, [], ◌∷◌, Ok, refl, ap, ◌∙◌, inr, arith}
use Rattle.vocabulary.specs.declared.tag.Tag.TheVariants.{EndOfSource}
use Rattle.grammar.specs.Ebnf.{G, tok, seq, rep, ref, opt}
use Rattle.grammar.specs.Language.{NT}
use Rattle.lexer.specs.declared.symbol.SymbolRecord.{SymbolRecord}
use Rattle.syntax.specs.declared.step.Descent.{Descent}
use Rattle.syntax.specs.declared.step.Stop.{Stop}
use Rattle.syntax.specs.declared.tree.NodeKind.TheVariants as kind
use Rattle.syntax.specs.declared.tree.TreeRecord.{TreeRecord}
use Rattle.syntax.specs.Value.{Val}
use Rattle.syntax.specs.Syntax.{Label, Syntax, binary, label, entry}
use Rattle.syntax.specs.Actions.{chain, bare, empty, separated}
use Rattle.syntax.specs.Steps.{On, Off, Advances, Pushed, root, remaining}
use Rattle.syntax.specs.Post.{Lays, Spares, Extends, Tells, Did, Fails, Goes}
use Rattle.syntax.proofs.Joins.{F, Leads, did, rooted, goes_ok, did_map, did_seq, did_on, did_inl, did_inr, did_none, did_nil, did_cons, did_push, did_skip, did_keeps, on_falls, fails_first, fails_then, fails_left, fails_cons, fails_pushed}
use Rattle.syntax.proofs.Lays.{lays_as, lays_lift, lays_more, lays_close, leaf_adds, extends_none, extends_both, extends_by, extends_join, extends_item, extends_spared, passed_none, entry_same}

-- the labels and the trees of items, by the source, its symbols and an item's value
abbrev pub Labels : G NT → Type 0
Labels h = List ℕ → List SymbolRecord → Val Syntax h → Label

abbrev pub Trees : G NT → Type 0
Trees h = List ℕ → List SymbolRecord → Val Syntax h → Syntax

-- each item is joined to what stands before it
abbrev pub Chains : (h : G NT) → Labels h → Trees h → Tells (rep h)
Chains h l f s rs v = Extends 0 (λ a. chain (l s rs) (f s rs) a v)

-- one item more
pub leads_item : {d e : ℕ} {g h : G NT} {P : Tells g} {l : Labels h} {f : Trees h} {p₀ p p₁ : Descent} → Leads d e g P p₀ (rep h) (Chains h l f) p → On p (F h) →
    Did d e h (λ s rs v. Extends 0 (λ a. binary (l s rs v) a (f s rs v))) p p₁ → Leads d e g P p₀ (rep h) (Chains h l f) p₁
leads_item i o a = record {
  on = λ p' b. i.on p' (did_cons o (did_map (λ v g x. extends_both x.one x.two) (did_seq a b)));
  off = λ k p' b. i.off k p' (fails_cons o (fails_then a b));
}

-- no more
pub leads_end : {d e : ℕ} {g h : G NT} {P : Tells g} {l : Labels h} {f : Trees h} {p₀ p p' : Descent} → Leads d e g P p₀ (rep h) (Chains h l f) p → Off p (F h) → p' ≡ p → Did d e g P p₀ p'
leads_end {l} {f} {p} {p'} i o q = i.on p' (did_map (λ v g x. extends_by (λ y a. chain (l p.source.now p.symbols.now) (f p.source.now p.symbols.now) a y) x.0 (extends_none x.1)) (did_nil o q))

-- an item behind a separator
abbrev pub behind_sign : ℕ → G NT → G NT
behind_sign k h = seq (tok k []) h

abbrev pub Joined : (k : ℕ) (h : G NT) → Label → Trees h → Tells (rep (behind_sign k h))
Joined k h l f = Chains (behind_sign k h) (λ s rs x. l) (λ s rs x. f s rs x.1)

pub leads_next : {d e m k i j n : ℕ} {g h : G NT} {P : Tells g} {l : Label} {f : Trees h} {r : SymbolRecord} {q : TreeRecord} {p₀ p p₁ p₂ p₃ : Descent} →
    Leads d e g P p₀ (rep (behind_sign k h)) (Joined k h l f) p → On p (k ∷ []) × Advances r p p₁ → Goes d e h (λ s rs v. Lays m (f s rs v)) p₁ (Ok j) p₂ → Pushed q n p₂ p₃ → q ≡ entry l i j → i ≡ root p → suc m ≤ 2 →
    Leads d e g P p₀ (rep (behind_sign k h)) (Joined k h l f) p₃
leads_next i (o, a) b q e z y = leads_item i o (did_map (λ v g x. extends_item x.one.one.passed x.one.two x.two (entry_same e refl refl refl z (rooted b)) 0 (omega arith)) (did_push (did_seq (did_on a o) (did b)) q))

pub fails_next : {d e k : ℕ} {g h : G NT} {P : Tells g} {Q : Tells (rep (behind_sign k h))} {r : SymbolRecord} {p₀ p p₁ p' : Descent} {z : Stop} →
    Leads d e g P p₀ (rep (behind_sign k h)) Q p → On p (k ∷ []) × Advances r p p₁ → Fails d e h p₁ z p' → Fails d e g p₀ z p'
fails_next i (o, a) b = i.off _ _ (fails_cons o (fails_first (fails_then (did_on a o) b)))

pub next_falls : {d e k j n : ℕ} {h : G NT} {P : Tells h} {r : SymbolRecord} {q : TreeRecord} {p p₁ p₂ p₃ : Descent} → On p (k ∷ []) × Advances r p p₁ → Goes d e h P p₁ (Ok j) p₂ → Pushed q n p₂ p₃ → remaining p₃ < remaining p
next_falls (o, a) b q = let x = on_falls a o in let y = did_keeps (did_push (did b) q) in omega arith

-- items with separators between them behind the start of their list, or none
abbrev pub filled : (k : ℕ) (n : NT) → G NT
filled k n = seq (ref n) (rep (behind_sign k (ref n)))

abbrev pub Items : (k : ℕ) (n : NT) → G NT
Items k n = opt (filled k n)

pub leads_first : {d e k i j m : ℕ} {n : NT} {r q : TreeRecord} {p p₁ p₂ p₃ : Descent} → Pushed r i p p₁ → r ≡ entry (label kind.Empty EndOfSource 0 0) 0 0 → On p₁ (F (filled k n)) →
    Goes d e (ref n) (λ s rs v. Lays 0 v) p₁ (Ok j) p₂ → Pushed q m p₂ p₃ → q ≡ entry (label kind.Link EndOfSource 0 0) i j →
    Leads d e (Items k n) (λ s rs v. Lays 2 (separated s rs v)) p (rep (behind_sign k (ref n))) (Joined k (ref n) (bare kind.Link) (λ s rs v. v)) p₃
leads_first {p} a e o b q z = record {
  on = λ p' c. did_map
      (λ v g x.
      let y = x.two.wrote in
      lays_as (ap (separated p.source.now p.symbols.now) x.two.is) (lays_more {k = 1} {m = 1} (leaf_adds (label kind.Empty EndOfSource 0 0) x.one.one e x.one.two)
      (extends_join {n = 0} passed_none y.one.one y.one.two (entry_same z refl refl refl a.is (rooted b)) y.two 1 (omega arith))))
      (did_skip (did_seq (did_push (did_none refl) a) (did_inl o (did_seq (did_push (did b) q) c))));
  off = λ k p' c. fails_pushed a (fails_left o (fails_then (did_push (did b) q) c));
}

pub fails_items : {d e k i : ℕ} {n : NT} {r : TreeRecord} {p p₁ p' : Descent} {z : Stop} → Pushed r i p p₁ → On p₁ (F (filled k n)) → Fails d e (ref n) p₁ z p' → Fails d e (Items k n) p z p'
fails_items a o b = fails_pushed a (fails_left o (fails_first b))

pub goes_no_items : {d e k i : ℕ} {n : NT} {r : TreeRecord} {p p₁ : Descent} → Pushed r i p p₁ → r ≡ entry (label kind.Empty EndOfSource 0 0) 0 0 → Off p₁ (F (filled k n)) → Goes d e (Items k n) (λ s rs v. Lays 2 (separated s rs v)) p (Ok i) p₁
goes_no_items {p} a e o = goes_ok a.is (did_map
    (λ v g x. lays_as (ap (separated p.source.now p.symbols.now) x.two.is) (lays_lift 1 (lays_close (leaf_adds (label kind.Empty EndOfSource 0 0) x.one.one e x.one.two) x.two.wrote 1 (omega arith))))
    (did_skip (did_seq (did_push (did_none refl) a) (did_inr o (did_none refl)))))

-- nothing, in the place of a part
pub goes_empty : {d e i : ℕ} {g : G NT} {f : Trees (opt g)} {r : TreeRecord} {p p₁ p₂ : Descent} → Off p (F g) → p₁ ≡ p → Pushed r i p₁ p₂ → r ≡ entry (label kind.Empty EndOfSource 0 0) 0 0 →
    ((s : List ℕ) (rs : List SymbolRecord) → f s rs (inr tt) ≡ empty) → Goes d e (opt g) (λ s rs v. Lays 1 (f s rs v)) p (Ok i) p₂
goes_empty {f} {p} o z q e h = goes_ok q.is (did_map
    (λ v g x. lays_as (ap (f p.source.now p.symbols.now) x.one.is ∙ h p.source.now p.symbols.now) (leaf_adds (label kind.Empty EndOfSource 0 0) x.one.wrote e x.two))
    (did_push (did_inr o (did_none z)) q))

-- items behind the start of a list, each of which pays for the record that joins it
pub leads_start : {d e i : ℕ} {h : G NT} {l : Labels h} {f : Trees h} {r : TreeRecord} {p p₁ : Descent} → Pushed r i p p₁ → r ≡ entry (label kind.Empty EndOfSource 0 0) 0 0 →
    Leads d e (rep h) (λ s rs v. Lays 1 (chain (l s rs) (f s rs) empty v)) p (rep h) (Chains h l f) p₁
leads_start a e = record {
  on = λ p' b. did_map (λ v g x. lays_more {k = 1} {m = 0} (leaf_adds (label kind.Empty EndOfSource 0 0) x.one.one e x.one.two) x.two) (did_skip (did_seq (did_push (did_none refl) a) b));
  off = λ k p' b. fails_pushed a b;
}

pub leads_spared : {d e i j n : ℕ} {g h : G NT} {P : Tells g} {l : Label} {f : Trees h} {q : TreeRecord} {p₀ p p₁ p₂ : Descent} → Leads d e g P p₀ (rep h) (Chains h (λ s rs x. l) f) p → On p (F h) →
    Goes d e h (λ s rs v. Spares (f s rs v)) p (Ok j) p₁ → Pushed q n p₁ p₂ → q ≡ entry l i j → i ≡ root p → Leads d e g P p₀ (rep h) (Chains h (λ s rs x. l) f) p₂
leads_spared i o b q e z = leads_item i o (did_map (λ v g x. extends_spared x.one x.two (entry_same e refl refl refl z (rooted b))) (did_push (did b) q))
