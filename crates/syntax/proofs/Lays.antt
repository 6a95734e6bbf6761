-- Records that are written one behind another.
use Rattle.std.proofs.Common.{◌≡◌, ℕ, suc, ◌+◌, ◌-◌, ◌*◌, ◌<◌, ◌≤◌, min, ◌⊎◌, List, [], ◌∷◌, ◌++◌, length, take, set, sym, refl, ap, ◌∙◌, subst, ap₂, inl, inr, append_assoc, arith, take-suc-set}
use Rattle.syntax.specs.declared.step.Cursor.{Cursor}
use Rattle.vocabulary.specs.declared.tag.Tag.{Tag}
use Rattle.syntax.specs.declared.tree.NodeKind.{NodeKind}
use Rattle.syntax.specs.declared.tree.TreeRecord.{TreeRecord}
use Rattle.syntax.specs.Syntax.{Label, Syntax, leaf, unary, binary, size, label, entry, lay}
use Rattle.syntax.specs.Steps.{Room, Added}
use Rattle.syntax.specs.Post.{Passed, Laid, Lays, Spares, Extends}

-- a record written behind those in use, if it fits in
pub added : (r : TreeRecord) (c c' : Cursor) (t t' : List TreeRecord) → c'.at ≡ c.at → c'.used ≡ min (c.used + 1) 18446744073709551615 →
    length t' ≡ length t → ((c.used < length t) × (t' ≡ set t c.used r)) ⊎ (length t ≤ c.used) → Added r c t c' t'
added r c c' t t' a u l h =
    record {
      at = a;
      long = l;
      most = omega arith;
      count = λ m. let i = m.0 in omega arith;
      laid = λ m. let i = m.0 in let j = m.1 in
          let e : c'.used ≡ suc c.used = omega arith in
          elim h [ inl p ↦ ap (λ n. take n t') e ∙ ap (take (suc c.used)) p.1 ∙ take-suc-set t c.used r p.0 | inr p ↦ absurd (omega arith) ];
    }

-- what is laid, with the one record or two parts and the record behind it
pub laid_leaf : {r : TreeRecord} {c c' : Cursor} {t t' : List TreeRecord} (l : Label) → r ≡ entry l 0 0 → Added r c t c' t' → Laid c.used t (leaf l) c' t'
laid_leaf {c} {t} l e a =
    record {
      count = λ m. let h = a.count m in omega arith;
      laid = λ m. a.laid m ∙ ap (λ x. take c.used t ++ (x ∷ [])) e;
    }

pub laid_unary : {n : ℕ} {t₀ : List TreeRecord} {s : Syntax} {r : TreeRecord} {c c' : Cursor} {t t' : List TreeRecord} (l : Label) →
    Laid n t₀ s c t → r ≡ entry l (c.used - 1) 0 → Added r c t c' t' → Laid n t₀ (unary l s) c' t'
laid_unary {n} {t₀} {s} {r} {c} {c'} {t} {t'} l p e a =
    let inner : Room c' t' → Room c t = λ m. let h = a.count m in let i = m.0 in let j = m.1 in let k = a.long in (omega arith, omega arith) in
    record {
      count = λ m. let h = a.count m in let k = p.count (inner m) in omega arith;
      laid = λ m. let k = p.count (inner m) in
          a.laid m ∙ ap (λ x. x ++ (r ∷ [])) (p.laid (inner m)) ∙ append_assoc (take n t₀) (lay s n) (r ∷ [])
          ∙ ap (λ x. take n t₀ ++ (lay s n ++ (x ∷ []))) (e ∙ ap (λ x. entry l (x - 1) 0) k);
    }

pub laid_binary : {n : ℕ} {t₀ : List TreeRecord} {s u : Syntax} {r : TreeRecord} {c c₁ c₂ : Cursor} {t t₁ t₂ : List TreeRecord} (l : Label) →
    Laid n t₀ s c t → Laid c.used t u c₁ t₁ → length t₁ ≡ length t → r ≡ entry l (c.used - 1) (c₁.used - 1) → Added r c₁ t₁ c₂ t₂ → Laid n t₀ (binary l s u) c₂ t₂
laid_binary {n} {t₀} {s} {u} {r} {c} {c₁} {c₂} {t} {t₁} {t₂} l p q long e a =
    let in₁ : Room c₂ t₂ → Room c₁ t₁ = λ m. let h = a.count m in let i = m.0 in let j = m.1 in let k = a.long in (omega arith, omega arith) in
    let in₀ : Room c₂ t₂ → Room c t = λ m. let h = q.count (in₁ m) in let i = (in₁ m).0 in let j = (in₁ m).1 in (omega arith, omega arith) in
    record {
      count = λ m. let h = a.count m in let i = q.count (in₁ m) in let j = p.count (in₀ m) in omega arith;
      laid = λ m.
          let i = q.count (in₁ m) in
          let j = p.count (in₀ m) in
          a.laid m ∙ ap (λ x. x ++ (r ∷ [])) (q.laid (in₁ m) ∙ ap (λ x. x ++ lay u c.used) (p.laid (in₀ m)))
          ∙ append_assoc (take n t₀ ++ lay s n) (lay u c.used) (r ∷ []) ∙ append_assoc (take n t₀) (lay s n) (lay u c.used ++ (r ∷ []))
          ∙ ap (λ x. take n t₀ ++ (lay s n ++ (lay u x ++ (r ∷ [])))) j
          ∙ ap (λ x. take n t₀ ++ (lay s n ++ (lay u (n + size s) ++ (x ∷ [])))) (e ∙ ap (λ x. entry l (x - 1) (c₁.used - 1)) j ∙ ap (λ x. entry l (n + size s - 1) (x - 1)) (i ∙ ap (λ x. x + size u) j));
    }

-- over a symbol
pub laid_passed : {n k : ℕ} {t₀ : List TreeRecord} {s : Syntax} {c c' : Cursor} {t t' : List TreeRecord} → Laid n t₀ s c t → Passed k c t c' t' → Laid n t₀ s c' t'
laid_passed {n} {k} {t₀} {s} {c} {c'} {t} {t'} p q =
    let inner : Room c' t' → Room c t = λ m. let h = q.used in let i = ap length q.same in let j = m.0 in let h₁ = m.1 in (omega arith, omega arith) in
    record { count = λ m. q.used ∙ p.count (inner m); laid = λ m. ap (λ x. take x t') q.used ∙ ap (take c.used) q.same ∙ p.laid (inner m) }

-- what is laid behind symbols is laid from where they began
pub laid_from : {k : ℕ} {s : Syntax} {c c₁ c₂ : Cursor} {t t₁ t₂ : List TreeRecord} → Passed k c t c₁ t₁ → Laid c₁.used t₁ s c₂ t₂ → Laid c.used t s c₂ t₂
laid_from {k} {s} {c} {c₁} {c₂} {t} {t₁} {t₂} q p =
    record {
      count = λ m. p.count m ∙ ap (λ x. x + size s) q.used;
      laid = λ m. p.laid m ∙ ap (λ x. take x t₁ ++ lay s x) q.used ∙ ap (λ x. take c.used x ++ lay s c.used) q.same;
    }

-- the same tree under another name
pub lays_as : {k : ℕ} {s u : Syntax} {c c' : Cursor} {t t' : List TreeRecord} → u ≡ s → Lays k s c t c' t' → Lays k u c t c' t'
lays_as {k} {c} {c'} {t} {t'} e p = subst (λ x. Lays k x c t c' t') (sym e) p

-- a leaf behind one symbol or more
pub leaf_lays : {n : ℕ} {r : TreeRecord} {c c₁ c₂ : Cursor} {t t₁ t₂ : List TreeRecord} (l : Label) → Passed (suc n) c t c₁ t₁ → r ≡ entry l 0 0 → Added r c₁ t₁ c₂ t₂ → Lays 0 (leaf l) c t c₂ t₂
leaf_lays l p e a =
    let h₀ = p.on in let h₁ = p.used in let h₂ = ap length p.same in let h₃ = a.at in let h₄ = a.most in let h₅ = a.long in
    record { long = omega arith; few = omega arith; laid = laid_from p (laid_leaf l e a) }

-- symbols behind symbols
pub passed_both : {m n : ℕ} {c c₁ c₂ : Cursor} {t t₁ t₂ : List TreeRecord} → Passed m c t c₁ t₁ → Passed n c₁ t₁ c₂ t₂ → Passed (m + n) c t c₂ t₂
passed_both p q = let h₀ = p.on in let h₁ = q.on in record { on = omega arith; same = q.same ∙ p.same; used = q.used ∙ p.used }

-- nothing more
pub extends_none : {n k : ℕ} {c c' : Cursor} {t t' : List TreeRecord} → Passed n c t c' t' → Extends k (λ a. a) c t c' t'
extends_none p =
    let h₀ = p.on in let h₁ = p.used in let h₂ = ap length p.same in
    record { long = h₂; grows = λ m. omega arith; few = omega arith; laid = λ a n b l. laid_passed l p }

-- what a tree was laid from, with more behind it
pub lays_more : {k m : ℕ} {s : Syntax} {f : Syntax → Syntax} {c c₁ c₂ : Cursor} {t t₁ t₂ : List TreeRecord} → Lays k s c t c₁ t₁ → Extends m f c₁ t₁ c₂ t₂ → Lays (k + m) (f s) c t c₂ t₂
lays_more {s} {c} {t} p q =
    let h₀ = p.few in let h₁ = q.few in let h₂ = p.long in let h₃ = q.long in
    record { long = omega arith; few = omega arith; laid = q.laid s c.used t p.laid }

-- symbols, one more part, and the record that joins it to what was there
pub extends_join : {k m n : ℕ} {l : Label} {s : Syntax} {f : Syntax → Syntax} {r : TreeRecord} {c c₁ c₂ c₃ c₄ : Cursor} {t t₁ t₂ t₃ t₄ : List TreeRecord} →
    Passed n c t c₁ t₁ → Lays k s c₁ t₁ c₂ t₂ → Added r c₂ t₂ c₃ t₃ → r ≡ entry l (c.used - 1) (c₂.used - 1) → Extends m f c₃ t₃ c₄ t₄ → (j : ℕ) → suc k + m ≤ 2 * n + j →
    Extends j (λ a. f (binary l a s)) c t c₄ t₄
extends_join {k} {m} {n} {l} {s} {f} {r} {c} {c₁} {c₂} {c₃} {c₄} {t} {t₁} {t₂} {t₃} {t₄} p q a e x j z =
    let h₀ = p.on in let h₁ = p.used in let h₂ = ap length p.same in let h₃ = q.few in let h₄ = q.long in let h₅ = a.at in let h₆ = a.most in let h₇ = a.long in let h₈ = x.few in let h₉ = x.long in
    record {
      long = omega arith;
      grows = λ b.
          let g₀ = x.grows b in let g₁ = b.0 in let g₂ = b.1 in
          let b₃ : Room c₃ t₃ = (omega arith, omega arith) in
          let g₃ = a.count b₃ in
          let b₂ : Room c₂ t₂ = (omega arith, omega arith) in
          let g₄ = q.laid.count b₂ in omega arith;
      few = omega arith;
      laid = λ y i b d. x.laid (binary l y s) i b
          (laid_binary l (laid_passed d p) q.laid (omega arith) (e ∙ ap (λ v. entry l (v - 1) (c₂.used - 1)) (sym h₁)) a);
    }

-- two parts, symbols between them, and the record behind
pub binary_lays : {k m n : ℕ} {l : Label} {s u : Syntax} {r : TreeRecord} {c c₁ c₂ c₃ c₄ : Cursor} {t t₁ t₂ t₃ t₄ : List TreeRecord} →
    Lays k s c t c₁ t₁ → Passed n c₁ t₁ c₂ t₂ → Lays m u c₂ t₂ c₃ t₃ → Added r c₃ t₃ c₄ t₄ → r ≡ entry l (c₁.used - 1) (c₃.used - 1) → (j : ℕ) → suc k + m ≤ 2 * n + j → Lays j (binary l s u) c t c₄ t₄
binary_lays {k} {m} {n} {l} {s} {u} {r} {c} {c₁} {c₂} {c₃} {c₄} {t} {t₁} {t₂} {t₃} {t₄} a p b d e j z =
    let h₀ = p.on in let h₁ = p.used in let h₂ = ap length p.same in let h₃ = a.few in let h₄ = a.long in let h₅ = b.few in let h₆ = b.long in let h₇ = d.at in let h₈ = d.most in let h₉ = d.long in
    record {
      long = omega arith;
      few = omega arith;
      laid = laid_binary l (laid_passed a.laid p) b.laid h₆ (e ∙ ap (λ v. entry l (v - 1) (c₃.used - 1)) (sym h₁)) d;
    }

-- symbols, a part, symbols, and the record behind
pub unary_lays : {k m n : ℕ} {l : Label} {s : Syntax} {r : TreeRecord} {c c₁ c₂ c₃ c₄ : Cursor} {t t₁ t₂ t₃ t₄ : List TreeRecord} →
    Passed m c t c₁ t₁ → Lays k s c₁ t₁ c₂ t₂ → Passed n c₂ t₂ c₃ t₃ → Added r c₃ t₃ c₄ t₄ → r ≡ entry l (c₂.used - 1) 0 → (j : ℕ) → suc k ≤ 2 * (m + n) + j → Lays j (unary l s) c t c₄ t₄
unary_lays {k} {m} {n} {l} {s} {r} {c} {c₁} {c₂} {c₃} {c₄} {t} {t₁} {t₂} {t₃} {t₄} p a q d e j z =
    let h₀ = p.on in let h₁ = p.used in let h₂ = ap length p.same in let h₃ = a.few in let h₄ = a.long in let h₅ = q.on in let h₆ = q.used in let h₇ = ap length q.same in let h₈ = d.at in let h₉ = d.most in let h₁₀ = d.long in
    record {
      long = omega arith;
      few = omega arith;
      laid = laid_unary l (laid_passed (laid_from p a.laid) q) (e ∙ ap (λ v. entry l (v - 1) 0) (sym h₆)) d;
    }

-- the same under another name of what is added
pub extends_by : {X : Type 0} {k : ℕ} {x y : X} {c c' : Cursor} {t t' : List TreeRecord} (f : X → Syntax → Syntax) → y ≡ x → Extends k (f x) c t c' t' → Extends k (f y) c t c' t'
extends_by {k} {c} {c'} {t} {t'} f e p = subst (λ z. Extends k (f z) c t c' t') (sym e) p

-- a record by equal parts
pub entry_same : {r : TreeRecord} {k : NodeKind} {o o' : Tag} {p p' v v' a a' b b' : ℕ} → r ≡ entry (label k o p v) a b → o ≡ o' → p ≡ p' → v ≡ v' → a ≡ a' → b ≡ b' → r ≡ entry (label k o' p' v') a' b'
entry_same {k} {o'} {p} {p'} {v} {v'} {a} {a'} {b} e f g h i j =
    e ∙ ap (λ x. entry (label k x p v) a b) f ∙ ap₂ (λ x y. entry (label k o' x y) a b) g h ∙ ap₂ (λ x y. entry (label k o' p' v') x y) i j

-- a tree behind symbols
pub lays_passed : {n k : ℕ} {s : Syntax} {c c₁ c₂ : Cursor} {t t₁ t₂ : List TreeRecord} → Passed n c t c₁ t₁ → Lays k s c₁ t₁ c₂ t₂ → Lays k s c t c₂ t₂
lays_passed p a =
    let h₀ = p.on in let h₁ = p.used in let h₂ = ap length p.same in let h₃ = a.few in let h₄ = a.long in
    record { long = omega arith; few = omega arith; laid = laid_from p a.laid }

-- a tree and symbols behind it, which pay for what was too many
pub lays_close : {n k : ℕ} {s : Syntax} {c c₁ c₂ : Cursor} {t t₁ t₂ : List TreeRecord} → Lays k s c t c₁ t₁ → Passed n c₁ t₁ c₂ t₂ → (j : ℕ) → k ≤ 2 * n + j → Lays j s c t c₂ t₂
lays_close a p j z =
    let h₀ = p.on in let h₁ = p.used in let h₂ = ap length p.same in let h₃ = a.few in let h₄ = a.long in
    record { long = omega arith; few = omega arith; laid = laid_passed a.laid p }

-- a symbol before a tree, which pays for one too many
pub lays_spend : {s : Syntax} {c c₁ c₂ : Cursor} {t t₁ t₂ : List TreeRecord} → Passed 1 c t c₁ t₁ → Lays 1 s c₁ t₁ c₂ t₂ → Lays 0 s c t c₂ t₂
lays_spend p a =
    let h₀ = p.on in let h₁ = p.used in let h₂ = ap length p.same in let h₃ = a.few in let h₄ = a.long in
    record { long = omega arith; few = omega arith; laid = laid_from p a.laid }

-- a leaf behind no symbol
pub leaf_adds : {r : TreeRecord} {c c₁ c₂ : Cursor} {t t₁ t₂ : List TreeRecord} (l : Label) → Passed 0 c t c₁ t₁ → r ≡ entry l 0 0 → Added r c₁ t₁ c₂ t₂ → Lays 1 (leaf l) c t c₂ t₂
leaf_adds l p e a =
    let h₀ = p.on in let h₁ = p.used in let h₂ = ap length p.same in let h₃ = a.at in let h₄ = a.most in let h₅ = a.long in
    record { long = omega arith; few = omega arith; laid = laid_from p (laid_leaf l e a) }

-- with more to spare
pub lays_lift : {k : ℕ} {s : Syntax} {c c₁ : Cursor} {t t₁ : List TreeRecord} (j : ℕ) → Lays k s c t c₁ t₁ → Lays (k + j) s c t c₁ t₁
lays_lift j a = let h = a.few in record { long = a.long; few = omega arith; laid = a.laid }

-- no symbol
pub passed_none : {c : Cursor} {t : List TreeRecord} → Passed 0 c t c t
passed_none = record { on = omega arith; same = refl; used = refl }

-- symbols before a tree, which pay for what is too many
pub lays_paid : {n k : ℕ} {s : Syntax} {c c₁ c₂ : Cursor} {t t₁ t₂ : List TreeRecord} → Passed n c t c₁ t₁ → Lays k s c₁ t₁ c₂ t₂ → (j : ℕ) → k ≤ 2 * n + j → Lays j s c t c₂ t₂
lays_paid p a j z =
    let h₀ = p.on in let h₁ = p.used in let h₂ = ap length p.same in let h₃ = a.few in let h₄ = a.long in
    record { long = omega arith; few = omega arith; laid = laid_from p a.laid }

-- one extension behind another
pub extends_both : {k m : ℕ} {f g : Syntax → Syntax} {c c₁ c₂ : Cursor} {t t₁ t₂ : List TreeRecord} → Extends k f c t c₁ t₁ → Extends m g c₁ t₁ c₂ t₂ → Extends (k + m) (λ a. g (f a)) c t c₂ t₂
extends_both {f} {c} {c₁} {c₂} {t} {t₁} {t₂} p q =
    let h₀ = p.few in let h₁ = q.few in let h₂ = p.long in let h₃ = q.long in
    record {
      long = omega arith;
      grows = λ b.
          let g₀ = q.grows b in let g₁ = b.0 in let g₂ = b.1 in
          let b₁ : Room c₁ t₁ = (omega arith, omega arith) in
          let g₃ = p.grows b₁ in omega arith;
      few = omega arith;
      laid = λ a n b l. q.laid (f a) n b (p.laid a n b l);
    }

-- one more part and the record that joins it, where the part leaves room for that
pub extends_laid : {l : Label} {s : Syntax} {r : TreeRecord} {c c₁ c₂ : Cursor} {t t₁ t₂ : List TreeRecord} → length t₁ ≡ length t → Laid c.used t s c₁ t₁ → Added r c₁ t₁ c₂ t₂ → r ≡ entry l (c.used - 1) (c₁.used - 1) →
    suc (c₁.used + 2 * c.at) ≤ c.used + 2 * c₁.at → Extends 0 (λ a. binary l a s) c t c₂ t₂
extends_laid {l} {s} {r} {c} {c₁} {c₂} {t} {t₁} {t₂} long q a e z =
    let h₅ = a.at in let h₆ = a.most in let h₇ = a.long in
    record {
      long = omega arith;
      grows = λ b.
          let g₁ = b.0 in let g₂ = b.1 in let g₃ = a.count b in
          let b₁ : Room c₁ t₁ = (omega arith, omega arith) in
          let g₄ = q.count b₁ in omega arith;
      few = omega arith;
      laid = λ y i b d. laid_binary l d q long e a;
    }

-- symbols, one more part, and the record that joins it to what was there, with nothing behind
pub extends_item : {k n : ℕ} {l : Label} {s : Syntax} {r : TreeRecord} {c c₁ c₂ c₃ : Cursor} {t t₁ t₂ t₃ : List TreeRecord} →
    Passed n c t c₁ t₁ → Lays k s c₁ t₁ c₂ t₂ → Added r c₂ t₂ c₃ t₃ → r ≡ entry l (c.used - 1) (c₂.used - 1) → (j : ℕ) → suc k ≤ 2 * n + j → Extends j (λ a. binary l a s) c t c₃ t₃
extends_item p q a e j z = extends_join {m = 0} p q a e (extends_none passed_none) j (omega arith)

-- a tree behind which symbols pay for one record more
pub spares_close : {n k : ℕ} {s : Syntax} {c c₁ c₂ : Cursor} {t t₁ t₂ : List TreeRecord} → Lays k s c t c₁ t₁ → Passed n c₁ t₁ c₂ t₂ → suc k ≤ 2 * n → Spares s c t c₂ t₂
spares_close a p z =
    let h₀ = p.on in let h₁ = p.used in let h₂ = ap length p.same in let h₃ = a.few in let h₄ = a.long in
    record { long = omega arith; few = omega arith; laid = laid_passed a.laid p }

-- a leaf behind a symbol
pub spares_leaf : {r : TreeRecord} {c c₁ c₂ : Cursor} {t t₁ t₂ : List TreeRecord} (l : Label) → Passed 1 c t c₁ t₁ → r ≡ entry l 0 0 → Added r c₁ t₁ c₂ t₂ → Spares (leaf l) c t c₂ t₂
spares_leaf l p e a =
    let h₀ = p.on in let h₁ = p.used in let h₂ = ap length p.same in let h₃ = a.at in let h₄ = a.most in let h₅ = a.long in
    record { long = omega arith; few = omega arith; laid = laid_from p (laid_leaf l e a) }

-- with more behind it
pub spares_more : {s : Syntax} {f : Syntax → Syntax} {c c₁ c₂ : Cursor} {t t₁ t₂ : List TreeRecord} → Spares s c t c₁ t₁ → Extends 0 f c₁ t₁ c₂ t₂ → Spares (f s) c t c₂ t₂
spares_more {s} {c} {t} p q =
    let h₀ = p.few in let h₁ = q.few in let h₂ = p.long in let h₃ = q.long in
    record { long = omega arith; few = omega arith; laid = q.laid s c.used t p.laid }

-- a record that joins such a tree to what was there
pub extends_spared : {l : Label} {s : Syntax} {r : TreeRecord} {c c₁ c₂ : Cursor} {t t₁ t₂ : List TreeRecord} → Spares s c t c₁ t₁ → Added r c₁ t₁ c₂ t₂ → r ≡ entry l (c.used - 1) (c₁.used - 1) → Extends 0 (λ a. binary l a s) c t c₂ t₂
extends_spared p a e = extends_laid p.long p.laid a e p.few

-- two parts, each with symbols behind it, and the record behind
pub binary_spares : {k m n j : ℕ} {l : Label} {s u : Syntax} {r : TreeRecord} {c c₁ c₂ c₃ c₄ c₅ : Cursor} {t t₁ t₂ t₃ t₄ t₅ : List TreeRecord} →
    Lays k s c t c₁ t₁ → Passed n c₁ t₁ c₂ t₂ → Lays m u c₂ t₂ c₃ t₃ → Passed j c₃ t₃ c₄ t₄ → Added r c₄ t₄ c₅ t₅ → r ≡ entry l (c₁.used - 1) (c₃.used - 1) → suc (suc k + m) ≤ 2 * (n + j) → Spares (binary l s u) c t c₅ t₅
binary_spares {k} {m} {n} {j} {l} {s} {u} {r} {c} {c₁} {c₂} {c₃} {c₄} {c₅} {t} {t₁} {t₂} {t₃} {t₄} {t₅} a p b q d e z =
    let h₀ = p.on in let h₁ = p.used in let h₂ = ap length p.same in let h₃ = a.few in let h₄ = a.long in let h₅ = b.few in let h₆ = b.long in let h₇ = d.at in let h₈ = d.most in let h₉ = d.long in let k₀ = q.on in let k₁ = q.used in let k₂ = ap length q.same in
    record {
      long = omega arith;
      few = omega arith;
      laid = laid_binary l (laid_passed a.laid p) (laid_passed b.laid q) (omega arith) (e ∙ ap (λ v. entry l (v - 1) (c₃.used - 1)) (sym h₁) ∙ ap (λ v. entry l (c₂.used - 1) (v - 1)) (sym k₁)) d;
    }
