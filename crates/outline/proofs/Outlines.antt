-- The lines of a stored tree, by its root's record.
use Rattle.std.proofs.Common.{◌≡◌, ℕ, suc, ◌+◌, ◌<◌, List, ◌++◌, length, get_or, sym, ap, ◌∙◌, subst, ap₂, append_assoc, arith}
use Rattle.syntax.specs.declared.tree.TreeRecord.{TreeRecord}
use Rattle.syntax.specs.Syntax.{Syntax, leaf, unary, binary, size, parts, Shaped}
use Rattle.parser.specs.Parsing.{Stored, zero_node}
use Rattle.outline.specs.declared.order.Line.{Line}
use Rattle.outline.specs.Order.{line, inner, outlined}

-- the records of a tree lie one behind another
span : (ns : List TreeRecord) (n i : ℕ) (s : Syntax) → Stored ns n i s → suc i ≡ n + size s
span ns n i (leaf l) (e, h, g) = omega arith
span ns n i (unary l a) (j, p, e, h, g) = let x = span ns n j a p in omega arith
span ns n i (binary l a b) (j, k, p, q, e, h, g) =
    let x = span ns n j a p in
    let y = span ns (suc j) k b q in omega arith

-- and in the list
pub inside : (ns : List TreeRecord) (n i : ℕ) (s : Syntax) → Stored ns n i s → i < length ns
inside ns n i (leaf l) (e, h, g) = h
inside ns n i (unary l a) (j, p, e, h, g) = h
inside ns n i (binary l a b) (j, k, p, q, e, h, g) = h

module _ (ns : List TreeRecord) (n i d : ℕ) where
  abbrev at : TreeRecord
  at = get_or ns i zero_node

  -- its line was added to those before, and then those of a part that stands so deep
  abbrev Headed : List Line → List Line → Type 0
  Headed before headed = headed ≡ before ++ line at.kind i d

  abbrev Added : ℕ → ℕ → List Line → List Line → Type 0
  Added j x before after = (m : ℕ) (s : Syntax) → j < i → Stored ns m j s → Shaped s → after ≡ before ++ outlined s m x

  pub no_part : (s : Syntax) → Stored ns n i s → Shaped s → parts at.kind ≡ 0 → (before after : List Line) → Headed before after → after ≡ before ++ outlined s n d
  no_part (leaf l) (e, h, g) z k before after b = b ∙ ap₂ (λ x y. before ++ line x y d) (ap (λ r. r.kind) g) e
  no_part (unary l a) (j, p, e, h, g) z k before after b = absurd (let x = ap (λ r. parts r.kind) g in let y = z.0 in omega arith)
  no_part (binary l a b) (j, m, p, q, e, h, g) z k before after b' = absurd (let x = ap (λ r. parts r.kind) g in let y = z.0 in omega arith)

  pub one_part : (s : Syntax) → Stored ns n i s → Shaped s → parts at.kind ≡ 1 → (x : ℕ) → x ≡ inner at.kind d → (before headed after : List Line) →
      Headed before headed → Added at.first x headed after → after ≡ before ++ outlined s n d
  one_part (leaf l) (e, h, g) z k x y before headed after b c = absurd (let w = ap (λ r. parts r.kind) g in omega arith)
  one_part (unary l a) (j, p, e, h, g) z k x y before headed after b c =
      let w = span ns n j a p in
      let f : at.first ≡ j = ap (λ r. r.first) g in
      let o = ap (λ r. r.kind) g in
      let u : i ≡ n + size a = omega arith in
      c n a (omega arith) (subst (λ v. Stored ns n v a) (sym f) p) z.1
      ∙ ap₂ (λ v r. v ++ outlined a n r) b y ∙ append_assoc before (line at.kind i d) (outlined a n (inner at.kind d))
      ∙ ap₂ (λ v r. before ++ (line v r d ++ outlined a n (inner v d))) o u
  one_part (binary l a b) (j, m, p, q, e, h, g) z k x y before headed after b' c = absurd (let w = ap (λ r. parts r.kind) g in let v = z.0 in omega arith)

  pub two_parts : (s : Syntax) → Stored ns n i s → Shaped s → 1 < parts at.kind → (x : ℕ) → x ≡ inner at.kind d → (before headed between after : List Line) →
      Headed before headed → Added at.first x headed between → Added at.second x between after → after ≡ before ++ outlined s n d
  two_parts (leaf l) (e, h, g) z k x y before headed between after b c c' = absurd (let w = ap (λ r. parts r.kind) g in omega arith)
  two_parts (unary l a) (j, p, e, h, g) z k x y before headed between after b c c' = absurd (let w = ap (λ r. parts r.kind) g in let v = z.0 in omega arith)
  two_parts (binary l a b) (j, m, p, q, e, h, g) z k x y before headed between after b' c c' =
      let w = span ns n j a p in
      let w' = span ns (suc j) m b q in
      let f : at.first ≡ j = ap (λ r. r.first) g in
      let f' : at.second ≡ m = ap (λ r. r.second) g in
      let o = ap (λ r. r.kind) g in
      let u : i ≡ n + size a + size b = omega arith in
      let u' : suc j ≡ n + size a = omega arith in
      let one = c n a (omega arith) (subst (λ v. Stored ns n v a) (sym f) p) z.1 in
      let two = c' (suc j) b (omega arith) (subst (λ v. Stored ns (suc j) v b) (sym f') q) z.2 in
      two ∙ ap₂ (λ v r. v ++ outlined b r x) (one ∙ ap (λ v. v ++ outlined a n x) b') u'
      ∙ ap (λ v. ((before ++ line at.kind i d) ++ outlined a n v) ++ outlined b (n + size a) v) y
      ∙ ap₂ (λ v r. ((before ++ line v r d) ++ outlined a n (inner v d)) ++ outlined b (n + size a) (inner v d)) o u
      ∙ ap (λ v. v ++ outlined b (n + size a) (inner l.kind d)) (append_assoc before (line l.kind (n + size a + size b) d) (outlined a n (inner l.kind d)))
      ∙ append_assoc before (line l.kind (n + size a + size b) d ++ outlined a n (inner l.kind d)) (outlined b (n + size a) (inner l.kind d))
