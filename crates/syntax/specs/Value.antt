-- The value of a grammar tree: what an action for each rule makes of the values of its parts. A symbol's value is its index.
use Rattle.std.specs.Prelude.{ℕ, suc, ◌+◌, ◌⊎◌, List, [], ◌∷◌, length}
use Rattle.std.proofs.Common.{inl, inr}
use Rattle.grammar.specs.Ebnf.{G, eps, tok, seq, alt, rep, ref, nest, Tree, unit, leaf, pair, left, right, nil, cons, node, under, yield}

-- what the values of an expression are, where those of each nonterminal are A
abbrev pub Val : {N : Type 0} → Type 0 → G N → Type 0
Val A eps = Unit {0}
Val A (tok k c) = ℕ
Val A (seq g h) = Val A g × Val A h
Val A (alt g h) = Val A g ⊎ Val A h
Val A (rep g) = List (Val A g)
Val A (ref n) = A
Val A (nest κ k c g) = ℕ × Val A g

module _ {N : Type 0} (rule : N → G N) (A : Type 0) (act : (n : N) → Val A (rule n) → A) where
  -- the value of a tree whose first symbol is symbol i
  abbrev pub value : {g : G N} → Tree rule g → ℕ → Val A g
  value unit i = tt
  value (leaf a p) i = i
  value (pair t s) i = (value t i, value s (i + length (yield rule t)))
  value (left t) i = inl (value t i)
  value (right t) i = inr (value t i)
  value nil i = []
  value (cons t s) i = value t i ∷ value s (i + length (yield rule t))
  value (node {n} t) i = act n (value t i)
  value (under a p t) i = (i, value t (suc i))
