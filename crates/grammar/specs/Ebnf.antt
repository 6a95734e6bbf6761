-- EBNF grammars as data, their trees, the symbols that a tree stands over, and what each of these encloses.
use Rattle.std.specs.Prelude.{◌≡◌, ℕ, suc, Bool, false, ◌||◌, T, List, [], ◌∷◌, ◌++◌, ◌==◌}

-- what a symbol can enclose; the two are counted apart
pub data Kind : Type 0 where
  factor statement : Kind

-- an EBNF expression over the nonterminals N. A symbol is a number; tok a c is one symbol of a ∷ c; nest κ a c g is such
-- a symbol with the g behind it, which it encloses as κ
pub data G (N : Type 0) : Type 0 where
  eps : G N
  tok : ℕ → List ℕ → G N
  seq : G N → G N → G N
  alt : G N → G N → G N
  rep : G N → G N
  ref : N → G N
  nest : Kind → ℕ → List ℕ → G N → G N

infixr 60 ◌⨾◌
infixr 55 ◌∣◌
-- one behind the other
abbrev pub ◌⨾◌ : {N : Type 0} → G N → G N → G N
g ⨾ h = seq g h

-- one or the other
abbrev pub ◌∣◌ : {N : Type 0} → G N → G N → G N
g ∣ h = alt g h

-- g, or nothing
abbrev pub opt : {N : Type 0} → G N → G N
opt g = alt g eps

-- the symbol is in the class
abbrev pub mem : ℕ → List ℕ → Bool
mem a [] = false
mem a (x ∷ xs) = a == x || mem a xs

-- what a symbol of a tree encloses: nothing, or it is the n-th of its kind, with those around it
pub data Mark : Type 0 where
  plain : Mark
  encloses : Kind → ℕ → Mark

-- one more of a kind, of so many factors and so many statements
abbrev pub in_factors : Kind → ℕ → ℕ
in_factors factor n = suc n
in_factors statement n = n

abbrev pub in_statements : Kind → ℕ → ℕ
in_statements factor n = n
in_statements statement n = suc n

-- the number of the enclosure of a kind that opens inside so many
abbrev pub nth : Kind → ℕ → ℕ → ℕ
nth factor m n = suc m
nth statement m n = suc n

module _ {N : Type 0} (rule : N → G N) where
  -- the trees of an expression, by the rules of the nonterminals
  pub data Tree : G N → Type 0 where
    unit : Tree eps
    leaf : {k : ℕ} {c : List ℕ} (a : ℕ) → T (mem a (k ∷ c)) → Tree (tok k c)
    pair : {g h : G N} → Tree g → Tree h → Tree (seq g h)
    left : {g h : G N} → Tree g → Tree (alt g h)
    right : {g h : G N} → Tree h → Tree (alt g h)
    nil : {g : G N} → Tree (rep g)
    cons : {g : G N} → Tree g → Tree (rep g) → Tree (rep g)
    node : {n : N} → Tree (rule n) → Tree (ref n)
    under : {κ : Kind} {k : ℕ} {c : List ℕ} {g : G N} (a : ℕ) → T (mem a (k ∷ c)) → Tree g → Tree (nest κ k c g)

  -- the symbols of a tree
  abbrev pub yield : {g : G N} → Tree g → List ℕ
  yield unit = []
  yield (leaf a p) = a ∷ []
  yield (pair t s) = yield t ++ yield s
  yield (left t) = yield t
  yield (right t) = yield t
  yield nil = []
  yield (cons t s) = yield t ++ yield s
  yield (node t) = yield t
  yield (under a p t) = a ∷ yield t

  -- what each of them encloses, in a tree inside so many enclosures of factors and of statements
  abbrev pub marks : {g : G N} → ℕ → ℕ → Tree g → List Mark
  marks m n unit = []
  marks m n (leaf a p) = plain ∷ []
  marks m n (pair t s) = marks m n t ++ marks m n s
  marks m n (left t) = marks m n t
  marks m n (right t) = marks m n t
  marks m n nil = []
  marks m n (cons t s) = marks m n t ++ marks m n s
  marks m n (node t) = marks m n t
  marks m n (under {κ} a p t) = encloses κ (nth κ m n) ∷ marks (in_factors κ m) (in_statements κ n) t

  -- u begins a sentence of g
  abbrev pub Viable : G N → List ℕ → Type 0
  Viable g u = (v : List ℕ) × (t : Tree g) × (yield t ≡ u ++ v)
