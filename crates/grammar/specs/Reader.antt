-- The predictive reader, which decides by the next symbol alone, as two relations; and the check that this decides.
use Rattle.std.specs.Prelude.{ℕ, zero, suc, Bool, true, false, cond, not, ◌&&◌, ◌||◌, T, List, [], ◌∷◌, ◌++◌, nat_lt}
use Rattle.grammar.specs.Ebnf.{Kind, factor, statement, G, eps, tok, seq, alt, rep, ref, nest, mem, Tree, unit, leaf, pair, left, right, nil, cons, node, under}

-- the next symbol is there and in the class
abbrev pub hd : List ℕ → List ℕ → Bool
hd c [] = false
hd c (a ∷ w) = mem a c

-- nothing follows, or a symbol of the class
abbrev pub fits : List ℕ → List ℕ → Bool
fits c [] = true
fits c (a ∷ w) = mem a c

-- by what each nonterminal can begin with, and whether it can be empty: the same of each expression
module _ {N : Type 0} (firsts : N → List ℕ) (nulls : N → Bool) where
  abbrev pub null : G N → Bool
  null eps = true
  null (tok k c) = false
  null (seq g h) = null g && null h
  null (alt g h) = null g || null h
  null (rep g) = true
  null (ref n) = nulls n
  null (nest κ k c g) = false

  abbrev pub first : G N → List ℕ
  first eps = []
  first (tok k c) = k ∷ c
  first (seq g h) = first g ++ cond (null g) (first h) []
  first (alt g h) = first g ++ first h
  first (rep g) = first g
  first (ref n) = firsts n
  first (nest κ k c g) = k ∷ c

-- why the reader refuses: no sentence goes on so, or more would be enclosed than may
pub data Why : Type 0 where
  wrong deep : Why

-- the reader where d more symbols may enclose factors, and e more statements
module _ {N : Type 0} (rule : N → G N) (firsts : N → List ℕ) (nulls : N → Bool) where
  abbrev begins : G N → List ℕ → Bool
  begins g w = hd (first firsts nulls g) w

  -- of the symbols w it reads the tree t of g and leaves y
  pub data Reads : ℕ → ℕ → (g : G N) → List ℕ → Tree rule g → List ℕ → Type 0 where
    r_eps : {d e : ℕ} {w : List ℕ} → Reads d e eps w unit w
    r_tok : {d e : ℕ} {k : ℕ} {c : List ℕ} {a : ℕ} {w : List ℕ} (p : T (mem a (k ∷ c))) → Reads d e (tok k c) (a ∷ w) (leaf a p) w
    r_seq : {d e : ℕ} {g h : G N} {w x y : List ℕ} {t : Tree rule g} {s : Tree rule h} → Reads d e g w t x → Reads d e h x s y → Reads d e (seq g h) w (pair t s) y
    r_left : {d e : ℕ} {g h : G N} {w y : List ℕ} {t : Tree rule g} → T (begins g w) → Reads d e g w t y → Reads d e (alt g h) w (left t) y
    r_right : {d e : ℕ} {g h : G N} {w y : List ℕ} {t : Tree rule h} → T (not (begins g w)) → Reads d e h w t y → Reads d e (alt g h) w (right t) y
    r_nil : {d e : ℕ} {g : G N} {w : List ℕ} → T (not (begins g w)) → Reads d e (rep g) w nil w
    r_cons : {d e : ℕ} {g : G N} {w x y : List ℕ} {t : Tree rule g} {s : Tree rule (rep g)} → T (begins g w) → Reads d e g w t x → Reads d e (rep g) x s y → Reads d e (rep g) w (cons t s) y
    r_node : {d e : ℕ} {n : N} {w y : List ℕ} {t : Tree rule (rule n)} → Reads d e (rule n) w t y → Reads d e (ref n) w (node t) y
    r_factor : {d e : ℕ} {k : ℕ} {c : List ℕ} {g : G N} {a : ℕ} {w y : List ℕ} {t : Tree rule g} (p : T (mem a (k ∷ c))) → Reads d e g w t y → Reads (suc d) e (nest factor k c g) (a ∷ w) (under a p t) y
    r_statement : {d e : ℕ} {k : ℕ} {c : List ℕ} {g : G N} {a : ℕ} {w y : List ℕ} {t : Tree rule g} (p : T (mem a (k ∷ c))) → Reads d e g w t y → Reads d (suc e) (nest statement k c g) (a ∷ w) (under a p t) y

  -- it refuses w at the first of z
  pub data Stops : ℕ → ℕ → G N → List ℕ → Why → List ℕ → Type 0 where
    s_tok : {d e : ℕ} {k : ℕ} {c w : List ℕ} → T (not (hd (k ∷ c) w)) → Stops d e (tok k c) w wrong w
    s_seq : {d e : ℕ} {φ : Why} {g h : G N} {w z : List ℕ} → Stops d e g w φ z → Stops d e (seq g h) w φ z
    s_then : {d e : ℕ} {φ : Why} {g h : G N} {w x z : List ℕ} {t : Tree rule g} → Reads d e g w t x → Stops d e h x φ z → Stops d e (seq g h) w φ z
    s_left : {d e : ℕ} {φ : Why} {g h : G N} {w z : List ℕ} → T (begins g w) → Stops d e g w φ z → Stops d e (alt g h) w φ z
    s_right : {d e : ℕ} {φ : Why} {g h : G N} {w z : List ℕ} → T (not (begins g w)) → Stops d e h w φ z → Stops d e (alt g h) w φ z
    s_item : {d e : ℕ} {φ : Why} {g : G N} {w z : List ℕ} → T (begins g w) → Stops d e g w φ z → Stops d e (rep g) w φ z
    s_more : {d e : ℕ} {φ : Why} {g : G N} {w x z : List ℕ} {t : Tree rule g} → T (begins g w) → Reads d e g w t x → Stops d e (rep g) x φ z → Stops d e (rep g) w φ z
    s_node : {d e : ℕ} {φ : Why} {n : N} {w z : List ℕ} → Stops d e (rule n) w φ z → Stops d e (ref n) w φ z
    s_out : {d e : ℕ} {κ : Kind} {k : ℕ} {c : List ℕ} {g : G N} {w : List ℕ} → T (not (hd (k ∷ c) w)) → Stops d e (nest κ k c g) w wrong w
    s_factors : {e : ℕ} {k : ℕ} {c : List ℕ} {g : G N} {a : ℕ} {w : List ℕ} → T (mem a (k ∷ c)) → Stops zero e (nest factor k c g) (a ∷ w) deep (a ∷ w)
    s_statements : {d : ℕ} {k : ℕ} {c : List ℕ} {g : G N} {a : ℕ} {w : List ℕ} → T (mem a (k ∷ c)) → Stops d zero (nest statement k c g) (a ∷ w) deep (a ∷ w)
    s_factor : {d e : ℕ} {φ : Why} {k : ℕ} {c : List ℕ} {g : G N} {a : ℕ} {w z : List ℕ} → T (mem a (k ∷ c)) → Stops d e g w φ z → Stops (suc d) e (nest factor k c g) (a ∷ w) φ z
    s_statement : {d e : ℕ} {φ : Why} {k : ℕ} {c : List ℕ} {g : G N} {a : ℕ} {w z : List ℕ} → T (mem a (k ∷ c)) → Stops d e g w φ z → Stops d (suc e) (nest statement k c g) (a ∷ w) φ z

-- each of the first class is in the second; none is
abbrev pub subset : List ℕ → List ℕ → Bool
subset [] d = true
subset (a ∷ c) d = mem a d && subset c d

abbrev pub apart : List ℕ → List ℕ → Bool
apart [] d = true
apart (a ∷ c) d = not (mem a d) && apart c d

abbrev pub implies : Bool → Bool → Bool
implies a b = not a || b

module _ {N : Type 0} (firsts : N → List ℕ) (nulls : N → Bool) (follows : N → List ℕ) where
  -- the next symbol decides how g goes on, where g is followed by nothing or by a symbol of f
  abbrev pub ok : G N → List ℕ → Bool
  ok eps f = true
  ok (tok k c) f = true
  ok (seq g h) f = ok g (first firsts nulls h ++ cond (null firsts nulls h) f []) && ok h f
  ok (alt g h) f = not (null firsts nulls g) && apart (first firsts nulls g) (first firsts nulls h ++ cond (null firsts nulls h) f []) && ok g f && ok h f
  ok (rep g) f = not (null firsts nulls g) && apart (first firsts nulls g) f && ok g (first firsts nulls g ++ f)
  ok (ref n) f = subset f (follows n)
  ok (nest κ k c g) f = ok g f

  -- no nonterminal of this rank or above is met before a symbol is read
  abbrev pub ranked : (N → ℕ) → ℕ → G N → Bool
  ranked rank r eps = true
  ranked rank r (tok k c) = true
  ranked rank r (seq g h) = ranked rank r g && implies (null firsts nulls g) (ranked rank r h)
  ranked rank r (alt g h) = ranked rank r g && ranked rank r h
  ranked rank r (rep g) = ranked rank r g
  ranked rank r (ref n) = nat_lt (rank n) r
  ranked rank r (nest κ k c g) = true

  -- the check of one rule: one symbol decides, the sets hold what they have to, and ranks fall
  abbrev pub passes : (N → ℕ) → (N → G N) → N → Bool
  passes rank rule n =
      ok (rule n) (follows n) && subset (first firsts nulls (rule n)) (firsts n) && implies (null firsts nulls (rule n)) (nulls n)
      && ranked rank (rank n) (rule n)
