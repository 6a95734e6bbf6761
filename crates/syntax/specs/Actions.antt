-- The syntax tree of each rule, from the values of its parts: a symbol's is its index.
use Rattle.std.specs.Prelude.{ℕ, ◌⊎◌, List, [], ◌∷◌, slice_index_or}
use Rattle.std.proofs.Common.{inl, inr}
use Rattle.vocabulary.specs.declared.tag.Tag.TheVariants as tag
use Rattle.lexer.specs.declared.symbol.SymbolRecord.{SymbolRecord}
use Rattle.lexer.specs.Records.{zero_record}
use Rattle.grammar.specs.Language.{NT, Module, Decl, Proc, Heading, Pars, Body, Elem, Const, Set, Range, «Type», Stats, Stat, Action, If, While, Repeat, Loop, Return, For, Control, Index, Args, Expr, Sum, Term, Factor, rule}
use Rattle.syntax.specs.declared.tree.NodeKind.{NodeKind}
use Rattle.syntax.specs.declared.tree.NodeKind.TheVariants as kind
use Rattle.syntax.specs.Symbols.{place_of, word_length, number_at}
use Rattle.syntax.specs.Syntax.{Label, Syntax, leaf, unary, binary}
use Rattle.syntax.specs.Value.{Val}

-- each item joined to what stands before it
abbrev pub chain : {X : Type 0} → (X → Label) → (X → Syntax) → Syntax → List X → Syntax
chain l f a [] = a
chain l f a (x ∷ xs) = chain l f (binary (l x) a (f x)) xs

-- a label with neither operator nor place
abbrev pub bare : NodeKind → Label
bare k = record { kind = k; operator = tag.EndOfSource; place = 0; value = 0 }

-- an absent part, and the start of a list
abbrev pub empty : Syntax
empty = leaf (bare kind.Empty)

-- a list of items behind its start
abbrev pub list : {X : Type 0} → (X → Syntax) → Syntax → List X → Syntax
list f a xs = chain (λ x. bare kind.Link) f a xs

module _ (source : List ℕ) (symbols : List SymbolRecord) where
  -- a node at symbol i: with a value; as an operator; with the length of the word there
  abbrev pub valued : NodeKind → ℕ → ℕ → Label
  valued k i v = record { kind = k; operator = tag.EndOfSource; place = place_of symbols i; value = v }

  abbrev pub at : NodeKind → ℕ → Label
  at k i = valued k i 0

  abbrev pub operated : NodeKind → ℕ → Label
  operated k i = record { kind = k; operator = (slice_index_or symbols i zero_record).tag; place = place_of symbols i; value = 0 }

  abbrev pub named : NodeKind → ℕ → Label
  named k i = valued k i (word_length source (place_of symbols i))

  -- with the place of another symbol
  abbrev pub until : NodeKind → ℕ → ℕ → Label
  until k i j = valued k i (place_of symbols j)

  abbrev pub name : ℕ → Syntax
  name i = leaf (named kind.Name i)

  abbrev pub names : ℕ → List (ℕ × ℕ) → Syntax
  names i is = list (λ x. name x.1) (name i) is

  abbrev pub operators : Syntax → List (ℕ × Syntax) → Syntax
  operators a bs = chain (λ x. operated kind.Binary x.0) (λ x. x.1) a bs

  abbrev pub signed : (ℕ ⊎ Unit {0}) → Syntax → Syntax
  signed (inl i) a = unary (operated kind.Unary i) a
  signed (inr u) a = a

  -- items with separators behind the start of a list, or none
  abbrev pub items : Syntax → ((Syntax × List (ℕ × Syntax)) ⊎ Unit {0}) → Syntax
  items a (inl p) = list (λ x. x.1) (binary (bare kind.Link) a p.0) p.1
  items a (inr u) = a

  abbrev pub separated : ((Syntax × List (ℕ × Syntax)) ⊎ Unit {0}) → Syntax
  separated v = items empty v

  abbrev pub maybe : (Syntax ⊎ Unit {0}) → Syntax
  maybe (inl a) = a
  maybe (inr u) = empty

  abbrev pub behind : ((ℕ × Syntax) ⊎ Unit {0}) → Syntax
  behind (inl p) = p.1
  behind (inr u) = empty

  abbrev pub result_type : ((ℕ × ℕ) ⊎ Unit {0}) → Syntax
  result_type (inl p) = name p.1
  result_type (inr u) = empty

  abbrev pub heading : ((ℕ × (((Syntax × List (ℕ × Syntax)) ⊎ Unit {0}) × (ℕ × ((ℕ × ℕ) ⊎ Unit {0})))) ⊎ Unit {0}) → Syntax
  heading (inl (o, (ps, (c, r)))) = binary (bare kind.Heading) (separated ps) (result_type r)
  heading (inr u) = binary (bare kind.Heading) empty empty

  abbrev pub target : ℕ → (Syntax ⊎ Unit {0}) → Syntax
  target i (inl x) = unary (named kind.Element i) x
  target i (inr u) = name i

  abbrev pub designator : ℕ → ((Syntax ⊎ Syntax) ⊎ Unit {0}) → Syntax
  designator i (inl (inl x)) = unary (named kind.Element i) x
  designator i (inl (inr a)) = unary (named kind.Call i) a
  designator i (inr u) = name i

  abbrev pub range : Syntax → ((ℕ × Syntax) ⊎ Unit {0}) → Syntax
  range a (inl p) = binary (bare kind.Range) a p.1
  range a (inr u) = a

  abbrev pub related : Syntax → ((ℕ × Syntax) ⊎ Unit {0}) → Syntax
  related a (inl p) = binary (operated kind.Binary p.0) a p.1
  related a (inr u) = a

  abbrev pub either : (Syntax ⊎ Syntax) → Syntax
  either (inl a) = a
  either (inr a) = a

  abbrev pub arm : ℕ × (Syntax × (ℕ × Syntax)) → Syntax
  arm (i, (e, (j, s))) = binary (at kind.Arm i) e s

  -- the tree that each rule makes
  abbrev pub act : (n : NT) → Val Syntax (rule n) → Syntax
  act Module (m, (i, (s, (ds, (b, (j, p)))))) = binary (named kind.Module i) (list either empty ds) (unary (named kind.Closing j) b)
  act Decl (inl (i, cs)) = list (λ c. unary (named kind.Constant c.0) c.1.1.0) (leaf (at kind.Constants i)) cs
  act Decl (inr (i, vs)) = list (λ v. binary (bare kind.Variable) (names v.0 v.1.0) v.1.1.1.0) (leaf (at kind.Variables i)) vs
  act Proc (p, (i, (h, (s, (ds, (b, (j, c))))))) =
      binary (named kind.Procedure i) h (binary (bare kind.Block) (list (λ d. d) empty ds) (unary (named kind.Closing j) b))
  act Heading h = heading h
  act Pars (i, (is, (c, j))) = binary (bare kind.Parameters) (names i is) (name j)
  act Body (ss, i) = unary (at kind.Body i) (behind ss)
  act Elem (inl (inl i, j)) = leaf (valued kind.Negative i (number_at source (place_of symbols j)))
  act Elem (inl (inr u, j)) = leaf (valued kind.Number j (number_at source (place_of symbols j)))
  act Elem (inr i) = name i
  act Const (inl e) = e
  act Const (inr s) = s
  act Set (i, (rs, j)) = unary (at kind.Set i) (separated rs)
  act Range (a, b) = range a b
  act «Type» (inl i) = name i
  act «Type» (inr (i, (o, (x, (d, (y, (c, (f, j)))))))) = binary (at kind.Array i) (binary (at kind.Bounds o) x y) (name j)
  act Stats (s, ss) = chain (λ x. bare kind.Sequence) (λ x. x.1) s ss
  act Stat (inl (inl a)) = a
  act Stat (inl (inr (inl i))) = leaf (at kind.Exit i)
  act Stat (inl (inr (inr (inl a)))) = a
  act Stat (inl (inr (inr (inr (inl a))))) = a
  act Stat (inl (inr (inr (inr (inr (inl a)))))) = a
  act Stat (inl (inr (inr (inr (inr (inr (inl a))))))) = a
  act Stat (inl (inr (inr (inr (inr (inr (inr (inl a)))))))) = a
  act Stat (inl (inr (inr (inr (inr (inr (inr (inr a)))))))) = a
  act Stat (inr u) = empty
  act Action (i, inl (x, (j, e))) = binary (at kind.Assign j) (target i x) e
  act Action (i, inr a) = unary (named kind.Call i) (maybe a)
  act If (i, (e, (j, (s, (as', (b, k)))))) = binary (until kind.If i k) (list arm (binary (at kind.Arm i) e s) as') (behind b)
  act While (i, (e, (j, (s, k)))) = binary (until kind.While i k) e s
  act Repeat (i, (s, (j, e))) = binary (at kind.Repeat i) s e
  act Loop (i, (s, k)) = unary (until kind.Loop i k) s
  act Return (i, e) = unary (at kind.Return i) (maybe e)
  act For (i, (c, (j, (s, k)))) = binary (until kind.For i k) c s
  act Control (i, (b, (x, (o, (y, z))))) =
      unary (named kind.Control i) (binary (bare kind.Terms) (binary (bare kind.Limits) x y) (behind z))
  act Index (i, (e, j)) = unary (at kind.Index i) e
  act Args (i, (es, j)) = separated es
  act Expr (a, b) = related a b
  act Sum (s, (a, bs)) = operators (signed s a) bs
  act Term (a, bs) = operators a bs
  act Factor (inl i) = leaf (valued kind.Number i (number_at source (place_of symbols i)))
  act Factor (inr (inl s)) = s
  act Factor (inr (inr (inl (i, x)))) = designator i x
  act Factor (inr (inr (inr (inl (i, (e, j)))))) = unary (at kind.Group i) e
  act Factor (inr (inr (inr (inr (i, f))))) = unary (operated kind.Unary i) f
