-- Parts of the rules of the grammar that functions of the parser read, and classes of symbols.
use Rattle.std.specs.Prelude.{ℕ, ◌⊎◌, List, [], ◌∷◌}
use Rattle.std.proofs.Common.{inl, inr}
use Rattle.vocabulary.specs.declared.tag.Tag.TheVariants as tag
use Rattle.grammar.specs.Ebnf.{G, ref, rep, opt, ◌⨾◌, ◌∣◌}
use Rattle.grammar.specs.Language.{NT, Pars, Const, «Type», Elem, Range, Stats, Stat, Index, Args, Expr, Term, Factor, sign, one, n}
use Rattle.grammar.specs.Codes.{codes}
use Rattle.lexer.specs.declared.symbol.SymbolRecord.{SymbolRecord}
use Rattle.syntax.specs.declared.tree.NodeKind.TheVariants as kind
use Rattle.syntax.specs.Symbols.{place_of, number_at}
use Rattle.syntax.specs.Syntax.{Syntax, leaf, unary, binary, label}
use Rattle.syntax.specs.Actions.{valued, at, named, bare, list, names, name}

abbrev pub comma_range : G NT
comma_range = sign tag.Comma ⨾ ref Range

abbrev pub comma_expr : G NT
comma_expr = sign tag.Comma ⨾ ref Expr

abbrev pub add_term : G NT
add_term = one tag.Plus (tag.Minus ∷ tag.Or ∷ []) ⨾ ref Term

abbrev pub multiply_factor : G NT
multiply_factor = one tag.Times (tag.Div ∷ tag.Mod ∷ tag.And ∷ []) ⨾ ref Factor

abbrev pub relations : List ℕ
relations = codes (tag.Equal ∷ tag.NotEqual ∷ tag.Less ∷ tag.AtMost ∷ tag.Greater ∷ tag.AtLeast ∷ tag.In ∷ [])

abbrev pub additions : List ℕ
additions = codes (tag.Plus ∷ tag.Minus ∷ tag.Or ∷ [])

abbrev pub multiplications : List ℕ
multiplications = codes (tag.Times ∷ tag.Div ∷ tag.Mod ∷ tag.And ∷ [])

abbrev pub signs : List ℕ
signs = codes (tag.Plus ∷ tag.Minus ∷ [])

abbrev pub sign_term : G NT
sign_term = opt (one tag.Plus (tag.Minus ∷ [])) ⨾ ref Term

abbrev pub numeral : G NT
numeral = sign tag.Number

-- the tree of the number that symbol i is
abbrev pub number_of : List ℕ → List SymbolRecord → ℕ → Syntax
number_of source symbols i = leaf (valued source symbols kind.Number i (number_at source (place_of symbols i)))

abbrev pub selector : G NT
selector = opt (ref Index ∣ ref Args)

-- the tree of a name at a place, with its length, and what stands behind it
abbrev pub selected : ℕ → ℕ → ((Syntax ⊎ Syntax) ⊎ Unit {0}) → Syntax
selected p l (inl (inl x)) = unary (label kind.Element tag.EndOfSource p l) x
selected p l (inl (inr a)) = unary (label kind.Call tag.EndOfSource p l) a
selected p l (inr u) = leaf (label kind.Name tag.EndOfSource p l)

abbrev pub semicolon_stat : G NT
semicolon_stat = sign tag.Semicolon ⨾ ref Stat

abbrev pub elsif_arm : G NT
elsif_arm = sign tag.Elsif ⨾ ref Expr ⨾ sign tag.Then ⨾ ref Stats

abbrev pub else_part : G NT
else_part = opt (sign tag.Else ⨾ ref Stats)

abbrev pub by_part : G NT
by_part = opt (sign tag.By ⨾ ref Elem)

abbrev pub assigning : G NT
assigning = opt (ref Index) ⨾ sign tag.Becomes ⨾ ref Expr

-- the tree of a variable at a place, with its name's length, and of an assignment to it
abbrev pub targeted : ℕ → ℕ → (Syntax ⊎ Unit {0}) → Syntax
targeted p l (inl x) = unary (label kind.Element tag.EndOfSource p l) x
targeted p l (inr u) = leaf (label kind.Name tag.EndOfSource p l)

abbrev pub assigned : List ℕ → List SymbolRecord → ℕ → ℕ → ((Syntax ⊎ Unit {0}) × (ℕ × Syntax)) → Syntax
assigned source symbols p l (x, (i, e)) = binary (at source symbols kind.Assign i) (targeted p l x) e

abbrev pub comma_name : G NT
comma_name = sign tag.Comma ⨾ n

abbrev pub semicolon_pars : G NT
semicolon_pars = sign tag.Semicolon ⨾ ref Pars

abbrev pub result_part : G NT
result_part = opt (sign tag.Colon ⨾ n)

abbrev pub begin_part : G NT
begin_part = opt (sign tag.Begin ⨾ ref Stats)

abbrev pub array_type : G NT
array_type = sign tag.Array ⨾ sign tag.OpenSquare ⨾ ref Elem ⨾ sign tag.Range ⨾ ref Elem ⨾ sign tag.CloseSquare ⨾ sign tag.Of ⨾ n

abbrev pub constant_item : G NT
constant_item = n ⨾ sign tag.Equal ⨾ ref Const ⨾ sign tag.Semicolon

abbrev pub variable_item : G NT
variable_item = n ⨾ rep comma_name ⨾ sign tag.Colon ⨾ ref «Type» ⨾ sign tag.Semicolon

abbrev pub const_part : G NT
const_part = sign tag.Const ⨾ rep constant_item

abbrev pub var_part : G NT
var_part = sign tag.Var ⨾ rep variable_item

-- what declarations and procedures begin with
abbrev pub declaring : List ℕ
declaring = codes (tag.Const ∷ tag.Var ∷ tag.Procedure ∷ [])

-- the trees of an array type, a declared constant and all behind CONST, declared variables and all behind VAR, and of a closing name behind a body
module _ (source : List ℕ) (symbols : List SymbolRecord) where
  abbrev pub array_of : (ℕ × (ℕ × (Syntax × (ℕ × (Syntax × (ℕ × (ℕ × ℕ))))))) → Syntax
  array_of v = binary (at source symbols kind.Array v.0) (binary (at source symbols kind.Bounds v.1.0) v.1.1.0 v.1.1.1.1.0) (name source symbols v.1.1.1.1.1.1.1)

  abbrev pub constant_of : (ℕ × (ℕ × (Syntax × ℕ))) → Syntax
  constant_of c = unary (named source symbols kind.Constant c.0) c.1.1.0

  abbrev pub variable_of : (ℕ × (List (ℕ × ℕ) × (ℕ × (Syntax × ℕ)))) → Syntax
  variable_of v = binary (bare kind.Variable) (names source symbols v.0 v.1.0) v.1.1.1.0

  abbrev pub constants_of : (ℕ × List (ℕ × (ℕ × (Syntax × ℕ)))) → Syntax
  constants_of v = list constant_of (leaf (at source symbols kind.Constants v.0)) v.1

  abbrev pub variables_of : (ℕ × List (ℕ × (List (ℕ × ℕ) × (ℕ × (Syntax × ℕ))))) → Syntax
  variables_of v = list variable_of (leaf (at source symbols kind.Variables v.0)) v.1

  abbrev pub closes : ℕ → Syntax → Syntax
  closes i b = unary (named source symbols kind.Closing i) b
