-- Syntax trees, and the records that hold one: each part's records lie before the next part's, and the node's own comes last.
use Rattle.std.specs.Prelude.{◌≡◌, ℕ, suc, ◌+◌, ◌-◌, List, [], ◌∷◌, ◌++◌}
use Rattle.vocabulary.specs.declared.tag.Tag.{Tag}
use Rattle.syntax.specs.declared.tree.NodeKind.{NodeKind}
use Rattle.syntax.specs.declared.tree.NodeKind.TheVariants as kind
use Rattle.syntax.specs.declared.tree.TreeRecord.{TreeRecord}

-- what a node is: its kind, its operator, its place, and a number's value or a name's length
pub record Label : Type 0 where
  pub kind : NodeKind
  pub operator : Tag
  pub place : ℕ
  pub value : ℕ

abbrev pub label : NodeKind → Tag → ℕ → ℕ → Label
label k o p v = record { kind = k; operator = o; place = p; value = v }

-- a node with no part, one, or two
pub data Syntax : Type 0 where
  leaf : Label → Syntax
  unary : Label → Syntax → Syntax
  binary : Label → Syntax → Syntax → Syntax

-- the number of its records
abbrev pub size : Syntax → ℕ
size (leaf l) = 1
size (unary l a) = suc (size a)
size (binary l a b) = suc (size a + size b)

-- the record of a node, with the indexes of its parts
abbrev pub entry : Label → ℕ → ℕ → TreeRecord
entry l first second =
    record { kind = l.kind; operator = l.operator; place = l.place; value = l.value; first = first; second = second }

-- the records of a tree, from index n on
abbrev pub lay : Syntax → ℕ → List TreeRecord
lay (leaf l) n = entry l 0 0 ∷ []
lay (unary l a) n = lay a n ++ (entry l (n + size a - 1) 0 ∷ [])
lay (binary l a b) n = lay a n ++ (lay b (n + size a) ++ (entry l (n + size a - 1) (n + size a + size b - 1) ∷ []))

-- how many parts a node of each kind has
abbrev pub parts : NodeKind → ℕ
parts kind.Empty = 0
parts kind.Link = 2
parts kind.Number = 0
parts kind.Negative = 0
parts kind.Name = 0
parts kind.Range = 2
parts kind.Set = 1
parts kind.Element = 1
parts kind.Index = 1
parts kind.Call = 1
parts kind.Group = 1
parts kind.Unary = 1
parts kind.Binary = 2
parts kind.Sequence = 2
parts kind.Assign = 2
parts kind.Exit = 0
parts kind.If = 2
parts kind.Arm = 2
parts kind.While = 2
parts kind.Repeat = 2
parts kind.Loop = 1
parts kind.Return = 1
parts kind.For = 2
parts kind.Control = 1
parts kind.Terms = 2
parts kind.Limits = 2
parts kind.Body = 1
parts kind.Closing = 1
parts kind.Constants = 0
parts kind.Constant = 1
parts kind.Variables = 0
parts kind.Variable = 2
parts kind.Array = 2
parts kind.Bounds = 2
parts kind.Parameters = 2
parts kind.Heading = 2
parts kind.Procedure = 2
parts kind.Block = 2
parts kind.Module = 2

-- every node has as many parts as its kind says
abbrev pub Shaped : Syntax → Type 0
Shaped (leaf l) = parts l.kind ≡ 0
Shaped (unary l a) = (parts l.kind ≡ 1) × Shaped a
Shaped (binary l a b) = (parts l.kind ≡ 2) × Shaped a × Shaped b

-- where an expression begins: an operator between two operands stands behind the first of them
abbrev pub begin : Syntax → ℕ
begin (leaf l) = l.place
begin (unary l a) = l.place
begin (binary l a b) = begin a
