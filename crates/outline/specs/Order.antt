-- The lines of an outline: which records are shown, in what order and how deep.
use Rattle.std.specs.Prelude.{ℕ, ◌+◌, Bool, true, false, cond, List, [], ◌∷◌, ◌++◌}
use Rattle.syntax.specs.declared.tree.NodeKind.{NodeKind}
use Rattle.syntax.specs.declared.tree.NodeKind.TheVariants as kind
use Rattle.syntax.specs.Syntax.{Syntax, leaf, unary, binary, size}
use Rattle.outline.specs.declared.order.Line.{Line}

-- a node that only joins others, or stands for nothing
abbrev pub joining : NodeKind → Bool
joining kind.Empty = true
joining kind.Link = true
joining kind.Number = false
joining kind.Negative = false
joining kind.Name = false
joining kind.Range = false
joining kind.Set = false
joining kind.Element = false
joining kind.Index = false
joining kind.Call = false
joining kind.Group = false
joining kind.Unary = false
joining kind.Binary = false
joining kind.Sequence = true
joining kind.Assign = false
joining kind.Exit = false
joining kind.If = false
joining kind.Arm = false
joining kind.While = false
joining kind.Repeat = false
joining kind.Loop = false
joining kind.Return = false
joining kind.For = false
joining kind.Control = false
joining kind.Terms = false
joining kind.Limits = false
joining kind.Body = false
joining kind.Closing = false
joining kind.Constants = false
joining kind.Constant = false
joining kind.Variables = false
joining kind.Variable = false
joining kind.Array = false
joining kind.Bounds = false
joining kind.Parameters = false
joining kind.Heading = false
joining kind.Procedure = false
joining kind.Block = false
joining kind.Module = false

-- the line of the node at index i; a joining node has none
abbrev pub line : NodeKind → ℕ → ℕ → List Line
line k i d = cond (joining k) [] (record { index = i; depth = d } ∷ [])

-- how deep its parts stand
abbrev pub inner : NodeKind → ℕ → ℕ
inner k d = cond (joining k) d (d + 1)

-- the lines of a tree whose records lie from index n on: the node's, then those of its parts in the order of the source
abbrev pub outlined : Syntax → ℕ → ℕ → List Line
outlined (leaf l) n d = line l.kind n d
outlined (unary l a) n d = line l.kind (n + size a) d ++ outlined a n (inner l.kind d)
outlined (binary l a b) n d = (line l.kind (n + size a + size b) d ++ outlined a n (inner l.kind d)) ++ outlined b (n + size a) (inner l.kind d)
