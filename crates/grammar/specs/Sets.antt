-- What each nonterminal of the language can begin with, whether it can be empty, and what can follow it.
use Rattle.std.specs.Prelude.{ℕ, Bool, true, false, List, [], ◌∷◌}
use Rattle.vocabulary.specs.declared.tag.Tag.TheVariants as tag
use Rattle.grammar.specs.Codes.{codes}
use Rattle.grammar.specs.Language.{NT, Module, Decl, Proc, Heading, Pars, Body, Elem, Const, Set, Range, «Type», Stats, Stat, Action, If, While, Repeat, Loop, Return, For, Control, Index, Args, Expr, Sum, Term, Factor}

-- what each can begin with
abbrev pub firsts : NT → List ℕ
firsts Module = codes (tag.Module ∷ [])
firsts Decl = codes (tag.Const ∷ tag.Var ∷ [])
firsts Proc = codes (tag.Procedure ∷ [])
firsts Heading = codes (tag.OpenRound ∷ [])
firsts Pars = codes (tag.Identifier ∷ [])
firsts Body = codes (tag.Begin ∷ tag.End ∷ [])
firsts Elem = codes (tag.Minus ∷ tag.Number ∷ tag.Identifier ∷ [])
firsts Const = codes (tag.Minus ∷ tag.Number ∷ tag.Identifier ∷ tag.OpenCurly ∷ [])
firsts Set = codes (tag.OpenCurly ∷ [])
firsts Range = codes (tag.Minus ∷ tag.Number ∷ tag.Identifier ∷ [])
firsts «Type» = codes (tag.Identifier ∷ tag.Array ∷ [])
firsts Stats = codes (tag.Identifier ∷ tag.Exit ∷ tag.If ∷ tag.While ∷ tag.Repeat ∷ tag.Loop ∷ tag.Return ∷ tag.For ∷ tag.Semicolon ∷ [])
firsts Stat = codes (tag.Identifier ∷ tag.Exit ∷ tag.If ∷ tag.While ∷ tag.Repeat ∷ tag.Loop ∷ tag.Return ∷ tag.For ∷ [])
firsts Action = codes (tag.Identifier ∷ [])
firsts If = codes (tag.If ∷ [])
firsts While = codes (tag.While ∷ [])
firsts Repeat = codes (tag.Repeat ∷ [])
firsts Loop = codes (tag.Loop ∷ [])
firsts Return = codes (tag.Return ∷ [])
firsts For = codes (tag.For ∷ [])
firsts Control = codes (tag.Identifier ∷ [])
firsts Index = codes (tag.OpenSquare ∷ [])
firsts Args = codes (tag.OpenRound ∷ [])
firsts Expr = codes (tag.Plus ∷ tag.Minus ∷ tag.Number ∷ tag.OpenCurly ∷ tag.Identifier ∷ tag.OpenRound ∷ tag.Not ∷ [])
firsts Sum = codes (tag.Plus ∷ tag.Minus ∷ tag.Number ∷ tag.OpenCurly ∷ tag.Identifier ∷ tag.OpenRound ∷ tag.Not ∷ [])
firsts Term = codes (tag.Number ∷ tag.OpenCurly ∷ tag.Identifier ∷ tag.OpenRound ∷ tag.Not ∷ [])
firsts Factor = codes (tag.Number ∷ tag.OpenCurly ∷ tag.Identifier ∷ tag.OpenRound ∷ tag.Not ∷ [])

-- which can be empty
abbrev pub nulls : NT → Bool
nulls Module = false
nulls Decl = false
nulls Proc = false
nulls Heading = true
nulls Pars = false
nulls Body = false
nulls Elem = false
nulls Const = false
nulls Set = false
nulls Range = false
nulls «Type» = false
nulls Stats = true
nulls Stat = true
nulls Action = false
nulls If = false
nulls While = false
nulls Repeat = false
nulls Loop = false
nulls Return = false
nulls For = false
nulls Control = false
nulls Index = false
nulls Args = false
nulls Expr = false
nulls Sum = false
nulls Term = false
nulls Factor = false

-- what can follow each
abbrev pub follows : NT → List ℕ
follows Module = []
follows Decl = codes (tag.Const ∷ tag.Var ∷ tag.Procedure ∷ tag.Begin ∷ tag.End ∷ [])
follows Proc = codes (tag.Const ∷ tag.Var ∷ tag.Procedure ∷ tag.Begin ∷ tag.End ∷ [])
follows Heading = codes (tag.Semicolon ∷ [])
follows Pars = codes (tag.Semicolon ∷ tag.CloseRound ∷ [])
follows Body = codes (tag.Identifier ∷ [])
follows Elem = codes (tag.Semicolon ∷ tag.Range ∷ tag.Comma ∷ tag.CloseCurly ∷ tag.CloseSquare ∷ tag.Do ∷ [])
follows Const = codes (tag.Semicolon ∷ [])
follows Set = codes (tag.Semicolon ∷ tag.Times ∷ tag.Div ∷ tag.Mod ∷ tag.And ∷ tag.Plus ∷ tag.Minus ∷ tag.Or ∷ tag.Equal ∷ tag.NotEqual ∷ tag.Less ∷ tag.AtMost ∷ tag.Greater ∷ tag.AtLeast ∷ tag.In ∷ tag.End ∷ tag.Then ∷ tag.Do ∷ tag.To ∷ tag.By ∷ tag.CloseSquare ∷ tag.Comma ∷ tag.CloseRound ∷ tag.Elsif ∷ tag.Else ∷ tag.Until ∷ [])
follows Range = codes (tag.Comma ∷ tag.CloseCurly ∷ [])
follows «Type» = codes (tag.Semicolon ∷ [])
follows Stats = codes (tag.End ∷ tag.Elsif ∷ tag.Else ∷ tag.Until ∷ [])
follows Stat = codes (tag.Semicolon ∷ tag.End ∷ tag.Elsif ∷ tag.Else ∷ tag.Until ∷ [])
follows Action = codes (tag.Semicolon ∷ tag.End ∷ tag.Elsif ∷ tag.Else ∷ tag.Until ∷ [])
follows If = codes (tag.Semicolon ∷ tag.End ∷ tag.Elsif ∷ tag.Else ∷ tag.Until ∷ [])
follows While = codes (tag.Semicolon ∷ tag.End ∷ tag.Elsif ∷ tag.Else ∷ tag.Until ∷ [])
follows Repeat = codes (tag.Semicolon ∷ tag.End ∷ tag.Elsif ∷ tag.Else ∷ tag.Until ∷ [])
follows Loop = codes (tag.Semicolon ∷ tag.End ∷ tag.Elsif ∷ tag.Else ∷ tag.Until ∷ [])
follows Return = codes (tag.Semicolon ∷ tag.End ∷ tag.Elsif ∷ tag.Else ∷ tag.Until ∷ [])
follows For = codes (tag.Semicolon ∷ tag.End ∷ tag.Elsif ∷ tag.Else ∷ tag.Until ∷ [])
follows Control = codes (tag.Do ∷ [])
follows Index = codes (tag.Becomes ∷ tag.Times ∷ tag.Div ∷ tag.Mod ∷ tag.And ∷ tag.Plus ∷ tag.Minus ∷ tag.Or ∷ tag.Equal ∷ tag.NotEqual ∷ tag.Less ∷ tag.AtMost ∷ tag.Greater ∷ tag.AtLeast ∷ tag.In ∷ tag.Semicolon ∷ tag.End ∷ tag.Then ∷ tag.Do ∷ tag.To ∷ tag.By ∷ tag.CloseSquare ∷ tag.Comma ∷ tag.CloseRound ∷ tag.Elsif ∷ tag.Else ∷ tag.Until ∷ [])
follows Args = codes (tag.Semicolon ∷ tag.End ∷ tag.Times ∷ tag.Div ∷ tag.Mod ∷ tag.And ∷ tag.Plus ∷ tag.Minus ∷ tag.Or ∷ tag.Equal ∷ tag.NotEqual ∷ tag.Less ∷ tag.AtMost ∷ tag.Greater ∷ tag.AtLeast ∷ tag.In ∷ tag.Then ∷ tag.Do ∷ tag.To ∷ tag.By ∷ tag.CloseSquare ∷ tag.Comma ∷ tag.CloseRound ∷ tag.Elsif ∷ tag.Else ∷ tag.Until ∷ [])
follows Expr = codes (tag.Semicolon ∷ tag.End ∷ tag.Then ∷ tag.Do ∷ tag.To ∷ tag.By ∷ tag.CloseSquare ∷ tag.Comma ∷ tag.CloseRound ∷ tag.Elsif ∷ tag.Else ∷ tag.Until ∷ [])
follows Sum = codes (tag.Equal ∷ tag.NotEqual ∷ tag.Less ∷ tag.AtMost ∷ tag.Greater ∷ tag.AtLeast ∷ tag.In ∷ tag.Semicolon ∷ tag.End ∷ tag.Then ∷ tag.Do ∷ tag.To ∷ tag.By ∷ tag.CloseSquare ∷ tag.Comma ∷ tag.CloseRound ∷ tag.Elsif ∷ tag.Else ∷ tag.Until ∷ [])
follows Term = codes (tag.Plus ∷ tag.Minus ∷ tag.Or ∷ tag.Equal ∷ tag.NotEqual ∷ tag.Less ∷ tag.AtMost ∷ tag.Greater ∷ tag.AtLeast ∷ tag.In ∷ tag.Semicolon ∷ tag.End ∷ tag.Then ∷ tag.Do ∷ tag.To ∷ tag.By ∷ tag.CloseSquare ∷ tag.Comma ∷ tag.CloseRound ∷ tag.Elsif ∷ tag.Else ∷ tag.Until ∷ [])
follows Factor = codes (tag.Times ∷ tag.Div ∷ tag.Mod ∷ tag.And ∷ tag.Plus ∷ tag.Minus ∷ tag.Or ∷ tag.Equal ∷ tag.NotEqual ∷ tag.Less ∷ tag.AtMost ∷ tag.Greater ∷ tag.AtLeast ∷ tag.In ∷ tag.Semicolon ∷ tag.End ∷ tag.Then ∷ tag.Do ∷ tag.To ∷ tag.By ∷ tag.CloseSquare ∷ tag.Comma ∷ tag.CloseRound ∷ tag.Elsif ∷ tag.Else ∷ tag.Until ∷ [])

-- each begins with nonterminals of lower ranks only
abbrev pub rank : NT → ℕ
rank Module = 0
rank Decl = 0
rank Proc = 0
rank Heading = 0
rank Pars = 0
rank Body = 0
rank Elem = 0
rank Const = 1
rank Set = 0
rank Range = 1
rank «Type» = 0
rank Stats = 2
rank Stat = 1
rank Action = 0
rank If = 0
rank While = 0
rank Repeat = 0
rank Loop = 0
rank Return = 0
rank For = 0
rank Control = 0
rank Index = 0
rank Args = 0
rank Expr = 4
rank Sum = 3
rank Term = 2
rank Factor = 1
