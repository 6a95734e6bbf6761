-- The grammar of the language: n is a word that is not reserved, `rep` repeats, and what is in `opt` may be absent.
use Rattle.std.specs.Prelude.{List, [], ◌∷◌}
use Rattle.vocabulary.specs.declared.tag.Tag.{Tag}
use Rattle.vocabulary.specs.declared.tag.Tag.TheVariants as tag
use Rattle.grammar.specs.Ebnf.{factor, statement, G, tok, rep, ref, nest, opt, ◌⨾◌, ◌∣◌}
use Rattle.grammar.specs.Codes.{code, codes}

-- the rules. Of a statement, what begins with a name and the six that begin with a word of their own have rules apart; so have
-- an index, the control of a FOR, and what stands behind a procedure's name
pub data NT : Type 0 where
  Module Decl Proc Heading Pars Body Elem Const Set Range «Type» Stats Stat Action If While Repeat Loop Return For Control Index Args Expr Sum Term Factor : NT

-- one symbol with this tag; with this tag or one of these
abbrev pub sign : Tag → G NT
sign t = tok (code t) []

abbrev pub one : Tag → List Tag → G NT
one t ts = tok (code t) (codes ts)

-- a symbol with this tag, which encloses a factor, or a statement
abbrev pub around : Tag → G NT → G NT
around t g = nest factor (code t) [] g

abbrev pub within : Tag → G NT → G NT
within t g = nest statement (code t) [] g

-- a word that is not reserved
abbrev pub n : G NT
n = sign tag.Identifier

abbrev pub rule : NT → G NT
rule Module = sign tag.Module ⨾ n ⨾ sign tag.Semicolon ⨾ rep (ref Decl ∣ ref Proc) ⨾ ref Body ⨾ n ⨾ sign tag.Period
rule Decl =
    sign tag.Const ⨾ rep (n ⨾ sign tag.Equal ⨾ ref Const ⨾ sign tag.Semicolon)
    ∣ sign tag.Var ⨾ rep (n ⨾ rep (sign tag.Comma ⨾ n) ⨾ sign tag.Colon ⨾ ref «Type» ⨾ sign tag.Semicolon)
rule Proc =
    sign tag.Procedure ⨾ n ⨾ ref Heading ⨾ sign tag.Semicolon ⨾ rep (ref Decl) ⨾ ref Body ⨾ n ⨾ sign tag.Semicolon
rule Heading =
    opt (sign tag.OpenRound ⨾ opt (ref Pars ⨾ rep (sign tag.Semicolon ⨾ ref Pars)) ⨾ sign tag.CloseRound ⨾ opt (sign tag.Colon ⨾ n))
rule Pars = n ⨾ rep (sign tag.Comma ⨾ n) ⨾ sign tag.Colon ⨾ n
rule Body = opt (sign tag.Begin ⨾ ref Stats) ⨾ sign tag.End
rule Elem = opt (sign tag.Minus) ⨾ sign tag.Number ∣ n
rule Const = ref Elem ∣ ref Set
rule Set = sign tag.OpenCurly ⨾ opt (ref Range ⨾ rep (sign tag.Comma ⨾ ref Range)) ⨾ sign tag.CloseCurly
rule Range = ref Elem ⨾ opt (sign tag.Range ⨾ ref Elem)
rule «Type» = n ∣ sign tag.Array ⨾ sign tag.OpenSquare ⨾ ref Elem ⨾ sign tag.Range ⨾ ref Elem ⨾ sign tag.CloseSquare ⨾ sign tag.Of ⨾ n
rule Stats = ref Stat ⨾ rep (sign tag.Semicolon ⨾ ref Stat)
rule Stat = opt (ref Action ∣ sign tag.Exit ∣ ref If ∣ ref While ∣ ref Repeat ∣ ref Loop ∣ ref Return ∣ ref For)
rule Action = n ⨾ (opt (ref Index) ⨾ sign tag.Becomes ⨾ ref Expr ∣ opt (ref Args))
rule If =
    within tag.If (ref Expr ⨾ sign tag.Then ⨾ ref Stats ⨾ rep (sign tag.Elsif ⨾ ref Expr ⨾ sign tag.Then ⨾ ref Stats)
    ⨾ opt (sign tag.Else ⨾ ref Stats) ⨾ sign tag.End)
rule While = within tag.While (ref Expr ⨾ sign tag.Do ⨾ ref Stats ⨾ sign tag.End)
rule Repeat = within tag.Repeat (ref Stats ⨾ sign tag.Until ⨾ ref Expr)
rule Loop = within tag.Loop (ref Stats ⨾ sign tag.End)
rule Return = sign tag.Return ⨾ opt (ref Expr)
rule For = within tag.For (ref Control ⨾ sign tag.Do ⨾ ref Stats ⨾ sign tag.End)
rule Control = n ⨾ sign tag.Becomes ⨾ ref Expr ⨾ sign tag.To ⨾ ref Expr ⨾ opt (sign tag.By ⨾ ref Elem)
rule Index = around tag.OpenSquare (ref Expr ⨾ sign tag.CloseSquare)
rule Args = around tag.OpenRound (opt (ref Expr ⨾ rep (sign tag.Comma ⨾ ref Expr)) ⨾ sign tag.CloseRound)
rule Expr = ref Sum ⨾ opt (one tag.Equal (tag.NotEqual ∷ tag.Less ∷ tag.AtMost ∷ tag.Greater ∷ tag.AtLeast ∷ tag.In ∷ []) ⨾ ref Sum)
rule Sum = opt (one tag.Plus (tag.Minus ∷ [])) ⨾ ref Term ⨾ rep (one tag.Plus (tag.Minus ∷ tag.Or ∷ []) ⨾ ref Term)
rule Term = ref Factor ⨾ rep (one tag.Times (tag.Div ∷ tag.Mod ∷ tag.And ∷ []) ⨾ ref Factor)
rule Factor =
    sign tag.Number ∣ ref Set ∣ n ⨾ opt (ref Index ∣ ref Args)
    ∣ around tag.OpenRound (ref Expr ⨾ sign tag.CloseRound) ∣ around tag.Not (ref Factor)
