-- How the symbols of each tag are written, and which words are reserved.
use Rattle.std.specs.Prelude.{ℕ, List, [], ◌∷◌, codes, unwrap_or}
use Rattle.std.specs.List.{find}
use Rattle.std.specs.Str.{bytes_eq}
use Rattle.vocabulary.specs.declared.tag.Tag.{Tag}
use Rattle.vocabulary.specs.declared.tag.Tag.TheVariants.{EndOfSource, And, Array, Begin, By, Case, Const, Definition, Div, Do, Else, Elsif, End, Exit, Export, For, From, If, Implementation, Import, In, Loop, Mod, Module, Not, Of, Or, Pointer, Procedure, Qualified, Record, Repeat, Return, Set, Then, To, «Type», Until, Var, While, With, Identifier, Number, Plus, Minus, Times, Equal, NotEqual, Less, AtMost, Greater, AtLeast, Becomes, Period, Range, Comma, Semicolon, Colon, OpenRound, CloseRound, OpenSquare, CloseSquare, OpenCurly, CloseCurly}

-- how a symbol with this tag is written, or what it is called where that differs from symbol to symbol
abbrev pub spelt : Tag → List ℕ
spelt EndOfSource = codes "end"
spelt And = codes "AND"
spelt Array = codes "ARRAY"
spelt Begin = codes "BEGIN"
spelt By = codes "BY"
spelt Case = codes "CASE"
spelt Const = codes "CONST"
spelt Definition = codes "DEFINITION"
spelt Div = codes "DIV"
spelt Do = codes "DO"
spelt Else = codes "ELSE"
spelt Elsif = codes "ELSIF"
spelt End = codes "END"
spelt Exit = codes "EXIT"
spelt Export = codes "EXPORT"
spelt For = codes "FOR"
spelt From = codes "FROM"
spelt If = codes "IF"
spelt Implementation = codes "IMPLEMENTATION"
spelt Import = codes "IMPORT"
spelt In = codes "IN"
spelt Loop = codes "LOOP"
spelt Mod = codes "MOD"
spelt Module = codes "MODULE"
spelt Not = codes "NOT"
spelt Of = codes "OF"
spelt Or = codes "OR"
spelt Pointer = codes "POINTER"
spelt Procedure = codes "PROCEDURE"
spelt Qualified = codes "QUALIFIED"
spelt Record = codes "RECORD"
spelt Repeat = codes "REPEAT"
spelt Return = codes "RETURN"
spelt Set = codes "SET"
spelt Then = codes "THEN"
spelt To = codes "TO"
spelt «Type» = codes "TYPE"
spelt Until = codes "UNTIL"
spelt Var = codes "VAR"
spelt While = codes "WHILE"
spelt With = codes "WITH"
spelt Identifier = codes "identifier"
spelt Number = codes "number"
spelt Plus = codes "+"
spelt Minus = codes "-"
spelt Times = codes "*"
spelt Equal = codes "="
spelt NotEqual = codes "#"
spelt Less = codes "<"
spelt AtMost = codes "<="
spelt Greater = codes ">"
spelt AtLeast = codes ">="
spelt Becomes = codes ":="
spelt Period = codes "."
spelt Range = codes ".."
spelt Comma = codes ","
spelt Semicolon = codes ";"
spelt Colon = codes ":"
spelt OpenRound = codes "("
spelt CloseRound = codes ")"
spelt OpenSquare = codes "["
spelt CloseSquare = codes "]"
spelt OpenCurly = codes "{"
spelt CloseCurly = codes "}"

-- the forty reserved words
abbrev pub reserved : List Tag
reserved = And ∷ Array ∷ Begin ∷ By ∷ Case ∷ Const ∷ Definition ∷ Div ∷ Do ∷ Else ∷ Elsif ∷ End ∷ Exit ∷ Export ∷ For ∷ From ∷ If ∷ Implementation ∷ Import ∷ In ∷ Loop ∷ Mod ∷ Module ∷ Not ∷ Of ∷ Or ∷ Pointer ∷ Procedure ∷ Qualified ∷ Record ∷ Repeat ∷ Return ∷ Set ∷ Then ∷ To ∷ «Type» ∷ Until ∷ Var ∷ While ∷ With ∷ []

-- the tag among these whose spelling is the word, or an identifier's
abbrev pub named : List Tag → List ℕ → Tag
named tags word = unwrap_or (find (λ tag. bytes_eq (spelt tag) word) tags) Identifier

-- the tag of a word
abbrev pub word_tag : List ℕ → Tag
word_tag word = named reserved word
