-- The symbols of the grammar: each tag has a number of its own, and the end of the source 0.
use Rattle.std.specs.Prelude.{ℕ, List, [], ◌∷◌}
use Rattle.vocabulary.specs.declared.tag.Tag.{Tag}
use Rattle.vocabulary.specs.declared.tag.Tag.TheVariants.{EndOfSource, And, Array, Begin, By, Case, Const, Definition, Div, Do, Else, Elsif, End, Exit, Export, For, From, If, Implementation, Import, In, Loop, Mod, Module, Not, Of, Or, Pointer, Procedure, Qualified, Record, Repeat, Return, Set, Then, To, «Type», Until, Var, While, With, Identifier, Number, Plus, Minus, Times, Equal, NotEqual, Less, AtMost, Greater, AtLeast, Becomes, Period, Range, Comma, Semicolon, Colon, OpenRound, CloseRound, OpenSquare, CloseSquare, OpenCurly, CloseCurly}

-- the number of a tag
abbrev pub code : Tag → ℕ
code EndOfSource = 0
code And = 1
code Array = 2
code Begin = 3
code By = 4
code Case = 5
code Const = 6
code Definition = 7
code Div = 8
code Do = 9
code Else = 10
code Elsif = 11
code End = 12
code Exit = 13
code Export = 14
code For = 15
code From = 16
code If = 17
code Implementation = 18
code Import = 19
code In = 20
code Loop = 21
code Mod = 22
code Module = 23
code Not = 24
code Of = 25
code Or = 26
code Pointer = 27
code Procedure = 28
code Qualified = 29
code Record = 30
code Repeat = 31
code Return = 32
code Set = 33
code Then = 34
code To = 35
code «Type» = 36
code Until = 37
code Var = 38
code While = 39
code With = 40
code Identifier = 41
code Number = 42
code Plus = 43
code Minus = 44
code Times = 45
code Equal = 46
code NotEqual = 47
code Less = 48
code AtMost = 49
code Greater = 50
code AtLeast = 51
code Becomes = 52
code Period = 53
code Range = 54
code Comma = 55
code Semicolon = 56
code Colon = 57
code OpenRound = 58
code CloseRound = 59
code OpenSquare = 60
code CloseSquare = 61
code OpenCurly = 62
code CloseCurly = 63

-- the numbers of several
abbrev pub codes : List Tag → List ℕ
codes [] = []
codes (t ∷ ts) = code t ∷ codes ts
