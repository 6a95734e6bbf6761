-- The layer and the published number of each kind of fault, and how a fault is shown.
use Rattle.std.specs.Prelude.{ℕ, List, ◌++◌, codes, decimal}
use Rattle.faults.specs.declared.kind.Fault.{Fault}
use Rattle.faults.specs.declared.kind.FaultKind.{FaultKind}
use Rattle.faults.specs.declared.kind.FaultKind.TheVariants.{ListTooShort, SourceTooLong, StrayByte, MalformedNumber, NumberTooLarge, OpenComment, TooManySymbols, ImpossibleSymbol, EnclosedTooDeep, Undeclared, DeclaredTwice, WrongType, ClosingNameDiffers, Misplaced, ForName, ArgumentCount, BadConstant, TooManyWords}
use Rattle.faults.specs.declared.kind.Layer.{Layer}
use Rattle.faults.specs.declared.kind.Layer.TheVariants.{Symbols, Grammar, Meaning}

-- the layer that finds faults of this kind
abbrev pub layer_of : FaultKind → Layer
layer_of ListTooShort = Symbols
layer_of SourceTooLong = Symbols
layer_of StrayByte = Symbols
layer_of MalformedNumber = Symbols
layer_of NumberTooLarge = Symbols
layer_of OpenComment = Symbols
layer_of TooManySymbols = Symbols
layer_of ImpossibleSymbol = Grammar
layer_of EnclosedTooDeep = Grammar
layer_of Undeclared = Meaning
layer_of DeclaredTwice = Meaning
layer_of WrongType = Meaning
layer_of ClosingNameDiffers = Meaning
layer_of Misplaced = Meaning
layer_of ForName = Meaning
layer_of ArgumentCount = Meaning
layer_of BadConstant = Meaning
layer_of TooManyWords = Meaning

-- the number by which the outside knows this kind
abbrev pub number_of : FaultKind → ℕ
number_of ListTooShort = 1
number_of SourceTooLong = 2
number_of StrayByte = 11
number_of MalformedNumber = 12
number_of NumberTooLarge = 13
number_of OpenComment = 14
number_of TooManySymbols = 15
number_of ImpossibleSymbol = 21
number_of EnclosedTooDeep = 22
number_of Undeclared = 31
number_of DeclaredTwice = 32
number_of WrongType = 33
number_of ClosingNameDiffers = 34
number_of Misplaced = 35
number_of ForName = 36
number_of ArgumentCount = 37
number_of BadConstant = 38
number_of TooManyWords = 39

-- a fault as the programs show it: its number and its place
abbrev pub shown : Fault → List ℕ
shown fault = codes "refused " ++ decimal (number_of fault.kind) ++ codes " at " ++ decimal fault.place
