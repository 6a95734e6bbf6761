-- The names of operations.
use Rattle.std.specs.Prelude.{ℕ, List, [], codes, Option}
use Rattle.std.specs.List.{find}
use Rattle.std.specs.Str.{bytes_eq}
use Rattle.instructions.specs.declared.operation.Operation.{Operation}
use Rattle.instructions.specs.declared.operation.Operation.TheVariants.{End, Integer, Set, Global, StoreGlobal, Local, StoreLocal, Index, GlobalElement, StoreGlobalElement, LocalElement, StoreLocalElement, Copy, Swap, Add, Subtract, Multiply, Divide, Modulo, Negate, Absolute, Odd, Equal, Unequal, Less, LessEqual, Greater, GreaterEqual, Not, Union, Difference, Intersection, Element, In, Include, Exclude, Jump, JumpIf, JumpUnless, Advance, Channel, Take, Put, Call, Enter, Return, ReturnValue, NoResult, Other}

-- how an operation is written; a number that the table does not have has no name
abbrev pub spelt : Operation → List ℕ
spelt End = codes "End"
spelt Integer = codes "Integer"
spelt Set = codes "Set"
spelt Global = codes "Global"
spelt StoreGlobal = codes "StoreGlobal"
spelt Local = codes "Local"
spelt StoreLocal = codes "StoreLocal"
spelt Index = codes "Index"
spelt GlobalElement = codes "GlobalElement"
spelt StoreGlobalElement = codes "StoreGlobalElement"
spelt LocalElement = codes "LocalElement"
spelt StoreLocalElement = codes "StoreLocalElement"
spelt Copy = codes "Copy"
spelt Swap = codes "Swap"
spelt Add = codes "Add"
spelt Subtract = codes "Subtract"
spelt Multiply = codes "Multiply"
spelt Divide = codes "Divide"
spelt Modulo = codes "Modulo"
spelt Negate = codes "Negate"
spelt Absolute = codes "Absolute"
spelt Odd = codes "Odd"
spelt Equal = codes "Equal"
spelt Unequal = codes "Unequal"
spelt Less = codes "Less"
spelt LessEqual = codes "LessEqual"
spelt Greater = codes "Greater"
spelt GreaterEqual = codes "GreaterEqual"
spelt Not = codes "Not"
spelt Union = codes "Union"
spelt Difference = codes "Difference"
spelt Intersection = codes "Intersection"
spelt Element = codes "Element"
spelt In = codes "In"
spelt Include = codes "Include"
spelt Exclude = codes "Exclude"
spelt Jump = codes "Jump"
spelt JumpIf = codes "JumpIf"
spelt JumpUnless = codes "JumpUnless"
spelt Advance = codes "Advance"
spelt Channel = codes "Channel"
spelt Take = codes "Take"
spelt Put = codes "Put"
spelt Call = codes "Call"
spelt Enter = codes "Enter"
spelt Return = codes "Return"
spelt ReturnValue = codes "ReturnValue"
spelt NoResult = codes "NoResult"
spelt (Other n) = []

-- the first of the operations whose name is the word
abbrev pub named : List Operation → List ℕ → Option Operation
named operations word = find (λ operation. bytes_eq (spelt operation) word) operations
