-- The number of each operation, and what each asks of the port.
use Rattle.std.specs.Prelude.{ℕ, cond, List, [], ◌∷◌, length, Some, None, Option, nat_lt, slice_index_or}
use Rattle.instructions.specs.declared.answers.PortCall.{PortCall}
use Rattle.instructions.specs.declared.answers.PortCall.TheVariants.{Take as TakeCall, Set as SetCall}
use Rattle.instructions.specs.declared.operation.Operation.{Operation}
use Rattle.instructions.specs.declared.operation.Operation.TheVariants.{End, Integer, Set, Global, StoreGlobal, Local, StoreLocal, Index, GlobalElement, StoreGlobalElement, LocalElement, StoreLocalElement, Copy, Swap, Add, Subtract, Multiply, Divide, Modulo, Negate, Absolute, Odd, Equal, Unequal, Less, LessEqual, Greater, GreaterEqual, Not, Union, Difference, Intersection, Element, In, Include, Exclude, Jump, JumpIf, JumpUnless, Advance, Channel, Take, Put, Call, Enter, Return, ReturnValue, NoResult, Other}

-- the operations, each at its number
abbrev pub table : List Operation
table =
    End ∷ Integer ∷ Set ∷ Global ∷ StoreGlobal ∷ Local ∷ StoreLocal ∷ Index ∷
    GlobalElement ∷ StoreGlobalElement ∷ LocalElement ∷ StoreLocalElement ∷ Copy ∷ Swap ∷ Add ∷ Subtract ∷
    Multiply ∷ Divide ∷ Modulo ∷ Negate ∷ Absolute ∷ Odd ∷ Equal ∷ Unequal ∷
    Less ∷ LessEqual ∷ Greater ∷ GreaterEqual ∷ Not ∷ Union ∷ Difference ∷ Intersection ∷
    Element ∷ In ∷ Include ∷ Exclude ∷ Jump ∷ JumpIf ∷ JumpUnless ∷ Advance ∷
    Channel ∷ Take ∷ Put ∷ Call ∷ Enter ∷ Return ∷ ReturnValue ∷ NoResult ∷ []

-- the operation of a number
abbrev pub operation_of : ℕ → Operation
operation_of n = cond (nat_lt n (length table)) (slice_index_or table n End) (Other n)

-- the number of an operation
abbrev pub number_of : Operation → ℕ
number_of End = 0
number_of Integer = 1
number_of Set = 2
number_of Global = 3
number_of StoreGlobal = 4
number_of Local = 5
number_of StoreLocal = 6
number_of Index = 7
number_of GlobalElement = 8
number_of StoreGlobalElement = 9
number_of LocalElement = 10
number_of StoreLocalElement = 11
number_of Copy = 12
number_of Swap = 13
number_of Add = 14
number_of Subtract = 15
number_of Multiply = 16
number_of Divide = 17
number_of Modulo = 18
number_of Negate = 19
number_of Absolute = 20
number_of Odd = 21
number_of Equal = 22
number_of Unequal = 23
number_of Less = 24
number_of LessEqual = 25
number_of Greater = 26
number_of GreaterEqual = 27
number_of Not = 28
number_of Union = 29
number_of Difference = 30
number_of Intersection = 31
number_of Element = 32
number_of In = 33
number_of Include = 34
number_of Exclude = 35
number_of Jump = 36
number_of JumpIf = 37
number_of JumpUnless = 38
number_of Advance = 39
number_of Channel = 40
number_of Take = 41
number_of Put = 42
number_of Call = 43
number_of Enter = 44
number_of Return = 45
number_of ReturnValue = 46
number_of NoResult = 47
number_of (Other n) = n

-- what an operation asks of the port: a sample, to set a value, or nothing
abbrev pub asks : Operation → Option PortCall
asks Take = Some TakeCall
asks Put = Some SetCall
asks _ = None
