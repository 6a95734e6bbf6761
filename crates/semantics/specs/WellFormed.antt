-- Which resolved programs are well formed: every part names what there is, and has the type that is asked for there.
-- Each clause compares numbers, types or lists of types, so it can be decided.
use Rattle.std.specs.Prelude.{◌≡◌, ℕ, ◌<◌, ◌≤◌, Bool, true, false, T, List, [], ◌∷◌, length, take, drop, replicate, pos, Some, None, Option, ◌≢◌}
use Rattle.std.proofs.Math.Option.{some}
use Rattle.std.proofs.Math.ListN.{get_elem?}
use Rattle.std.specs.List.{AllByRecursion}
use Rattle.semantics.specs.Program.{BasicType, INTEGER, BOOLEAN, BITSET, Variable, global, local, Array, Unary, negate, complement, absolute, odd, Binary, add, subtract, multiply, divide, modulo, union, difference, intersection, equal, unequal, less, at_most, greater, at_least, Expr, constant, variable, element, unary, binary, member, both, either, call, Args, none, more, Target, whole, item, Update, increase, decrease, include, exclude, Stat, skip, assign, update, take as take_sample, put, perform, seq, choose, while, repeat, loop, for, exit, return, give, halt, Procedure, Program, procedure}
use Rattle.semantics.specs.Values.{Value}
use Rattle.semantics.specs.Extent.{depth, args_depth, for_depth, loop_depth, program_symbols}

-- where statements stand: in the module, in a procedure without a result, or in a function
pub data BlockKind : Type 0 where
  in_module : BlockKind
  in_procedure : BlockKind
  in_function : BasicType → BlockKind

-- a block: its kind, and the types of its own words
pub record Block : Type 0 where
  pub kind : BlockKind
  pub words : List BasicType

abbrev pub kind_of : Option BasicType → BlockKind
kind_of (Some τ) = in_function τ
kind_of None = in_procedure

-- the block of a procedure, and that of the module
abbrev pub block : Procedure → Block
block f = record { kind = kind_of f.result; words = f.words }

abbrev pub module_block : Block
module_block = record { kind = in_module; words = [] }

-- what an operator takes, and what it gives
abbrev pub unary_takes : Unary → BasicType
unary_takes negate = INTEGER
unary_takes complement = BOOLEAN
unary_takes absolute = INTEGER
unary_takes odd = INTEGER

abbrev pub unary_gives : Unary → BasicType
unary_gives negate = INTEGER
unary_gives complement = BOOLEAN
unary_gives absolute = INTEGER
unary_gives odd = BOOLEAN

-- = and # compare values of any one type
abbrev pub Takes : Binary → BasicType → Type 0
Takes add υ = υ ≡ INTEGER
Takes subtract υ = υ ≡ INTEGER
Takes multiply υ = υ ≡ INTEGER
Takes divide υ = υ ≡ INTEGER
Takes modulo υ = υ ≡ INTEGER
Takes union υ = υ ≡ BITSET
Takes difference υ = υ ≡ BITSET
Takes intersection υ = υ ≡ BITSET
Takes equal υ = Unit {0}
Takes unequal υ = Unit {0}
Takes less υ = υ ≡ INTEGER
Takes at_most υ = υ ≡ INTEGER
Takes greater υ = υ ≡ INTEGER
Takes at_least υ = υ ≡ INTEGER

abbrev pub binary_gives : Binary → BasicType
binary_gives add = INTEGER
binary_gives subtract = INTEGER
binary_gives multiply = INTEGER
binary_gives divide = INTEGER
binary_gives modulo = INTEGER
binary_gives union = BITSET
binary_gives difference = BITSET
binary_gives intersection = BITSET
binary_gives equal = BOOLEAN
binary_gives unequal = BOOLEAN
binary_gives less = BOOLEAN
binary_gives at_most = BOOLEAN
binary_gives greater = BOOLEAN
binary_gives at_least = BOOLEAN

-- INC and DEC change an INTEGER, INCL and EXCL a BITSET
abbrev pub changes : Update → BasicType
changes increase = INTEGER
changes decrease = INTEGER
changes include = BITSET
changes exclude = BITSET

-- how deep parts may enclose one another
abbrev pub deepest : ℕ
deepest = 16

module _ (P : Program) (B : Block) where
  -- the words that a variable is one of
  abbrev pub words_of : Variable → List BasicType
  words_of (global w) = P.words
  words_of (local w) = B.words

  -- which of them
  abbrev pub place_of : Variable → ℕ
  place_of (global w) = w
  place_of (local w) = w

  -- the variable is there and has the type
  abbrev pub Holds : Variable → BasicType → Type 0
  Holds v τ = get_elem? (words_of v) (place_of v) ≡ some τ

  -- the array's words are there and have the type, and its lower bound is an INTEGER
  abbrev pub ArrayOf : Array → BasicType → Type 0
  ArrayOf a τ = Value INTEGER a.low × (take a.size (drop (place_of a.base) (words_of a.base)) ≡ replicate a.size τ)

  abbrev mutual
    -- an expression of the type
    pub WellTyped : Expr → BasicType → Type 0
    WellTyped (constant υ z) τ = (υ ≡ τ) × Value τ z
    WellTyped (variable v) τ = Holds v τ
    WellTyped (element p a e) τ = ArrayOf a τ × WellTyped e INTEGER
    WellTyped (unary p o e) τ = (unary_gives o ≡ τ) × WellTyped e (unary_takes o)
    WellTyped (binary p o a b) τ = (binary_gives o ≡ τ) × ((υ : BasicType) × (Takes o υ × (WellTyped a υ × WellTyped b υ)))
    WellTyped (member p a b) τ = (BOOLEAN ≡ τ) × (WellTyped a INTEGER × WellTyped b BITSET)
    WellTyped (both a b) τ = (BOOLEAN ≡ τ) × (WellTyped a BOOLEAN × WellTyped b BOOLEAN)
    WellTyped (either a b) τ = (BOOLEAN ≡ τ) × (WellTyped a BOOLEAN × WellTyped b BOOLEAN)
    WellTyped (call p g es) τ = (g < length P.procedures) × (((procedure P g).result ≡ Some τ) × Arguments es (take (procedure P g).parameters (procedure P g).words))

    -- arguments of these types
    pub Arguments : Args → List BasicType → Type 0
    Arguments none [] = Unit {0}
    Arguments none (τ ∷ τs) = ⊥
    Arguments (more e es) [] = ⊥
    Arguments (more e es) (τ ∷ τs) = WellTyped e τ × Arguments es τs

  -- an expression of the type that is not enclosed too deep
  abbrev pub Fits : Expr → BasicType → Type 0
  Fits e τ = WellTyped e τ × (depth e ≤ deepest)

  -- a variable or an element of the type
  abbrev pub Stores : Target → BasicType → Type 0
  Stores (whole v) τ = Holds v τ
  Stores (item p a e) τ = ArrayOf a τ × Fits e INTEGER

  -- RETURN may stand there: not in the module, where it is the end, and with a value in a function only
  abbrev pub Returns : BlockKind → Type 0
  Returns in_module = ⊥
  Returns in_procedure = Unit {0}
  Returns (in_function τ) = ⊥

  abbrev pub Gives : BlockKind → Expr → Type 0
  Gives in_module e = ⊥
  Gives in_procedure e = ⊥
  Gives (in_function τ) e = Fits e τ

  -- a statement, in a LOOP or not
  abbrev pub Statement : Bool → Stat → Type 0
  Statement l skip = Unit {0}
  Statement l (assign t e) = (τ : BasicType) × (Stores t τ × Fits e τ)
  Statement l (update p o t e) = Stores t (changes o) × Fits e INTEGER
  Statement l (take_sample p e t) = Fits e INTEGER × Stores t INTEGER
  Statement l (put p e k) = Fits e INTEGER × Fits k INTEGER
  Statement l (perform p g es) = (g < length P.procedures) × (((procedure P g).result ≡ None) × (Arguments es (take (procedure P g).parameters (procedure P g).words) × (args_depth es ≤ deepest)))
  Statement l (seq s t) = Statement l s × Statement l t
  Statement l (choose e s t) = Fits e BOOLEAN × (Statement l s × Statement l t)
  Statement l (while e s) = Fits e BOOLEAN × Statement l s
  Statement l (repeat s e) = Statement l s × Fits e BOOLEAN
  Statement l (loop s) = Statement true s
  Statement l (for v a b c s) = Holds v INTEGER × (Fits a INTEGER × (Fits b INTEGER × (Value INTEGER c × ((c ≢ pos 0) × Statement l s))))
  Statement l exit = T l
  Statement l return = Returns B.kind
  Statement l (give e) = Gives B.kind e
  Statement l halt = Unit {0}

-- a procedure: at most 6 parameters, at most 32 words, loops at most 16 deep
pub record WellFormedProcedure (P : Program) (f : Procedure) : Type 0 where
  pub parameters : f.parameters ≤ 6
  pub among : f.parameters ≤ length f.words
  pub words : length f.words ≤ 32
  pub fors : for_depth f.body ≤ deepest
  pub loops : loop_depth f.body ≤ deepest
  pub body : Statement P (block f) false f.body

-- a program: at most 1,024 global words, at most 1,024 symbols
pub record WellFormed (P : Program) : Type 0 where
  pub words : length P.words ≤ 1024
  pub symbols : program_symbols P ≤ 1024
  pub procedures : AllByRecursion (WellFormedProcedure P) P.procedures
  pub fors : for_depth P.body ≤ deepest
  pub loops : loop_depth P.body ≤ deepest
  pub body : Statement P module_block false P.body
