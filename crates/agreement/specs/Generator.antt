-- The code of a resolved program. Where a part ends is known from where it begins, so every jump's target is known and no
-- instruction is written twice. Jumps to a lower index are those for a loop's next round.
use Rattle.std.specs.Prelude.{ℕ, zero, suc, ◌+◌, ◌-◌, ◌*◌, cond, List, [], ◌∷◌, ◌++◌, length, drop, ℤ, pos, negsuc, Some, None, Option, int_le, unsigned_abs}
use Rattle.instructions.specs.declared.instruction.Instruction.{Instruction}
use Rattle.instructions.specs.declared.operation.Operation.{Operation}
use Rattle.instructions.specs.declared.operation.Operation.TheVariants as op
use Rattle.semantics.specs.Program.{BasicType, INTEGER, BOOLEAN, BITSET, Variable, global, local, Unary, negate, complement, absolute, odd, Binary, add, subtract, multiply, divide, modulo, union, difference, intersection, equal, unequal, less, at_most, greater, at_least, Expr, constant, variable, element, unary, binary, member, both, either, call, Args, none, more, arity, Target, whole, item, Update, increase, decrease, include, exclude, Stat, skip, assign, update, take, put, perform, seq, choose, while, repeat, loop, for, exit, return, give, halt, Procedure, Program}
use Rattle.semantics.specs.Extent.{for_depth}

-- an instruction with its operand and the place that its trap or wait answers
abbrev pub at_place : ℕ → Operation → ℕ → Instruction
at_place p o n = record { operation = o; operand = n; place = p }

-- an instruction that neither traps nor waits here
abbrev pub plain : Operation → ℕ → Instruction
plain o n = at_place 0 o n

-- an INTEGER as an operand
abbrev pub encoded : ℤ → ℕ
encoded (pos n) = n
encoded (negsuc n) = 65535 - n

abbrev pub constant_code : BasicType → ℤ → Instruction
constant_code INTEGER z = plain op.Integer (encoded z)
constant_code BOOLEAN z = plain op.Integer (encoded z)
constant_code BITSET z = plain op.Set (unsigned_abs z)

-- loads and stores a variable
abbrev pub load : Variable → Instruction
load (global w) = plain op.Global w
load (local w) = plain op.Local w

abbrev pub store : Variable → Instruction
store (global w) = plain op.StoreGlobal w
store (local w) = plain op.StoreLocal w

-- loads and stores the element whose number is among the operands
abbrev pub load_element : Variable → Instruction
load_element (global w) = plain op.GlobalElement w
load_element (local w) = plain op.LocalElement w

abbrev pub store_element : Variable → Instruction
store_element (global w) = plain op.StoreGlobalElement w
store_element (local w) = plain op.StoreLocalElement w

abbrev pub unary_operation : Unary → Operation
unary_operation negate = op.Negate
unary_operation complement = op.Not
unary_operation absolute = op.Absolute
unary_operation odd = op.Odd

abbrev pub binary_operation : Binary → Operation
binary_operation add = op.Add
binary_operation subtract = op.Subtract
binary_operation multiply = op.Multiply
binary_operation divide = op.Divide
binary_operation modulo = op.Modulo
binary_operation union = op.Union
binary_operation difference = op.Difference
binary_operation intersection = op.Intersection
binary_operation equal = op.Equal
binary_operation unequal = op.Unequal
binary_operation less = op.Less
binary_operation at_most = op.LessEqual
binary_operation greater = op.Greater
binary_operation at_least = op.GreaterEqual

-- changes a variable's value, the newest operand, by the one below it
abbrev pub update_code : ℕ → Update → List Instruction
update_code p increase = at_place p op.Add 0 ∷ []
update_code p decrease = plain op.Swap 0 ∷ at_place p op.Subtract 0 ∷ []
update_code p include = at_place p op.Include 0 ∷ []
update_code p exclude = at_place p op.Exclude 0 ∷ []

abbrev pub update_end : Update → ℕ → ℕ
update_end increase p = suc p
update_end decrease p = suc (suc p)
update_end include p = suc p
update_end exclude p = suc p

-- n indexes on
abbrev pub further : ℕ → ℕ → ℕ
further zero p = p
further (suc n) p = suc (further n p)

abbrev mutual
  -- where the code of an expression that begins at p ends
  pub expr_end : Expr → ℕ → ℕ
  expr_end (constant τ z) p = suc p
  expr_end (variable v) p = suc p
  expr_end (element pl a e) p = suc (suc (suc (expr_end e p)))
  expr_end (unary pl o e) p = suc (expr_end e p)
  expr_end (binary pl o a b) p = suc (expr_end b (expr_end a p))
  expr_end (member pl a b) p = suc (expr_end b (suc (expr_end a p)))
  expr_end (both a b) p = suc (suc (expr_end b (suc (expr_end a p))))
  expr_end (either a b) p = suc (suc (expr_end b (suc (expr_end a p))))
  expr_end (call pl g es) p = suc (args_end es p)

  pub args_end : Args → ℕ → ℕ
  args_end none p = p
  args_end (more e es) p = args_end es (expr_end e p)

-- a target leaves the number of its element, if it is one
abbrev pub target_end : Target → ℕ → ℕ
target_end (whole v) p = p
target_end (item pl a e) p = suc (suc (expr_end e p))

-- the value of a target is loaded while a word is above the element's number
abbrev pub fetch_end : Target → ℕ → ℕ
fetch_end (whole v) p = suc p
fetch_end (item pl a e) p = suc (suc p)

-- the channel is brought above the element's number
abbrev pub raise_end : Target → ℕ → ℕ
raise_end (whole v) p = p
raise_end (item pl a e) p = suc p

-- where the code of a statement that begins at p ends
abbrev pub stat_end : Stat → ℕ → ℕ
stat_end skip p = p
stat_end (assign t e) p = suc (expr_end e (target_end t p))
stat_end (update pl o t e) p = suc (update_end o (fetch_end t (expr_end e (target_end t p))))
stat_end (take pl e t) p = suc (suc (raise_end t (target_end t (suc (expr_end e p)))))
stat_end (put pl e k) p = suc (expr_end k (suc (expr_end e p)))
stat_end (perform pl g es) p = suc (args_end es p)
stat_end (seq s t) p = stat_end t (stat_end s p)
stat_end (choose e s t) p = stat_end t (suc (stat_end s (suc (expr_end e p))))
stat_end (while e s) p = suc (stat_end s (suc (expr_end e p)))
stat_end (repeat s e) p = suc (expr_end e (stat_end s p))
stat_end (loop s) p = suc (stat_end s p)
stat_end (for v a b c s) p = further 6 (stat_end s (further 7 (expr_end b (suc (expr_end a p)))))
stat_end exit p = suc p
stat_end return p = suc p
stat_end (give e) p = suc (expr_end e p)
stat_end halt p = suc p

-- a procedure begins with an Enter and ends with a Return, or a NoResult
abbrev pub procedure_end : Procedure → ℕ → ℕ
procedure_end f p = suc (stat_end f.body (suc p))

-- where procedure g begins, the first of them at p
unfoldable pub entry : List Procedure → ℕ → ℕ → ℕ
entry [] p g = p
entry (f ∷ fs) p zero = p
entry (f ∷ fs) p (suc g) = entry fs (procedure_end f p) g

-- the procedures stand behind the first instruction, which jumps to the module's
abbrev pub first : ℕ
first = 1

-- a call: the operand is 4,096 times the number of arguments, and the target
abbrev pub call_code : Program → ℕ → ℕ → Args → Instruction
call_code P pl g es = at_place pl op.Call (arity es * 4096 + entry P.procedures first g)

module _ (P : Program) where
  abbrev mutual
    -- the code of an expression that begins at p: it leaves its value
    pub expr_code : Expr → ℕ → List Instruction
    expr_code (constant τ z) p = constant_code τ z ∷ []
    expr_code (variable v) p = load v ∷ []
    expr_code (element pl a e) p = expr_code e p ++ (constant_code INTEGER a.low ∷ at_place pl op.Index a.size ∷ load_element a.base ∷ [])
    expr_code (unary pl o e) p = expr_code e p ++ (at_place pl (unary_operation o) 0 ∷ [])
    expr_code (binary pl o a b) p = expr_code a p ++ (expr_code b (expr_end a p) ++ (at_place pl (binary_operation o) 0 ∷ []))
    expr_code (member pl a b) p = expr_code a p ++ (at_place pl op.Element 0 ∷ (expr_code b (suc (expr_end a p)) ++ (at_place pl op.In 0 ∷ [])))
    expr_code (both a b) p =
        expr_code a p ++ (plain op.JumpUnless (suc (expr_end b (suc (expr_end a p))))
        ∷ (expr_code b (suc (expr_end a p)) ++ (plain op.Jump (expr_end (both a b) p) ∷ plain op.Integer 0 ∷ [])))
    expr_code (either a b) p =
        expr_code a p ++ (plain op.JumpIf (suc (expr_end b (suc (expr_end a p))))
        ∷ (expr_code b (suc (expr_end a p)) ++ (plain op.Jump (expr_end (either a b) p) ∷ plain op.Integer 1 ∷ [])))
    expr_code (call pl g es) p = args_code es p ++ (call_code P pl g es ∷ [])

    pub args_code : Args → ℕ → List Instruction
    args_code none p = []
    args_code (more e es) p = expr_code e p ++ args_code es (expr_end e p)

  -- an index is checked before anything else is evaluated
  abbrev pub target_code : Target → ℕ → List Instruction
  target_code (whole v) p = []
  target_code (item pl a e) p = expr_code e p ++ (constant_code INTEGER a.low ∷ at_place pl op.Index a.size ∷ [])

  abbrev pub fetch_code : Target → List Instruction
  fetch_code (whole v) = load v ∷ []
  fetch_code (item pl a e) = plain op.Copy 1 ∷ load_element a.base ∷ []

  abbrev pub raise_code : Target → List Instruction
  raise_code (whole v) = []
  raise_code (item pl a e) = plain op.Swap 0 ∷ []

  abbrev pub keep_code : Target → Instruction
  keep_code (whole v) = store v
  keep_code (item pl a e) = store_element a.base

  -- the first test of a FOR
  abbrev pub first_test : ℤ → Operation
  first_test c = cond (int_le (pos 0) c) op.LessEqual op.GreaterEqual

  -- the code of a statement that begins at p, in a block of so many words; d FORs enclose it, and an EXIT goes to x
  module _ (words : ℕ) where
    abbrev pub stat_code : (d x : ℕ) → Stat → ℕ → List Instruction
    stat_code d x skip p = []
    stat_code d x (assign t e) p = target_code t p ++ (expr_code e (target_end t p) ++ (keep_code t ∷ []))
    stat_code d x (update pl o t e) p = target_code t p ++ (expr_code e (target_end t p) ++ (fetch_code t ++ (update_code pl o ++ (keep_code t ∷ []))))
    stat_code d x (take pl e t) p =
        expr_code e p ++ (at_place pl op.Channel 0 ∷ (target_code t (suc (expr_end e p)) ++ (raise_code t ++ (at_place pl op.Take 0 ∷ keep_code t ∷ []))))
    stat_code d x (put pl e k) p = expr_code e p ++ (at_place pl op.Channel 0 ∷ (expr_code k (suc (expr_end e p)) ++ (at_place pl op.Put 0 ∷ [])))
    stat_code d x (perform pl g es) p = args_code es p ++ (call_code P pl g es ∷ [])
    stat_code d x (seq s t) p = stat_code d x s p ++ stat_code d x t (stat_end s p)
    stat_code d x (choose e s t) p =
        expr_code e p ++ (plain op.JumpUnless (suc (stat_end s (suc (expr_end e p))))
        ∷ (stat_code d x s (suc (expr_end e p)) ++ (plain op.Jump (stat_end (choose e s t) p)
        ∷ stat_code d x t (suc (stat_end s (suc (expr_end e p)))))))
    stat_code d x (while e s) p =
        expr_code e p ++ (plain op.JumpUnless (stat_end (while e s) p) ∷ (stat_code d x s (suc (expr_end e p)) ++ (plain op.Jump p ∷ [])))
    stat_code d x (repeat s e) p = stat_code d x s p ++ (expr_code e (stat_end s p) ++ (plain op.JumpUnless p ∷ []))
    stat_code d x (loop s) p = stat_code d (stat_end (loop s) p) s p ++ (plain op.Jump p ∷ [])
    stat_code d x (for v a b c s) p =
        expr_code a p ++ (plain op.StoreLocal (words + 2 * d) ∷ (expr_code b (suc (expr_end a p)) ++ (plain op.StoreLocal (suc (words + 2 * d))
        ∷ plain op.Local (words + 2 * d) ∷ plain op.Local (suc (words + 2 * d)) ∷ plain (first_test c) 0 ∷ plain op.JumpUnless (stat_end (for v a b c s) p)
        ∷ plain op.Local (words + 2 * d) ∷ store v ∷ (stat_code (suc d) x s (further 7 (expr_end b (suc (expr_end a p))))
        ++ (plain op.Local (words + 2 * d) ∷ plain op.Local (suc (words + 2 * d)) ∷ constant_code INTEGER c ∷ plain op.Advance 0
        ∷ plain op.StoreLocal (words + 2 * d) ∷ plain op.JumpIf (further 5 (expr_end b (suc (expr_end a p)))) ∷ [])))))
    stat_code d x exit p = plain op.Jump x ∷ []
    stat_code d x return p = plain op.Return 0 ∷ []
    stat_code d x (give e) p = expr_code e p ++ (plain op.ReturnValue 0 ∷ [])
    stat_code d x halt p = plain op.End 0 ∷ []

  -- the end of a function is a trap
  abbrev pub closing : Option BasicType → ℕ → Instruction
  closing (Some τ) pl = at_place pl op.NoResult 0
  closing None pl = plain op.Return 0

  -- behind the parameters, a procedure's other words and two for each FOR that encloses others
  abbrev pub procedure_code : Procedure → ℕ → List Instruction
  procedure_code f p =
      plain op.Enter (length (drop f.parameters f.words) + 2 * for_depth f.body)
      ∷ (stat_code (length f.words) 0 0 f.body (suc p) ++ (closing f.result f.end ∷ []))

  abbrev pub procedures_code : List Procedure → ℕ → List Instruction
  procedures_code [] p = []
  procedures_code (f ∷ fs) p = procedure_code f p ++ procedures_code fs (procedure_end f p)

-- where the procedures end
abbrev pub procedures_end : List Procedure → ℕ → ℕ
procedures_end [] p = p
procedures_end (f ∷ fs) p = procedures_end fs (procedure_end f p)

-- where the module's own code begins
abbrev pub module_start : Program → ℕ
module_start P = procedures_end P.procedures first

-- the code of a program
unfoldable pub generate : Program → List Instruction
generate P =
    plain op.Jump (module_start P) ∷ (procedures_code P P.procedures first
    ++ (plain op.Enter (2 * for_depth P.body) ∷ (stat_code P 0 0 0 P.body (suc (module_start P)) ++ (plain op.End 0 ∷ []))))
