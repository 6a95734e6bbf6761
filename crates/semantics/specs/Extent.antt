-- How large a program is: the symbols it is written with, and how deep its parts enclose one another.
use Rattle.std.specs.Prelude.{ℕ, suc, ◌+◌, max, cond, List, [], ◌∷◌, nat_lt}
use Rattle.semantics.specs.Program.{Expr, constant, variable, element, unary, binary, member, both, either, call, Args, none, more, Unary, negate, complement, absolute, odd, Binary, add, subtract, multiply, divide, modulo, union, difference, intersection, equal, unequal, less, at_most, greater, at_least, Target, whole, item, Stat, skip, assign, update, take, put, perform, seq, choose, while, repeat, loop, for, exit, return, give, halt, Procedure, Program}

-- how tightly an operator binds: 0 a relation, 1 one that adds, 2 one that multiplies; 3 is a factor
abbrev pub binary_level : Binary → ℕ
binary_level add = 1
binary_level subtract = 1
binary_level multiply = 2
binary_level divide = 2
binary_level modulo = 2
binary_level union = 1
binary_level difference = 1
binary_level intersection = 2
binary_level equal = 0
binary_level unequal = 0
binary_level less = 0
binary_level at_most = 0
binary_level greater = 0
binary_level at_least = 0

abbrev pub unary_level : Unary → ℕ
unary_level negate = 1
unary_level complement = 3
unary_level absolute = 3
unary_level odd = 3

-- how tightly an expression is bound as it is written
abbrev pub level : Expr → ℕ
level (constant τ z) = 3
level (variable v) = 3
level (element p a e) = 3
level (unary p o e) = unary_level o
level (binary p o a b) = binary_level o
level (member p a b) = 0
level (both a b) = 2
level (either a b) = 1
level (call p g es) = 3

-- a part of the level l with d enclosures inside, written where the level k is asked for: in parentheses if it is bound less tightly
abbrev pub enclosed : (l k d : ℕ) → ℕ
enclosed l k d = cond (nat_lt l k) (suc d) d

-- the level that an operator asks of its right side; of its left, its own, but a relation asks for a sum
abbrev pub left_level : ℕ → ℕ
left_level l = max l 1

-- a sign takes a term and NOT a factor; ABS and ODD have an argument in parentheses
abbrev pub unary_depth : Unary → (l d : ℕ) → ℕ
unary_depth negate l d = enclosed l 2 d
unary_depth complement l d = suc (enclosed l 3 d)
unary_depth absolute l d = suc d
unary_depth odd l d = suc d

-- an operator over its two sides
abbrev pub binary_depth : (own : ℕ) → (la da lb db : ℕ) → ℕ
binary_depth k la da lb db = max (enclosed la (left_level k) da) (enclosed lb (suc k) db)

abbrev mutual
  -- the fewest of `(`, `[` and NOT that enclose a factor of the expression, one inside another
  pub depth : Expr → ℕ
  depth (constant τ z) = 0
  depth (variable v) = 0
  depth (element p a e) = suc (depth e)
  depth (unary p o e) = unary_depth o (level e) (depth e)
  depth (binary p o a b) = binary_depth (binary_level o) (level a) (depth a) (level b) (depth b)
  depth (member p a b) = binary_depth 0 (level a) (depth a) (level b) (depth b)
  depth (both a b) = binary_depth 2 (level a) (depth a) (level b) (depth b)
  depth (either a b) = binary_depth 1 (level a) (depth a) (level b) (depth b)
  depth (call p g es) = suc (args_depth es)

  pub args_depth : Args → ℕ
  args_depth none = 0
  args_depth (more e es) = max (depth e) (args_depth es)

-- how many FORs enclose one another in a statement
abbrev pub for_depth : Stat → ℕ
for_depth skip = 0
for_depth (assign t e) = 0
for_depth (update p o t e) = 0
for_depth (take p e t) = 0
for_depth (put p e k) = 0
for_depth (perform p g es) = 0
for_depth (seq s t) = max (for_depth s) (for_depth t)
for_depth (choose e s t) = max (for_depth s) (for_depth t)
for_depth (while e s) = for_depth s
for_depth (repeat s e) = for_depth s
for_depth (loop s) = for_depth s
for_depth (for v a b c s) = suc (for_depth s)
for_depth exit = 0
for_depth return = 0
for_depth (give e) = 0
for_depth halt = 0

-- how many LOOPs enclose one another in a statement
abbrev pub loop_depth : Stat → ℕ
loop_depth skip = 0
loop_depth (assign t e) = 0
loop_depth (update p o t e) = 0
loop_depth (take p e t) = 0
loop_depth (put p e k) = 0
loop_depth (perform p g es) = 0
loop_depth (seq s t) = max (loop_depth s) (loop_depth t)
loop_depth (choose e s t) = max (loop_depth s) (loop_depth t)
loop_depth (while e s) = loop_depth s
loop_depth (repeat s e) = loop_depth s
loop_depth (loop s) = suc (loop_depth s)
loop_depth (for v a b c s) = loop_depth s
loop_depth exit = 0
loop_depth return = 0
loop_depth (give e) = 0
loop_depth halt = 0

abbrev mutual
  -- the fewest symbols that an expression is written with; parentheses are not counted
  pub symbols : Expr → ℕ
  symbols (constant τ z) = 1
  symbols (variable v) = 1
  symbols (element p a e) = 3 + symbols e
  symbols (unary p o e) = 1 + symbols e
  symbols (binary p o a b) = 1 + (symbols a + symbols b)
  symbols (member p a b) = 1 + (symbols a + symbols b)
  symbols (both a b) = 1 + (symbols a + symbols b)
  symbols (either a b) = 1 + (symbols a + symbols b)
  symbols (call p g es) = 1 + args_symbols es

  pub args_symbols : Args → ℕ
  args_symbols none = 0
  args_symbols (more e es) = symbols e + args_symbols es

abbrev pub target_symbols : Target → ℕ
target_symbols (whole v) = 1
target_symbols (item p a e) = 3 + symbols e

-- the fewest symbols of a statement; the constant that INC and DEC may leave out counts as one, and so does an ELSIF's IF
abbrev pub stat_symbols : Stat → ℕ
stat_symbols skip = 0
stat_symbols (assign t e) = 1 + (target_symbols t + symbols e)
stat_symbols (update p o t e) = 2 + (target_symbols t + symbols e)
stat_symbols (take p e t) = 4 + (symbols e + target_symbols t)
stat_symbols (put p e k) = 4 + (symbols e + symbols k)
stat_symbols (perform p g es) = 1 + args_symbols es
stat_symbols (seq s t) = stat_symbols s + stat_symbols t
stat_symbols (choose e s t) = 2 + (symbols e + (stat_symbols s + stat_symbols t))
stat_symbols (while e s) = 3 + (symbols e + stat_symbols s)
stat_symbols (repeat s e) = 2 + (stat_symbols s + symbols e)
stat_symbols (loop s) = 2 + stat_symbols s
stat_symbols (for v a b c s) = 6 + (symbols a + (symbols b + stat_symbols s))
stat_symbols exit = 1
stat_symbols return = 1
stat_symbols (give e) = 1 + symbols e
stat_symbols halt = 1

abbrev pub procedures_symbols : List Procedure → ℕ
procedures_symbols [] = 0
procedures_symbols (f ∷ fs) = 6 + (stat_symbols f.body + procedures_symbols fs)

-- the fewest symbols that a program is written with
abbrev pub program_symbols : Program → ℕ
program_symbols P = 6 + (procedures_symbols P.procedures + stat_symbols P.body)
