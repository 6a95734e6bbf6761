-- A resolved program: names are gone. A variable is found by where it lives, a constant is its value, an operator has its
-- type, a call names a procedure by its number, and every part that can trap, wait, call or be an event keeps its place.
use Rattle.std.specs.Prelude.{ℕ, suc, List, [], ℤ, None, Option, slice_index_or}

-- the types of words
pub data BasicType : Type 0 where
  INTEGER : BasicType
  BOOLEAN : BasicType
  BITSET : BasicType

-- where a variable lives: among the module's words, or among those of the newest activation
pub data Variable : Type 0 where
  global : ℕ → Variable
  local : ℕ → Variable

-- an array: its first word, its lower bound, and how many elements it has
pub record Array : Type 0 where
  pub base : Variable
  pub low : ℤ
  pub size : ℕ

-- operators with one operand
pub data Unary : Type 0 where
  negate : Unary
  complement : Unary
  absolute : Unary
  odd : Unary

-- operators with two, both evaluated before anything is checked
pub data Binary : Type 0 where
  add : Binary
  subtract : Binary
  multiply : Binary
  divide : Binary
  modulo : Binary
  union : Binary
  difference : Binary
  intersection : Binary
  equal : Binary
  unequal : Binary
  less : Binary
  at_most : Binary
  greater : Binary
  at_least : Binary

mutual
  -- expressions, and the arguments of a call
  pub data Expr : Type 0 where
    constant : BasicType → ℤ → Expr
    variable : Variable → Expr
    element : (place : ℕ) → Array → Expr → Expr
    unary : (place : ℕ) → Unary → Expr → Expr
    binary : (place : ℕ) → Binary → Expr → Expr → Expr
    member : (place : ℕ) → Expr → Expr → Expr
    both : Expr → Expr → Expr
    either : Expr → Expr → Expr
    call : (place : ℕ) → (procedure : ℕ) → Args → Expr

  pub data Args : Type 0 where
    none : Args
    more : Expr → Args → Args

-- what a value is stored in
pub data Target : Type 0 where
  whole : Variable → Target
  item : (place : ℕ) → Array → Expr → Target

-- INC, DEC, INCL and EXCL
pub data Update : Type 0 where
  increase : Update
  decrease : Update
  include : Update
  exclude : Update

pub data Stat : Type 0 where
  skip : Stat
  assign : Target → Expr → Stat
  update : (place : ℕ) → Update → Target → Expr → Stat
  take : (place : ℕ) → Expr → Target → Stat
  put : (place : ℕ) → Expr → Expr → Stat
  perform : (place : ℕ) → (procedure : ℕ) → Args → Stat
  seq : Stat → Stat → Stat
  choose : Expr → Stat → Stat → Stat
  while : Expr → Stat → Stat
  repeat : Stat → Expr → Stat
  loop : Stat → Stat
  for : Variable → (start limit : Expr) → (step : ℤ) → Stat → Stat
  exit : Stat
  return : Stat
  give : Expr → Stat
  halt : Stat

-- a procedure: how many of its words are parameters, the types of all its words, its result, its statements, and the place of its END
pub record Procedure : Type 0 where
  pub parameters : ℕ
  pub words : List BasicType
  pub result : Option BasicType
  pub body : Stat
  pub end : ℕ

-- a module: the types of its words, its procedures in order, its statements
pub record Program : Type 0 where
  pub words : List BasicType
  pub procedures : List Procedure
  pub body : Stat

abbrev pub missing : Procedure
missing = record { parameters = 0; words = []; result = None; body = skip; end = 0 }

-- procedure g
abbrev pub procedure : Program → ℕ → Procedure
procedure p g = slice_index_or p.procedures g missing

-- how many arguments there are
abbrev pub arity : Args → ℕ
arity none = 0
arity (more e es) = suc (arity es)
