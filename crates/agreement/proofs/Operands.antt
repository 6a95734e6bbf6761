-- How many operands an expression needs at a time, bounded by how deep it is enclosed.
use Rattle.std.proofs.Common.{◌≡◌, ℕ, suc, ◌+◌, ◌*◌, ◌≤◌, max, Bool, true, false, cond, ltb, refl, arith}
use Rattle.std.proofs.lemmas.Bool.{ltb-false}
use Rattle.semantics.specs.Program.{Expr, constant, variable, element, unary, binary, member, both, either, call, Args, none, more, arity, Unary, negate, complement, absolute, odd, Binary, add, subtract, multiply, divide, modulo, union, difference, intersection, equal, unequal, less, at_most, greater, at_least, Target, whole, item}
use Rattle.semantics.specs.Extent.{level, binary_level, unary_level, enclosed, left_level, unary_depth, binary_depth, depth, args_depth}

abbrev mutual
  -- how many operands an expression has at most, its value among them
  pub need : Expr → ℕ
  need (constant τ z) = 1
  need (variable v) = 1
  need (element p a e) = max (need e) 2
  need (unary p o e) = need e
  need (binary p o a b) = max (need a) (suc (need b))
  need (member p a b) = max (need a) (suc (need b))
  need (both a b) = max (need a) (need b)
  need (either a b) = max (need a) (need b)
  need (call p g es) = max 1 (args_need es)

  pub args_need : Args → ℕ
  args_need none = 0
  args_need (more e es) = max (need e) (suc (args_need es))

-- a target needs its index and its lower bound
abbrev pub target_need : Target → ℕ
target_need (whole v) = 0
target_need (item p a e) = max (need e) 2

pub need_some : (e : Expr) → 1 ≤ need e
need_some (constant τ z) = omega arith
need_some (variable v) = omega arith
need_some (element p a e) = omega arith
need_some (unary p o e) = need_some e
need_some (binary p o a b) = omega arith
need_some (member p a b) = omega arith
need_some (both a b) = let x = need_some a in omega arith
need_some (either a b) = let x = need_some a in omega arith
need_some (call p g es) = omega arith

-- calls with at most 6 arguments
abbrev mutual
  pub Small : Expr → Type 0
  Small (constant τ z) = Unit {0}
  Small (variable v) = Unit {0}
  Small (element p a e) = Small e
  Small (unary p o e) = Small e
  Small (binary p o a b) = Small a × Small b
  Small (member p a b) = Small a × Small b
  Small (both a b) = Small a × Small b
  Small (either a b) = Small a × Small b
  Small (call p g es) = (arity es ≤ 6) × SmallArgs es

  pub SmallArgs : Args → Type 0
  SmallArgs none = Unit {0}
  SmallArgs (more e es) = Small e × SmallArgs es

-- in a position of the level k, four less k beyond eight for each enclosure
in_position : (n l k d : ℕ) → k ≤ 4 → n + l ≤ 8 * d + 4 → n + k ≤ 8 * enclosed l k d + 4
in_position n l k d h b = by_test (ltb l k) refl
  where
    by_test : (t : Bool) → ltb l k ≡ t → n + k ≤ 8 * cond t (suc d) d + 4
    by_test true e = omega arith
    by_test false e = let f = ltb-false l k e in omega arith

two_sides : (k na la da nb lb db : ℕ) → k ≤ 2 → na + la ≤ 8 * da + 4 → nb + lb ≤ 8 * db + 4 → max na (suc nb) + k ≤ 8 * binary_depth k la da lb db + 4
two_sides k na la da nb lb db h x y =
    let u = in_position na la (left_level k) da (omega arith) x in
    let v = in_position nb lb (suc k) db (omega arith) y in
    let p = enclosed la (left_level k) da in
    let q = enclosed lb (suc k) db in
    by_max (enclosed la (left_level k) da) (enclosed lb (suc k) db) u v
  where
    by_max : (p q : ℕ) → na + max k 1 ≤ 8 * p + 4 → nb + suc k ≤ 8 * q + 4 → max na (suc nb) + k ≤ 8 * max p q + 4
    by_max p q a b = omega arith

binary_low : (o : Binary) → binary_level o ≤ 2
binary_low add = omega arith
binary_low subtract = omega arith
binary_low multiply = omega arith
binary_low divide = omega arith
binary_low modulo = omega arith
binary_low union = omega arith
binary_low difference = omega arith
binary_low intersection = omega arith
binary_low equal = omega arith
binary_low unequal = omega arith
binary_low less = omega arith
binary_low at_most = omega arith
binary_low greater = omega arith
binary_low at_least = omega arith

one_side : (o : Unary) (n l d : ℕ) → n + l ≤ 8 * d + 4 → n + unary_level o ≤ 8 * unary_depth o l d + 4
one_side negate n l d h = let u = in_position n l 2 d (omega arith) h in by_depth (enclosed l 2 d) u
  where
    by_depth : (p : ℕ) → n + 2 ≤ 8 * p + 4 → n + 1 ≤ 8 * p + 4
    by_depth p a = omega arith
one_side complement n l d h = let u = in_position n l 3 d (omega arith) h in by_depth (enclosed l 3 d) u
  where
    by_depth : (p : ℕ) → n + 3 ≤ 8 * p + 4 → n + 3 ≤ 8 * suc p + 4
    by_depth p a = omega arith
one_side absolute n l d h = omega arith
one_side odd n l d h = omega arith

mutual
  need_bound : (e : Expr) → Small e → need e + level e ≤ 8 * depth e + 4
  need_bound (constant τ z) s = omega arith
  need_bound (variable v) s = omega arith
  need_bound (element p a e) s = let x = need_bound e s in omega arith
  need_bound (unary p o e) s = one_side o (need e) (level e) (depth e) (need_bound e s)
  need_bound (binary p o a b) s = two_sides (binary_level o) (need a) (level a) (depth a) (need b) (level b) (depth b) (binary_low o) (need_bound a s.0) (need_bound b s.1)
  need_bound (member p a b) s = two_sides 0 (need a) (level a) (depth a) (need b) (level b) (depth b) (omega arith) (need_bound a s.0) (need_bound b s.1)
  need_bound (both a b) s = let x = two_sides 2 (need a) (level a) (depth a) (need b) (level b) (depth b) (omega arith) (need_bound a s.0) (need_bound b s.1) in less_than (need a) (need b) 2 _ x
    where
      less_than : (m n k d : ℕ) → max m (suc n) + k ≤ d → max m n + k ≤ d
      less_than m n k d h = omega arith
  need_bound (either a b) s = let x = two_sides 1 (need a) (level a) (depth a) (need b) (level b) (depth b) (omega arith) (need_bound a s.0) (need_bound b s.1) in less_than (need a) (need b) 1 _ x
    where
      less_than : (m n k d : ℕ) → max m (suc n) + k ≤ d → max m n + k ≤ d
      less_than m n k d h = omega arith
  need_bound (call p g es) s = let x = args_bound es s.1 in let y = s.0 in omega arith

  args_bound : (es : Args) → SmallArgs es → args_need es ≤ arity es + 8 * args_depth es + 3
  args_bound none s = omega arith
  args_bound (more e es) s = let x = need_bound e s.0 in let y = args_bound es s.1 in omega arith

-- so 132 operands are enough for any expression, and 137 for arguments
pub need_enough : (e : Expr) → Small e → depth e ≤ 16 → need e ≤ 132
need_enough e s h = let x = need_bound e s in omega arith

pub args_enough : (es : Args) → SmallArgs es → arity es ≤ 6 → args_depth es ≤ 16 → args_need es ≤ 137
args_enough es s a h = let x = args_bound es s in omega arith
