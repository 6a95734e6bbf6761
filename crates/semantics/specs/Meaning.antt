-- What a program means, by structural recursion. What is no part of a statement, the next round of a loop and the body of
-- a procedure, is handed in; fuel bounds how often that is done. Parts are evaluated from left to right.
use Rattle.std.specs.Prelude.{ℕ, zero, suc, Bool, true, false, List, [], ◌∷◌, length, ℤ, pos, ◌+ℤ◌, Some, None, Option, nat_lt, unsigned_abs}
use Rattle.ports.specs.Calls.{oldest}
use Rattle.ports.specs.Channels.{Meaning}
use Rattle.ports.specs.Events.{took, set_to}
use Rattle.semantics.specs.Program.{Variable, Array, Expr, constant, variable, element, unary, binary, member, both, either, call, Args, none, more, Target, whole, item, Stat, skip, assign, update, take, put, perform, seq, choose, while, repeat, loop, for, exit, return, give, halt, Procedure, Program, procedure}
use Rattle.semantics.specs.Values.{fails, unary_answer, binary_answer, binary_trap, updated, update_trap, is_element, contained, is_channel, position, terms}
use Rattle.semantics.specs.State.{State, ended, trap, waits, Res, done, stopped, out, Flow, falls, exits, returns, gives, bind, read, store, behind, tick, round, happened, enter, leave, begin}

-- the first of two ways where the test holds, else the second
abbrev pub branch : {A : Type 0} → Bool → Res A → Res A → Res A
branch true r q = r
branch false r q = q

-- goes on where the test holds, else traps
abbrev pub checked : {A : Type 0} → Bool → (number place : ℕ) → State → Res A → Res A
checked true n p σ r = r
checked false n p σ r = stopped (trap n p) σ

-- an answer, or a trap where there is none
abbrev pub answered : Option ℤ → (number place : ℕ) → State → Res ℤ
answered (Some x) n p σ = done x σ
answered None n p σ = stopped (trap n p) σ

-- the word of the element that an index names, or trap 3
abbrev pub located : Option ℕ → (place : ℕ) → Array → State → Res Variable
located (Some k) p a σ = done (behind a.base k) σ
located None p a σ = stopped (trap 3 p) σ

-- stores what a variable becomes, or traps
abbrev pub revised : Option ℤ → (number place : ℕ) → Variable → State → Res Flow
revised (Some x) n p v σ = done falls (store v x σ)
revised None n p v σ = stopped (trap n p) σ

-- stores the oldest sample of a channel, or waits for one
abbrev pub received : Option ℤ → (channel place : ℕ) → Variable → State → Res Flow
received (Some z) c p v σ = done falls (store v z (happened (took c z) σ))
received None c p v σ = stopped (waits c p) σ

-- a function's result; one that comes to its END has none, which is trap 7
abbrev pub resulted : Flow → Procedure → State → Res ℤ
resulted (gives x) f σ = done x (leave σ)
resulted falls f σ = stopped (trap 7 f.end) σ
resulted exits f σ = stopped (trap 7 f.end) σ
resulted returns f σ = stopped (trap 7 f.end) σ

-- behind a statement: the next, unless it left
abbrev pub onward : Flow → State → Res Flow → Res Flow
onward falls σ r = r
onward exits σ r = done exits σ
onward returns σ r = done returns σ
onward (gives x) σ r = done (gives x) σ

-- behind the body of a LOOP: the next round, or by EXIT what comes behind the LOOP
abbrev pub around : Flow → State → Res Flow → Res Flow
around falls σ r = r
around exits σ r = done falls σ
around returns σ r = done returns σ
around (gives x) σ r = done (gives x) σ

-- so many activations can be open besides the module
abbrev pub most_open : ℕ
most_open = 32

-- another activation can be opened
abbrev pub openable : State → Bool
openable σ = nat_lt (length σ.callers) most_open

-- what is done with a statement that is no part of the one at hand
abbrev pub Rec : Type 0
Rec = Stat → State → Res Flow

-- n rounds of a FOR: its variable receives the term, then its body is executed; the terms ignore what else writes the variable
unfoldable pub for_rounds : ℕ → Variable → (term step : ℤ) → (State → Res Flow) → State → Res Flow
for_rounds zero v t s body σ = done falls σ
for_rounds (suc n) v t s body σ = bind (body (store v t (tick round σ))) (λ f σ₁. onward f σ₁ (for_rounds n v (t +ℤ s) s body σ₁))

module _ (P : Program) (rec : Rec) where
  unfoldable mutual
    -- the value of an expression
    pub eval_with : Expr → State → Res ℤ
    eval_with (constant τ z) σ = done z σ
    eval_with (variable v) σ = done (read v σ) σ
    eval_with (element p a e) σ = bind (eval_with e σ) (λ i σ₁. bind (located (position a i) p a σ₁) (λ v σ₂. done (read v σ₂) σ₂))
    eval_with (unary p o e) σ = bind (eval_with e σ) (λ x σ₁. answered (unary_answer o x) 1 p σ₁)
    eval_with (binary p o a b) σ = bind (eval_with a σ) (λ x σ₁. bind (eval_with b σ₁) (λ y σ₂. answered (binary_answer o x y) (binary_trap o) p σ₂))
    eval_with (member p a b) σ = bind (eval_with a σ) (λ x σ₁. checked (is_element x) 5 p σ₁ (bind (eval_with b σ₁) (λ s σ₂. done (contained x s) σ₂)))
    eval_with (both a b) σ = bind (eval_with a σ) (λ x σ₁. branch (fails x) (done (pos 0) σ₁) (eval_with b σ₁))
    eval_with (either a b) σ = bind (eval_with a σ) (λ x σ₁. branch (fails x) (eval_with b σ₁) (done (pos 1) σ₁))
    eval_with (call p g es) σ =
        bind (args_with es σ) (λ vs σ₁. checked (openable σ₁) 6 p σ₁
        (bind (rec (procedure P g).body (enter (procedure P g) vs σ₁)) (λ f σ₂. resulted f (procedure P g) σ₂)))

    -- the values of arguments
    pub args_with : Args → State → Res (List ℤ)
    args_with none σ = done [] σ
    args_with (more e es) σ = bind (eval_with e σ) (λ x σ₁. bind (args_with es σ₁) (λ xs σ₂. done (x ∷ xs) σ₂))

  -- where a target lives
  unfoldable pub target_with : Target → State → Res Variable
  target_with (whole v) σ = done v σ
  target_with (item p a e) σ = bind (eval_with e σ) (λ i σ₁. located (position a i) p a σ₁)

  -- what a statement does
  unfoldable pub exec_with : Stat → State → Res Flow
  exec_with skip σ = done falls σ
  exec_with (assign t e) σ = bind (target_with t σ) (λ v σ₁. bind (eval_with e σ₁) (λ x σ₂. done falls (store v x σ₂)))
  exec_with (update p o t e) σ = bind (target_with t σ) (λ v σ₁. bind (eval_with e σ₁) (λ k σ₂. revised (updated o (read v σ₂) k) (update_trap o) p v σ₂))
  exec_with (take p e t) σ =
      bind (eval_with e σ) (λ c σ₁. checked (is_channel c) 4 p σ₁
      (bind (target_with t σ₁) (λ v σ₂. received (oldest (σ₂.port (unsigned_abs c)).waiting) (unsigned_abs c) p v σ₂)))
  exec_with (put p e k) σ =
      bind (eval_with e σ) (λ c σ₁. checked (is_channel c) 4 p σ₁
      (bind (eval_with k σ₁) (λ x σ₂. done falls (happened (set_to (unsigned_abs c) x) σ₂))))
  exec_with (perform p g es) σ =
      bind (args_with es σ) (λ vs σ₁. checked (openable σ₁) 6 p σ₁
      (bind (rec (procedure P g).body (enter (procedure P g) vs σ₁)) (λ f σ₂. done falls (leave σ₂))))
  exec_with (seq s t) σ = bind (exec_with s σ) (λ f σ₁. onward f σ₁ (exec_with t σ₁))
  exec_with (choose e s t) σ = bind (eval_with e σ) (λ x σ₁. branch (fails x) (exec_with t σ₁) (exec_with s σ₁))
  exec_with (while e s) σ =
      bind (eval_with e σ) (λ x σ₁. branch (fails x) (done falls σ₁)
      (bind (exec_with s (tick round σ₁)) (λ f σ₂. onward f σ₂ (rec (while e s) σ₂))))
  exec_with (repeat s e) σ =
      bind (exec_with s (tick round σ)) (λ f σ₁. onward f σ₁
      (bind (eval_with e σ₁) (λ x σ₂. branch (fails x) (rec (repeat s e) σ₂) (done falls σ₂))))
  exec_with (loop s) σ = bind (exec_with s (tick round σ)) (λ f σ₁. around f σ₁ (rec (loop s) σ₁))
  exec_with (for v a b c s) σ = bind (eval_with a σ) (λ x σ₁. bind (eval_with b σ₁) (λ y σ₂. for_rounds (terms x y c) v x c (exec_with s) σ₂))
  exec_with exit σ = done exits σ
  exec_with return σ = done returns σ
  exec_with (give e) σ = bind (eval_with e σ) (λ x σ₁. done (gives x) σ₁)
  exec_with halt σ = stopped ended σ

-- what a statement does with so much fuel
unfoldable pub exec : Program → ℕ → Rec
exec P zero s σ = out σ
exec P (suc n) s σ = exec_with P (exec P n) s σ

-- the module body's END and a RETURN in it end the reading
abbrev pub concluded : Res Flow → Res Flow
concluded (done f σ) = stopped ended σ
concluded (stopped o σ) = stopped o σ
concluded (out σ) = out σ

-- the reading of a program on a port, with so much fuel
unfoldable pub reading : Program → Meaning → ℕ → Res Flow
reading P m n = concluded (exec P n P.body (begin P m))
