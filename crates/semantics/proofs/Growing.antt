-- What has happened stays: every part only adds to the trace.
use Rattle.std.proofs.Common.{◌≡◌, ℕ, zero, suc, Bool, true, false, List, [], ◌∷◌, ◌++◌, ℤ, ◌+ℤ◌, nat_abs, Some, None, Option, sym, refl, ap, ◌∙◌, append_assoc}
use Rattle.ports.specs.Calls.{oldest}
use Rattle.ports.specs.Events.{took, set_to}
use Rattle.semantics.specs.Program.{Variable, global, local, Array, Expr, constant, variable, element, unary, binary, member, both, either, call, Args, none, more, Target, whole, item, Stat, skip, assign, update, take, put, perform, seq, choose, while, repeat, loop, for, exit, return, give, halt, Procedure, Program, procedure}
use Rattle.semantics.specs.Values.{fails, unary_answer, binary_answer, binary_trap, updated, update_trap, is_element, is_channel, position, terms}
use Rattle.semantics.specs.State.{Tick, round, activation, event, State, Res, done, stopped, out, Flow, falls, exits, returns, gives, bind, read, store, tick, enter, leaving, leave, trace_of}
use Rattle.semantics.specs.Meaning.{Rec, branch, checked, answered, located, revised, received, resulted, onward, around, openable, for_rounds, eval_with, args_with, target_with, exec_with, exec}

-- the trace of a result is the trace l, with what happened later in front
pub record Adds {A : Type 0} (l : List Tick) (r : Res A) : Type 0 where
  pub later : List Tick
  pub is : trace_of r ≡ later ++ l

nothing : {A : Type 0} {l : List Tick} (r : Res A) → trace_of r ≡ l → Adds l r
nothing r e = record { later = []; is = e }

pub adds_on : {A : Type 0} {l₁ : List Tick} {r : Res A} (l m : List Tick) → l₁ ≡ m ++ l → Adds l₁ r → Adds l r
adds_on l m e a = record { later = a.later ++ m; is = a.is ∙ ap (λ x. a.later ++ x) e ∙ sym (append_assoc a.later m l) }

-- behind one thing that happened
pub adds_one : {A : Type 0} (t : Tick) (l : List Tick) {r : Res A} → Adds (t ∷ l) r → Adds l r
adds_one t l a = adds_on l (t ∷ []) refl a

pub bind_adds : {A B : Type 0} {l : List Tick} (r : Res A) {k : A → State → Res B} → Adds l r → ((a : A) (σ : State) → Adds σ.trace (k a σ)) → Adds l (bind r k)
unfolding bind
bind_adds {l} (done x σ) a f = adds_on l a.later a.is (f x σ)
bind_adds (stopped o σ) a f = record { later = a.later; is = a.is }
bind_adds (out σ) a f = record { later = a.later; is = a.is }

-- nothing happens where a part is done in the same state, stores a value or closes an activation
pub done_adds : {A : Type 0} (a : A) (σ : State) → Adds σ.trace (done a σ)
done_adds a σ = nothing _ refl

store_trace : (v : Variable) (x : ℤ) (σ : State) → (store v x σ).trace ≡ σ.trace
store_trace (global w) x σ = refl
store_trace (local w) x σ = refl

pub store_adds : {A : Type 0} (a : A) (v : Variable) (x : ℤ) (σ : State) → Adds σ.trace (done a (store v x σ))
store_adds a v x σ = nothing _ (store_trace v x σ)

leaving_trace : (ls : List (List ℤ)) (σ : State) → (leaving ls σ).trace ≡ σ.trace
leaving_trace [] σ = refl
leaving_trace (l ∷ ls) σ = refl

pub leave_adds : {A : Type 0} (a : A) (σ : State) → Adds σ.trace (done a (leave σ))
leave_adds a σ = nothing _ (leaving_trace σ.callers σ)

pub branch_adds : {A : Type 0} {l : List Tick} (b : Bool) {r q : Res A} → Adds l r → Adds l q → Adds l (branch b r q)
branch_adds true a e = a
branch_adds false a e = e

pub checked_adds : {A : Type 0} (b : Bool) (n p : ℕ) (σ : State) {r : Res A} → Adds σ.trace r → Adds σ.trace (checked b n p σ r)
checked_adds true n p σ a = a
checked_adds false n p σ a = nothing _ refl

pub answered_adds : (o : Option ℤ) (n p : ℕ) (σ : State) → Adds σ.trace (answered o n p σ)
answered_adds (Some x) n p σ = nothing _ refl
answered_adds None n p σ = nothing _ refl

pub located_adds : (o : Option ℕ) (p : ℕ) (a : Array) (σ : State) → Adds σ.trace (located o p a σ)
located_adds (Some k) p a σ = nothing _ refl
located_adds None p a σ = nothing _ refl

pub revised_adds : (o : Option ℤ) (n p : ℕ) (v : Variable) (σ : State) → Adds σ.trace (revised o n p v σ)
revised_adds (Some x) n p v σ = store_adds falls v x σ
revised_adds None n p v σ = nothing _ refl

pub received_adds : (o : Option ℤ) (c p : ℕ) (v : Variable) (σ : State) → Adds σ.trace (received o c p v σ)
received_adds (Some z) c p v σ = adds_one (event (took c z)) σ.trace (store_adds falls v z _)
received_adds None c p v σ = nothing _ refl

pub resulted_adds : (f : Flow) (g : Procedure) (σ : State) → Adds σ.trace (resulted f g σ)
resulted_adds (gives x) g σ = leave_adds x σ
resulted_adds falls g σ = nothing _ refl
resulted_adds exits g σ = nothing _ refl
resulted_adds returns g σ = nothing _ refl

pub onward_adds : (f : Flow) (σ : State) {r : Res Flow} → Adds σ.trace r → Adds σ.trace (onward f σ r)
onward_adds falls σ a = a
onward_adds exits σ a = nothing _ refl
onward_adds returns σ a = nothing _ refl
onward_adds (gives x) σ a = nothing _ refl

pub around_adds : (f : Flow) (σ : State) {r : Res Flow} → Adds σ.trace r → Adds σ.trace (around f σ r)
around_adds falls σ a = a
around_adds exits σ a = nothing _ refl
around_adds returns σ a = nothing _ refl
around_adds (gives x) σ a = nothing _ refl

pub rounds_adds : (n : ℕ) (v : Variable) (t s : ℤ) (body : State → Res Flow) → ((σ : State) → Adds σ.trace (body σ)) → (σ : State) → Adds σ.trace (for_rounds n v t s body σ)
unfolding for_rounds
rounds_adds zero v t s body h σ = nothing _ refl
rounds_adds (suc n) v t s body h σ =
    adds_one round σ.trace (adds_on (round ∷ σ.trace) [] (store_trace v t (tick round σ)) (bind_adds _ (h (store v t (tick round σ))) λ f σ₁. onward_adds f σ₁ (rounds_adds n v (t +ℤ s) s body h σ₁)))

module _ (P : Program) (rec : Rec) (h : (s : Stat) (σ : State) → Adds σ.trace (rec s σ)) where
  -- the body of a procedure, and what is done behind it
  pub body_adds : {A : Type 0} (g : ℕ) (vs : List ℤ) (σ : State) {k : Flow → State → Res A} → ((f : Flow) (σ₁ : State) → Adds σ₁.trace (k f σ₁)) → Adds σ.trace (bind (rec (procedure P g).body (enter (procedure P g) vs σ)) k)
  body_adds g vs σ f = adds_one activation σ.trace (bind_adds _ (h (procedure P g).body (enter (procedure P g) vs σ)) f)

  mutual
    unfolding eval_with args_with

    pub eval_adds : (e : Expr) (σ : State) → Adds σ.trace (eval_with P rec e σ)
    eval_adds (constant τ z) σ = done_adds z σ
    eval_adds (variable v) σ = done_adds (read v σ) σ
    eval_adds (element p a e) σ = bind_adds _ (eval_adds e σ) λ i σ₁. bind_adds _ (located_adds (position a i) p a σ₁) λ v σ₂. done_adds (read v σ₂) σ₂
    eval_adds (unary p o e) σ = bind_adds _ (eval_adds e σ) λ x σ₁. answered_adds (unary_answer o x) 1 p σ₁
    eval_adds (binary p o a b) σ = bind_adds _ (eval_adds a σ) λ x σ₁. bind_adds _ (eval_adds b σ₁) λ y σ₂. answered_adds (binary_answer o x y) (binary_trap o) p σ₂
    eval_adds (member p a b) σ = bind_adds _ (eval_adds a σ) λ x σ₁. checked_adds (is_element x) 5 p σ₁ (bind_adds _ (eval_adds b σ₁) λ s σ₂. done_adds _ σ₂)
    eval_adds (both a b) σ = bind_adds _ (eval_adds a σ) λ x σ₁. branch_adds (fails x) (done_adds _ σ₁) (eval_adds b σ₁)
    eval_adds (either a b) σ = bind_adds _ (eval_adds a σ) λ x σ₁. branch_adds (fails x) (eval_adds b σ₁) (done_adds _ σ₁)
    eval_adds (call p g es) σ = bind_adds _ (args_adds es σ) λ vs σ₁. checked_adds (openable σ₁) 6 p σ₁ (body_adds g vs σ₁ λ f σ₂. resulted_adds f (procedure P g) σ₂)

    pub args_adds : (es : Args) (σ : State) → Adds σ.trace (args_with P rec es σ)
    args_adds none σ = done_adds _ σ
    args_adds (more e es) σ = bind_adds _ (eval_adds e σ) λ x σ₁. bind_adds _ (args_adds es σ₁) λ xs σ₂. done_adds _ σ₂

  pub target_adds : (t : Target) (σ : State) → Adds σ.trace (target_with P rec t σ)
  unfolding target_with
  target_adds (whole v) σ = done_adds v σ
  target_adds (item p a e) σ = bind_adds _ (eval_adds e σ) λ i σ₁. located_adds (position a i) p a σ₁

  pub stat_adds : (s : Stat) (σ : State) → Adds σ.trace (exec_with P rec s σ)
  unfolding exec_with
  stat_adds skip σ = done_adds falls σ
  stat_adds (assign t e) σ = bind_adds _ (target_adds t σ) λ v σ₁. bind_adds _ (eval_adds e σ₁) λ x σ₂. store_adds falls v x σ₂
  stat_adds (update p o t e) σ = bind_adds _ (target_adds t σ) λ v σ₁. bind_adds _ (eval_adds e σ₁) λ k σ₂. revised_adds (updated o (read v σ₂) k) (update_trap o) p v σ₂
  stat_adds (take p e t) σ =
      bind_adds _ (eval_adds e σ) λ c σ₁. checked_adds (is_channel c) 4 p σ₁
      (bind_adds _ (target_adds t σ₁) λ v σ₂. received_adds (oldest (σ₂.port (nat_abs c)).waiting) (nat_abs c) p v σ₂)
  stat_adds (put p e k) σ =
      bind_adds _ (eval_adds e σ) λ c σ₁. checked_adds (is_channel c) 4 p σ₁
      (bind_adds _ (eval_adds k σ₁) λ x σ₂. adds_one (event (set_to (nat_abs c) x)) σ₂.trace (done_adds falls _))
  stat_adds (perform p g es) σ = bind_adds _ (args_adds es σ) λ vs σ₁. checked_adds (openable σ₁) 6 p σ₁ (body_adds g vs σ₁ λ f σ₂. leave_adds falls σ₂)
  stat_adds (seq s t) σ = bind_adds _ (stat_adds s σ) λ f σ₁. onward_adds f σ₁ (stat_adds t σ₁)
  stat_adds (choose e s t) σ = bind_adds _ (eval_adds e σ) λ x σ₁. branch_adds (fails x) (stat_adds t σ₁) (stat_adds s σ₁)
  stat_adds (while e s) σ =
      bind_adds _ (eval_adds e σ) λ x σ₁. branch_adds (fails x) (done_adds falls σ₁)
      (adds_one round σ₁.trace (bind_adds _ (stat_adds s (tick round σ₁)) λ f σ₂. onward_adds f σ₂ (h (while e s) σ₂)))
  stat_adds (repeat s e) σ =
      adds_one round σ.trace (bind_adds _ (stat_adds s (tick round σ)) λ f σ₁. onward_adds f σ₁
      (bind_adds _ (eval_adds e σ₁) λ x σ₂. branch_adds (fails x) (h (repeat s e) σ₂) (done_adds falls σ₂)))
  stat_adds (loop s) σ = adds_one round σ.trace (bind_adds _ (stat_adds s (tick round σ)) λ f σ₁. around_adds f σ₁ (h (loop s) σ₁))
  stat_adds (for v a b c s) σ = bind_adds _ (eval_adds a σ) λ x σ₁. bind_adds _ (eval_adds b σ₁) λ y σ₂. rounds_adds (terms x y c) v x c (exec_with P rec s) (stat_adds s) σ₂
  stat_adds exit σ = done_adds exits σ
  stat_adds return σ = done_adds returns σ
  stat_adds (give e) σ = bind_adds _ (eval_adds e σ) λ x σ₁. done_adds (gives x) σ₁
  stat_adds halt σ = nothing _ refl

pub exec_adds : (P : Program) (n : ℕ) (s : Stat) (σ : State) → Adds σ.trace (exec P n s σ)
unfolding exec
exec_adds P zero s σ = nothing _ refl
exec_adds P (suc n) s σ = stat_adds P (exec P n) (exec_adds P n) s σ
