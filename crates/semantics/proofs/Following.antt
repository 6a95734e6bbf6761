-- Two executions side by side, the second on an altered port and with its own way to go on: they do the same, up to where the
-- first is out of fuel or waits for what the second has.
use Rattle.std.proofs.Common.{◌≡◌, ℕ, zero, suc, Bool, true, false, ◌⊎◌, List, [], ◌∷◌, ℤ, ◌+ℤ◌, nat_abs, Some, None, Option, sym, refl, subst, inl, inr}
use Rattle.ports.specs.Calls.{oldest}
use Rattle.ports.specs.Channels.{Meaning}
use Rattle.ports.specs.Events.{Event, took, set_to, left}
use Rattle.semantics.specs.Program.{Variable, global, local, Array, Expr, constant, variable, element, unary, binary, member, both, either, call, Args, none, more, Target, whole, item, Stat, skip, assign, update, take, put, perform, seq, choose, while, repeat, loop, for, exit, return, give, halt, Procedure, Program, procedure}
use Rattle.semantics.specs.Values.{fails, unary_answer, binary_answer, binary_trap, updated, update_trap, is_element, is_channel, position, terms}
use Rattle.semantics.specs.State.{round, event, State, Outcome, waits, Res, done, stopped, out, Flow, falls, exits, returns, gives, bind, read, store, tick, happened, enter, leaving}
use Rattle.semantics.specs.Meaning.{Rec, branch, checked, answered, located, revised, received, resulted, onward, around, openable, for_rounds, eval_with, args_with, target_with, exec_with}
use Rattle.semantics.proofs.Growing.{Adds, adds_one, bind_adds, done_adds, store_adds, leave_adds, branch_adds, checked_adds, answered_adds, located_adds, revised_adds, received_adds, resulted_adds, onward_adds, around_adds, rounds_adds, body_adds, eval_adds, args_adds, target_adds, stat_adds}

-- the state with its port altered
abbrev pub altered : (Meaning → Meaning) → State → State
altered j σ = record { globals = σ.globals; locals = σ.locals; callers = σ.callers; port = j σ.port; trace = σ.trace }

-- how two results compare: the same but for the port; or the first is out of fuel, where Short, or waits on a channel that has
-- more samples in the second, where Fed, and then the second has gone on from there
pub data Follows (j : Meaning → Meaning) (Short : Type 0) (Fed : ℕ → Type 0) {A : Type 0} : Res A → Res A → Type 0 where
  as_done : (a : A) (σ : State) → Follows j Short Fed (done a σ) (done a (altered j σ))
  as_stopped : (o : Outcome) (σ : State) → Follows j Short Fed (stopped o σ) (stopped o (altered j σ))
  as_out : (σ : State) → Follows j Short Fed (out σ) (out (altered j σ))
  more_fuel : Short → (σ : State) (r : Res A) → Adds σ.trace r → Follows j Short Fed (out σ) r
  more_samples : (c p : ℕ) → Fed c → (σ : State) (r : Res A) → Adds σ.trace r → Follows j Short Fed (stopped (waits c p) σ) r

-- an alteration that Puts and Takes pass by; only where a channel is Fed does a Take find a sample that it did not find before
pub record PassedBy (j : Meaning → Meaning) (Fed : ℕ → Type 0) : Type 0 where
  pub sets : (c : ℕ) (x : ℤ) (m : Meaning) → j (left (set_to c x) m) ≡ left (set_to c x) (j m)
  pub finds : (c : ℕ) (z : ℤ) (m : Meaning) → oldest (m c).waiting ≡ Some z → oldest (j m c).waiting ≡ Some z
  pub takes : (c : ℕ) (z : ℤ) (m : Meaning) → oldest (m c).waiting ≡ Some z → j (left (took c z) m) ≡ left (took c z) (j m)
  pub lacks : (c : ℕ) (m : Meaning) → oldest (m c).waiting ≡ None → Fed c ⊎ (oldest (j m c).waiting ≡ None)

module _ (j : Meaning → Meaning) (Short : Type 0) (Fed : ℕ → Type 0) where
  abbrev pub Beside : {A : Type 0} → Res A → Res A → Type 0
  Beside r q = Follows j Short Fed r q

  bind_follows : {A B : Type 0} {r r₁ : Res A} {k k₁ : A → State → Res B} → Beside r r₁ → ((a : A) (σ : State) → Beside (k a σ) (k₁ a (altered j σ))) → ((a : A) (σ : State) → Adds σ.trace (k₁ a σ)) → Beside (bind r k) (bind r₁ k₁)
  unfolding bind
  bind_follows (as_done a σ) f g = f a σ
  bind_follows (as_stopped o σ) f g = as_stopped o σ
  bind_follows (as_out σ) f g = as_out σ
  bind_follows (more_fuel w σ r a) f g = more_fuel w σ _ (bind_adds r a g)
  bind_follows (more_samples c p w σ r a) f g = more_samples c p w σ _ (bind_adds r a g)

  read_follows : (v : Variable) (σ : State) → Beside (done (read v σ) σ) (done (read v (altered j σ)) (altered j σ))
  read_follows (global w) σ = as_done _ σ
  read_follows (local w) σ = as_done _ σ

  store_altered : (v : Variable) (x : ℤ) (σ : State) → altered j (store v x σ) ≡ store v x (altered j σ)
  store_altered (global w) x σ = refl
  store_altered (local w) x σ = refl

  store_follows : (v : Variable) (x : ℤ) (σ : State) → Beside (done falls (store v x σ)) (done falls (store v x (altered j σ)))
  store_follows v x σ = subst (λ τ. Beside (done falls (store v x σ)) (done falls τ)) (store_altered v x σ) (as_done falls (store v x σ))

  leaving_follows : {A : Type 0} (a : A) (ls : List (List ℤ)) (σ : State) → Beside (done a (leaving ls σ)) (done a (leaving ls (altered j σ)))
  leaving_follows a [] σ = as_done a σ
  leaving_follows a (l ∷ ls) σ = as_done a _

  branch_follows : {A : Type 0} (b : Bool) {r q r₁ q₁ : Res A} → Beside r r₁ → Beside q q₁ → Beside (branch b r q) (branch b r₁ q₁)
  branch_follows true f g = f
  branch_follows false f g = g

  checked_follows : {A : Type 0} (b : Bool) (n p : ℕ) (σ : State) {r r₁ : Res A} → Beside r r₁ → Beside (checked b n p σ r) (checked b n p (altered j σ) r₁)
  checked_follows true n p σ f = f
  checked_follows false n p σ f = as_stopped _ σ

  answered_follows : (o : Option ℤ) (n p : ℕ) (σ : State) → Beside (answered o n p σ) (answered o n p (altered j σ))
  answered_follows (Some x) n p σ = as_done x σ
  answered_follows None n p σ = as_stopped _ σ

  located_follows : (o : Option ℕ) (p : ℕ) (a : Array) (σ : State) → Beside (located o p a σ) (located o p a (altered j σ))
  located_follows (Some k) p a σ = as_done _ σ
  located_follows None p a σ = as_stopped _ σ

  revised_follows : (o : Option ℤ) (n p : ℕ) (v : Variable) (σ : State) → Beside (revised o n p v σ) (revised o n p v (altered j σ))
  revised_follows (Some x) n p v σ = store_follows v x σ
  revised_follows None n p v σ = as_stopped _ σ

  read_altered : (v : Variable) (σ : State) → read v σ ≡ read v (altered j σ)
  read_altered (global w) σ = refl
  read_altered (local w) σ = refl

  resulted_follows : (f : Flow) (g : Procedure) (σ : State) → Beside (resulted f g σ) (resulted f g (altered j σ))
  resulted_follows (gives x) g σ = leaving_follows x σ.callers σ
  resulted_follows falls g σ = as_stopped _ σ
  resulted_follows exits g σ = as_stopped _ σ
  resulted_follows returns g σ = as_stopped _ σ

  onward_follows : (f : Flow) (σ : State) {r r₁ : Res Flow} → Beside r r₁ → Beside (onward f σ r) (onward f (altered j σ) r₁)
  onward_follows falls σ b = b
  onward_follows exits σ b = as_done exits σ
  onward_follows returns σ b = as_done returns σ
  onward_follows (gives x) σ b = as_done _ σ

  around_follows : (f : Flow) (σ : State) {r r₁ : Res Flow} → Beside r r₁ → Beside (around f σ r) (around f (altered j σ) r₁)
  around_follows falls σ b = b
  around_follows exits σ b = as_done falls σ
  around_follows returns σ b = as_done returns σ
  around_follows (gives x) σ b = as_done _ σ

  rounds_follow : (n : ℕ) (v : Variable) (t s : ℤ) (body body₁ : State → Res Flow) → ((σ : State) → Beside (body σ) (body₁ (altered j σ))) → ((σ : State) → Adds σ.trace (body₁ σ)) → (σ : State) → Beside (for_rounds n v t s body σ) (for_rounds n v t s body₁ (altered j σ))
  unfolding for_rounds
  rounds_follow zero v t s body body₁ u h σ = as_done falls σ
  rounds_follow (suc n) v t s body body₁ u h σ =
      bind_follows (subst (λ τ. Beside (body (store v t (tick round σ))) (body₁ τ)) (store_altered v t (tick round σ)) (u (store v t (tick round σ))))
      (λ f σ₁. onward_follows f σ₁ (rounds_follow n v (t +ℤ s) s body body₁ u h σ₁)) (λ f σ₁. onward_adds f σ₁ (rounds_adds n v (t +ℤ s) s body₁ h σ₁))

  module _ (by : PassedBy j Fed) where
    -- an event beside the same one
    event_altered : (e : Event) (σ : State) → j (left e σ.port) ≡ left e (j σ.port) → altered j (happened e σ) ≡ happened e (altered j σ)
    event_altered e σ q = λ i. record { globals = σ.globals; locals = σ.locals; callers = σ.callers; port = q i; trace = event e ∷ σ.trace }

    received_follows : (o : Option ℤ) (c p : ℕ) (v : Variable) (σ : State) → oldest (σ.port c).waiting ≡ o → Beside (received o c p v σ) (received (oldest (j σ.port c).waiting) c p v (altered j σ))
    received_follows (Some z) c p v σ e =
        subst (λ o. Beside (received (Some z) c p v σ) (received o c p v (altered j σ))) (sym (by.finds c z σ.port e))
        (subst (λ τ. Beside (received (Some z) c p v σ) (done falls (store v z τ))) (event_altered (took c z) σ (by.takes c z σ.port e)) (store_follows v z (happened (took c z) σ)))
    received_follows None c p v σ e =
        elim (by.lacks c σ.port e) [
          | inl w ↦ more_samples c p w σ _ (received_adds (oldest (j σ.port c).waiting) c p v (altered j σ))
          | inr q ↦ subst (λ o. Beside (received None c p v σ) (received o c p v (altered j σ))) (sym q) (as_stopped (waits c p) σ)
        ]

    set_follows : (c : ℕ) (x : ℤ) (σ : State) → Beside (done falls (happened (set_to c x) σ)) (done falls (happened (set_to c x) (altered j σ)))
    set_follows c x σ = subst (λ τ. Beside (done falls (happened (set_to c x) σ)) (done falls τ)) (event_altered (set_to c x) σ (by.sets c x σ.port)) (as_done falls (happened (set_to c x) σ))

    module _ (P : Program) (rec rec₁ : Rec) (h : (s : Stat) (σ : State) → Adds σ.trace (rec₁ s σ)) (u : (s : Stat) (σ : State) → Beside (rec s σ) (rec₁ s (altered j σ))) where
      mutual
        unfolding eval_with args_with

        eval_follows : (e : Expr) (σ : State) → Beside (eval_with P rec e σ) (eval_with P rec₁ e (altered j σ))
        eval_follows (constant τ z) σ = as_done z σ
        eval_follows (variable v) σ = read_follows v σ
        eval_follows (element p a e) σ =
            bind_follows (eval_follows e σ)
            (λ i σ₁. bind_follows (located_follows (position a i) p a σ₁) (λ v σ₂. read_follows v σ₂) (λ v σ₂. done_adds (read v σ₂) σ₂))
            (λ i σ₁. bind_adds _ (located_adds (position a i) p a σ₁) (λ v σ₂. done_adds (read v σ₂) σ₂))
        eval_follows (unary p o e) σ = bind_follows (eval_follows e σ) (λ x σ₁. answered_follows (unary_answer o x) 1 p σ₁) (λ x σ₁. answered_adds (unary_answer o x) 1 p σ₁)
        eval_follows (binary p o a b) σ =
            bind_follows (eval_follows a σ)
            (λ x σ₁. bind_follows (eval_follows b σ₁) (λ y σ₂. answered_follows (binary_answer o x y) (binary_trap o) p σ₂) (λ y σ₂. answered_adds (binary_answer o x y) (binary_trap o) p σ₂))
            (λ x σ₁. bind_adds _ (eval_adds P rec₁ h b σ₁) (λ y σ₂. answered_adds (binary_answer o x y) (binary_trap o) p σ₂))
        eval_follows (member p a b) σ =
            bind_follows (eval_follows a σ)
            (λ x σ₁. checked_follows (is_element x) 5 p σ₁ (bind_follows (eval_follows b σ₁) (λ s σ₂. as_done _ σ₂) (λ s σ₂. done_adds _ σ₂)))
            (λ x σ₁. checked_adds (is_element x) 5 p σ₁ (bind_adds _ (eval_adds P rec₁ h b σ₁) (λ s σ₂. done_adds _ σ₂)))
        eval_follows (both a b) σ =
            bind_follows (eval_follows a σ) (λ x σ₁. branch_follows (fails x) (as_done _ σ₁) (eval_follows b σ₁))
            (λ x σ₁. branch_adds (fails x) (done_adds _ σ₁) (eval_adds P rec₁ h b σ₁))
        eval_follows (either a b) σ =
            bind_follows (eval_follows a σ) (λ x σ₁. branch_follows (fails x) (eval_follows b σ₁) (as_done _ σ₁))
            (λ x σ₁. branch_adds (fails x) (eval_adds P rec₁ h b σ₁) (done_adds _ σ₁))
        eval_follows (call p g es) σ =
            bind_follows (args_follow es σ)
            (λ vs σ₁. checked_follows (openable σ₁) 6 p σ₁
            (bind_follows (u (procedure P g).body (enter (procedure P g) vs σ₁)) (λ f σ₂. resulted_follows f (procedure P g) σ₂) (λ f σ₂. resulted_adds f (procedure P g) σ₂)))
            (λ vs σ₁. checked_adds (openable σ₁) 6 p σ₁ (body_adds P rec₁ h g vs σ₁ (λ f σ₂. resulted_adds f (procedure P g) σ₂)))

        args_follow : (es : Args) (σ : State) → Beside (args_with P rec es σ) (args_with P rec₁ es (altered j σ))
        args_follow none σ = as_done _ σ
        args_follow (more e es) σ =
            bind_follows (eval_follows e σ) (λ x σ₁. bind_follows (args_follow es σ₁) (λ xs σ₂. as_done _ σ₂) (λ xs σ₂. done_adds _ σ₂))
            (λ x σ₁. bind_adds _ (args_adds P rec₁ h es σ₁) (λ xs σ₂. done_adds _ σ₂))

      target_follows : (t : Target) (σ : State) → Beside (target_with P rec t σ) (target_with P rec₁ t (altered j σ))
      unfolding target_with
      target_follows (whole v) σ = as_done v σ
      target_follows (item p a e) σ = bind_follows (eval_follows e σ) (λ i σ₁. located_follows (position a i) p a σ₁) (λ i σ₁. located_adds (position a i) p a σ₁)

      update_follows : (o : ℤ → Option ℤ) (n p : ℕ) (v : Variable) (σ : State) → Beside (revised (o (read v σ)) n p v σ) (revised (o (read v (altered j σ))) n p v (altered j σ))
      update_follows o n p v σ = subst (λ x. Beside (revised (o (read v σ)) n p v σ) (revised (o x) n p v (altered j σ))) (read_altered v σ) (revised_follows (o (read v σ)) n p v σ)

      pub stat_follows : (s : Stat) (σ : State) → Beside (exec_with P rec s σ) (exec_with P rec₁ s (altered j σ))
      unfolding exec_with
      stat_follows skip σ = as_done falls σ
      stat_follows (assign t e) σ =
          bind_follows (target_follows t σ) (λ v σ₁. bind_follows (eval_follows e σ₁) (λ x σ₂. store_follows v x σ₂) (λ x σ₂. store_adds falls v x σ₂))
          (λ v σ₁. bind_adds _ (eval_adds P rec₁ h e σ₁) (λ x σ₂. store_adds falls v x σ₂))
      stat_follows (update p o t e) σ =
          bind_follows (target_follows t σ)
          (λ v σ₁. bind_follows (eval_follows e σ₁) (λ k σ₂. update_follows (λ x. updated o x k) (update_trap o) p v σ₂) (λ k σ₂. revised_adds (updated o (read v σ₂) k) (update_trap o) p v σ₂))
          (λ v σ₁. bind_adds _ (eval_adds P rec₁ h e σ₁) (λ k σ₂. revised_adds (updated o (read v σ₂) k) (update_trap o) p v σ₂))
      stat_follows (take p e t) σ =
          bind_follows (eval_follows e σ)
          (λ c σ₁. checked_follows (is_channel c) 4 p σ₁
          (bind_follows (target_follows t σ₁) (λ v σ₂. received_follows _ (nat_abs c) p v σ₂ refl) (λ v σ₂. received_adds (oldest (σ₂.port (nat_abs c)).waiting) (nat_abs c) p v σ₂)))
          (λ c σ₁. checked_adds (is_channel c) 4 p σ₁ (bind_adds _ (target_adds P rec₁ h t σ₁) (λ v σ₂. received_adds (oldest (σ₂.port (nat_abs c)).waiting) (nat_abs c) p v σ₂)))
      stat_follows (put p e k) σ =
          bind_follows (eval_follows e σ)
          (λ c σ₁. checked_follows (is_channel c) 4 p σ₁
          (bind_follows (eval_follows k σ₁) (λ x σ₂. set_follows (nat_abs c) x σ₂) (λ x σ₂. adds_one (event (set_to (nat_abs c) x)) σ₂.trace (done_adds falls _))))
          (λ c σ₁. checked_adds (is_channel c) 4 p σ₁ (bind_adds _ (eval_adds P rec₁ h k σ₁) (λ x σ₂. adds_one (event (set_to (nat_abs c) x)) σ₂.trace (done_adds falls _))))
      stat_follows (perform p g es) σ =
          bind_follows (args_follow es σ)
          (λ vs σ₁. checked_follows (openable σ₁) 6 p σ₁ (bind_follows (u (procedure P g).body (enter (procedure P g) vs σ₁)) (λ f σ₂. leaving_follows falls σ₂.callers σ₂) (λ f σ₂. leave_adds falls σ₂)))
          (λ vs σ₁. checked_adds (openable σ₁) 6 p σ₁ (body_adds P rec₁ h g vs σ₁ (λ f σ₂. leave_adds falls σ₂)))
      stat_follows (seq s t) σ = bind_follows (stat_follows s σ) (λ f σ₁. onward_follows f σ₁ (stat_follows t σ₁)) (λ f σ₁. onward_adds f σ₁ (stat_adds P rec₁ h t σ₁))
      stat_follows (choose e s t) σ =
          bind_follows (eval_follows e σ) (λ x σ₁. branch_follows (fails x) (stat_follows t σ₁) (stat_follows s σ₁))
          (λ x σ₁. branch_adds (fails x) (stat_adds P rec₁ h t σ₁) (stat_adds P rec₁ h s σ₁))
      stat_follows (while e s) σ =
          bind_follows (eval_follows e σ)
          (λ x σ₁. branch_follows (fails x) (as_done falls σ₁) (bind_follows (stat_follows s (tick round σ₁)) (λ f σ₂. onward_follows f σ₂ (u (while e s) σ₂)) (λ f σ₂. onward_adds f σ₂ (h (while e s) σ₂))))
          (λ x σ₁. branch_adds (fails x) (done_adds falls σ₁) (adds_one round σ₁.trace (bind_adds _ (stat_adds P rec₁ h s (tick round σ₁)) (λ f σ₂. onward_adds f σ₂ (h (while e s) σ₂)))))
      stat_follows (repeat s e) σ =
          bind_follows (stat_follows s (tick round σ))
          (λ f σ₁. onward_follows f σ₁ (bind_follows (eval_follows e σ₁) (λ x σ₂. branch_follows (fails x) (u (repeat s e) σ₂) (as_done falls σ₂)) (λ x σ₂. branch_adds (fails x) (h (repeat s e) σ₂) (done_adds falls σ₂))))
          (λ f σ₁. onward_adds f σ₁ (bind_adds _ (eval_adds P rec₁ h e σ₁) (λ x σ₂. branch_adds (fails x) (h (repeat s e) σ₂) (done_adds falls σ₂))))
      stat_follows (loop s) σ = bind_follows (stat_follows s (tick round σ)) (λ f σ₁. around_follows f σ₁ (u (loop s) σ₁)) (λ f σ₁. around_adds f σ₁ (h (loop s) σ₁))
      stat_follows (for v a b c s) σ =
          bind_follows (eval_follows a σ)
          (λ x σ₁. bind_follows (eval_follows b σ₁)
          (λ y σ₂. rounds_follow (terms x y c) v x c (exec_with P rec s) (exec_with P rec₁ s) (stat_follows s) (stat_adds P rec₁ h s) σ₂)
          (λ y σ₂. rounds_adds (terms x y c) v x c (exec_with P rec₁ s) (stat_adds P rec₁ h s) σ₂))
          (λ x σ₁. bind_adds _ (eval_adds P rec₁ h b σ₁) (λ y σ₂. rounds_adds (terms x y c) v x c (exec_with P rec₁ s) (stat_adds P rec₁ h s) σ₂))
      stat_follows exit σ = as_done exits σ
      stat_follows return σ = as_done returns σ
      stat_follows (give e) σ = bind_follows (eval_follows e σ) (λ x σ₁. as_done _ σ₁) (λ x σ₁. done_adds (gives x) σ₁)
      stat_follows halt σ = as_stopped _ σ
