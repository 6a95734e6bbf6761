-- Variables keep their types.
use Rattle.std.proofs.Common.{◌≡◌, ℕ, zero, suc, ◌<◌, Bool, true, false, cond, eqb, ltb, List, [], ◌∷◌, length, get_or, take as first, drop, replicate, ℤ, pos, ◌+ℤ◌, nat_abs, Some, None, Option, sym, refl, ap, subst, arith}
use Rattle.std.specs.List.{AllByRecursion}
use Rattle.integer.specs.Ends.{integer, Within}
use Rattle.ports.specs.Calls.{changed, oldest, newer, take_after, set_after}
use Rattle.ports.specs.Channels.{Channel, Meaning, channels}
use Rattle.ports.specs.Events.{Event, took, set_to, left}
use Rattle.ports.specs.Law.{Integer, LawfulChannel, Lawful}
use Rattle.semantics.specs.Program.{BasicType, INTEGER, BOOLEAN, BITSET, Variable, global, local, Array, Expr, constant, variable, element, unary, binary, member, both, either, call, Args, none, more, Target, whole, item, Stat, skip, assign, update, take, put, perform, seq, choose, while, repeat, loop, for, exit, return, give, halt, Procedure, Program, missing, procedure}
use Rattle.semantics.specs.Values.{Value, fails, unary_answer, binary_answer, binary_trap, updated, update_trap, is_element, contained, is_channel, position, terms}
use Rattle.semantics.specs.State.{Tick, round, State, Outcome, Res, done, stopped, out, Flow, falls, exits, returns, gives, bind, read, store, behind, tick, happened, enter, leaving, leave, begin}
use Rattle.semantics.specs.Meaning.{Rec, branch, checked, answered, located, revised, received, resulted, onward, around, openable, for_rounds, eval_with, args_with, target_with, exec_with, exec, concluded, reading}
use Rattle.semantics.specs.WellFormed.{BlockKind, in_module, in_procedure, in_function, Block, kind_of, block, module_block, changes, words_of, place_of, Holds, ArrayOf, WellTyped, Arguments, Stores, Gives, Statement, WellFormedProcedure, WellFormed}
use Rattle.semantics.specs.Laws.{Valued, Activation, of_module, of_procedure, Typed, state_of, WordsKeepTypes}
use Rattle.semantics.proofs.Answering.{Answers, some_answer, no_answer, truth_value, unary_value, binary_value, update_value}
use Rattle.semantics.proofs.Terms.{terms_next, terms_next_within}
use Rattle.semantics.proofs.Wording.{zeros_valued, valued_at, valued_set, opened_valued, element_typed, position_below}

-- what an event leaves of a lawful port is lawful
changed_lawful : (m : Meaning) (c : ℕ) (ch : Channel) → Lawful m → LawfulChannel ch → Lawful (changed m c ch)
changed_lawful m c ch h l k = range (ltb c channels)
  where
    here : (b : Bool) → LawfulChannel (cond b ch (m k))
    here true = l
    here false = h k

    range : (b : Bool) → LawfulChannel (cond b (λ i. cond (eqb i c) ch (m i)) m k)
    range true = here (eqb k c)
    range false = h k

newer_all : (ws : List ℤ) → AllByRecursion Integer ws → AllByRecursion Integer (newer ws)
newer_all [] h = tt
newer_all (w ∷ ws) h = h.1

take_lawful : (m : Meaning) (c : ℕ) → Lawful m → Lawful (take_after m c)
take_lawful m c h = let l = h c in changed_lawful m c _ h (record { shallow = l.shallow; waits = newer_all (m c).waiting l.waits; shows = l.shows; reads = l.reads; sets = l.sets })

set_lawful : (m : Meaning) (c : ℕ) (x : ℤ) → Integer x → Lawful m → Lawful (set_after m c x)
set_lawful m c x i h = let l = h c in changed_lawful m c _ h (record { shallow = l.shallow; waits = l.waits; shows = l.sets x i; reads = l.reads; sets = l.sets })

oldest_integer : (ws : List ℤ) → AllByRecursion Integer ws → Answers Integer (oldest ws)
oldest_integer [] h = no_answer
oldest_integer (w ∷ ws) h = some_answer h.0

module _ (P : Program) where
  -- where statements are executed: the block, what its words make, and the words that wait
  record Frame : Type 0 where
    at : Block
    own : (xs : List ℤ) → Valued at.words xs → Activation P xs
    waiting : List (List ℤ)
    waits : AllByRecursion (Activation P) waiting

  record Good (F : Frame) (σ : State) : Type 0 where
    globals : Valued P.words σ.globals
    locals : Valued F.at.words σ.locals
    callers : σ.callers ≡ F.waiting
    port : Lawful σ.port

  settled : (F : Frame) (σ : State) → Good F σ → Typed P σ
  settled F σ g = record { globals = g.globals; activations = (F.own σ.locals g.locals, subst (AllByRecursion (Activation P)) (sym g.callers) F.waits) }

  -- a result: an answer with the property Q in a good state, or a state in which all words are typed
  data Fine (F : Frame) {A : Type 0} (Q : A → Type 0) : Res A → Type 0 where
    is_done : {a : A} {σ : State} → Q a → Good F σ → Fine F Q (done a σ)
    is_stopped : {o : Outcome} {σ : State} → Typed P σ → Fine F Q (stopped o σ)
    is_out : {σ : State} → Typed P σ → Fine F Q (out σ)

  bind_fine : {F G : Frame} {A B : Type 0} {Q : A → Type 0} {R : B → Type 0} {r : Res A} {k : A → State → Res B} → Fine F Q r → ((a : A) (σ : State) → Q a → Good F σ → Fine G R (k a σ)) → Fine G R (bind r k)
  unfolding bind
  bind_fine (is_done {a} {σ} q g) f = f a σ q g
  bind_fine (is_stopped t) f = is_stopped t
  bind_fine (is_out t) f = is_out t

  -- flows that statements of a block may come to
  abbrev EndsIn : BlockKind → Flow → Type 0
  EndsIn κ falls = Unit {0}
  EndsIn κ exits = Unit {0}
  EndsIn κ returns = Unit {0}
  EndsIn in_module (gives x) = ⊥
  EndsIn in_procedure (gives x) = ⊥
  EndsIn (in_function τ) (gives x) = Value τ x

  module _ (F : Frame) where
    abbrev B : Block
    B = F.at

    abbrev Flows : Flow → Type 0
    Flows f = EndsIn B.kind f

    read_value : (v : Variable) (τ : BasicType) (σ : State) → Holds P B v τ → Good F σ → Value τ (read v σ)
    read_value (global w) τ σ h g = valued_at P.words σ.globals w τ h g.globals
    read_value (local w) τ σ h g = valued_at B.words σ.locals w τ h g.locals

    store_good : (v : Variable) (τ : BasicType) (x : ℤ) (σ : State) → Holds P B v τ → Value τ x → Good F σ → Good F (store v x σ)
    store_good (global w) τ x σ h k g = record { globals = valued_set P.words σ.globals w τ x h k g.globals; locals = g.locals; callers = g.callers; port = g.port }
    store_good (local w) τ x σ h k g = record { globals = g.globals; locals = valued_set B.words σ.locals w τ x h k g.locals; callers = g.callers; port = g.port }

    tick_good : (t : Tick) (σ : State) → Good F σ → Good F (tick t σ)
    tick_good t σ g = record { globals = g.globals; locals = g.locals; callers = g.callers; port = g.port }

    event_good : (e : Event) (σ : State) → Lawful (left e σ.port) → Good F σ → Good F (happened e σ)
    event_good e σ l g = record { globals = g.globals; locals = g.locals; callers = g.callers; port = l }

    branch_fine : {A : Type 0} {Q : A → Type 0} (b : Bool) {r q : Res A} → Fine F Q r → Fine F Q q → Fine F Q (branch b r q)
    branch_fine true h k = h
    branch_fine false h k = k

    checked_fine : {A : Type 0} {Q : A → Type 0} (b : Bool) (n p : ℕ) (σ : State) {r : Res A} → Good F σ → Fine F Q r → Fine F Q (checked b n p σ r)
    checked_fine true n p σ g h = h
    checked_fine false n p σ g h = is_stopped (settled F σ g)

    answered_fine : {Q : ℤ → Type 0} (o : Option ℤ) (n p : ℕ) (σ : State) → Answers Q o → Good F σ → Fine F Q (answered o n p σ)
    answered_fine (Some x) n p σ (some_answer h) g = is_done h g
    answered_fine None n p σ no_answer g = is_stopped (settled F σ g)

    element_holds : (a : Array) (τ : BasicType) (k : ℕ) → ArrayOf P B a τ → k < a.size → Holds P B (behind a.base k) τ
    element_holds a τ k h l = go a.base h.1
      where
        go : (v : Variable) → first a.size (drop (place_of P B v) (words_of P B v)) ≡ replicate a.size τ → Holds P B (behind v k) τ
        go (global w) e = element_typed P.words w a.size k τ e l
        go (local w) e = element_typed B.words w a.size k τ e l

    located_fine : (o : Option ℕ) (p : ℕ) (a : Array) (τ : BasicType) (σ : State) → ((k : ℕ) → o ≡ Some k → k < a.size) → ArrayOf P B a τ → Good F σ → Fine F (λ v. Holds P B v τ) (located o p a σ)
    located_fine (Some k) p a τ σ h t g = is_done (element_holds a τ k t (h k refl)) g
    located_fine None p a τ σ h t g = is_stopped (settled F σ g)

    revised_fine : (o : Option ℤ) (n p : ℕ) (v : Variable) (τ : BasicType) (σ : State) → Answers (Value τ) o → Holds P B v τ → Good F σ → Fine F Flows (revised o n p v σ)
    revised_fine (Some x) n p v τ σ (some_answer h) t g = is_done tt (store_good v τ x σ t h g)
    revised_fine None n p v τ σ no_answer t g = is_stopped (settled F σ g)

    received_fine : (o : Option ℤ) (c p : ℕ) (v : Variable) (σ : State) → Answers Integer o → Holds P B v INTEGER → Good F σ → Fine F Flows (received o c p v σ)
    received_fine (Some z) c p v σ (some_answer h) t g = is_done tt (store_good v INTEGER z _ t h (event_good (took c z) σ (take_lawful σ.port c g.port) g))
    received_fine None c p v σ no_answer t g = is_stopped (settled F σ g)

    onward_fine : (f : Flow) (σ : State) {r : Res Flow} → Flows f → Good F σ → Fine F Flows r → Fine F Flows (onward f σ r)
    onward_fine falls σ q g h = h
    onward_fine exits σ q g h = is_done q g
    onward_fine returns σ q g h = is_done q g
    onward_fine (gives x) σ q g h = is_done q g

    around_fine : (f : Flow) (σ : State) {r : Res Flow} → Flows f → Good F σ → Fine F Flows r → Fine F Flows (around f σ r)
    around_fine falls σ q g h = h
    around_fine exits σ q g h = is_done tt g
    around_fine returns σ q g h = is_done q g
    around_fine (gives x) σ q g h = is_done q g

    -- the rounds of a FOR: every term is an INTEGER
    rounds_fine : (n : ℕ) (v : Variable) (t l s : ℤ) (body : State → Res Flow) → (s ≡ pos 0 → ⊥) → Holds P B v INTEGER → terms t l s ≡ n → Within integer t → Within integer l → ((σ : State) → Good F σ → Fine F Flows (body σ)) → (σ : State) → Good F σ → Fine F Flows (for_rounds n v t s body σ)
    unfolding for_rounds
    rounds_fine zero v t l s body nz hv e wt wl h σ g = is_done tt g
    rounds_fine (suc zero) v t l s body nz hv e wt wl h σ g =
        bind_fine (h _ (store_good v INTEGER t _ hv wt (tick_good round σ g))) λ f σ₁ q g₁. onward_fine f σ₁ q g₁ (is_done tt g₁)
    rounds_fine (suc (suc n)) v t l s body nz hv e wt wl h σ g =
        bind_fine (h _ (store_good v INTEGER t _ hv wt (tick_good round σ g))) λ f σ₁ q g₁. onward_fine f σ₁ q g₁
        (rounds_fine (suc n) v (t +ℤ s) l s body nz hv (terms_next t l s (suc n) nz e) (terms_next_within t l s n nz e wt wl) wl h σ₁ g₁)

  -- an activation of procedure g, opened by a caller
  abbrev opened : (F : Frame) (σ : State) → Good F σ → (g : ℕ) → g < length P.procedures → Frame
  opened F σ k g l = record { at = block (procedure P g); own = λ xs v. of_procedure g l v; waiting = σ.locals ∷ F.waiting; waits = (F.own σ.locals k.locals, F.waits) }

  module _ (F : Frame) (σ : State) (k : Good F σ) (g : ℕ) (l : g < length P.procedures) where
    enter_good : (vs : List ℤ) → Valued (first (procedure P g).parameters (procedure P g).words) vs → Good (opened F σ k g l) (enter (procedure P g) vs σ)
    enter_good vs h = record {
      globals = k.globals;
      locals = opened_valued (procedure P g).parameters (procedure P g).words vs h;
      callers = ap (λ ls. σ.locals ∷ ls) k.callers;
      port = k.port;
    }

    leave_good : (σ₁ : State) → Good (opened F σ k g l) σ₁ → Good F (leave σ₁)
    leave_good σ₁ g₁ = go σ₁.callers g₁.callers
      where
        go : (ls : List (List ℤ)) → ls ≡ σ.locals ∷ F.waiting → Good F (leaving ls σ₁)
        go [] e = absurd (let z : ◌≡◌ {A = ℕ} 0 1 = cc in omega arith)
        go (xs ∷ ls) e =
            let p : σ.locals ≡ xs = cc in
            let q : ls ≡ F.waiting = cc in
            record { globals = g₁.globals; locals = subst (Valued F.at.words) p k.locals; callers = q; port = g₁.port }

    resulted_fine : (τ : BasicType) (f : Flow) (σ₁ : State) → (procedure P g).result ≡ Some τ → Flows (opened F σ k g l) f → Good (opened F σ k g l) σ₁ → Fine F (Value τ) (resulted f (procedure P g) σ₁)
    resulted_fine τ (gives x) σ₁ e q g₁ = is_done (subst (λ o. EndsIn (kind_of o) (gives x)) e q) (leave_good σ₁ g₁)
    resulted_fine τ falls σ₁ e q g₁ = is_stopped (settled (opened F σ k g l) σ₁ g₁)
    resulted_fine τ exits σ₁ e q g₁ = is_stopped (settled (opened F σ k g l) σ₁ g₁)
    resulted_fine τ returns σ₁ e q g₁ = is_stopped (settled (opened F σ k g l) σ₁ g₁)

  -- a procedure of a well-formed program is well formed
  formed : (fs : List Procedure) (g : ℕ) → g < length fs → AllByRecursion (WellFormedProcedure P) fs → WellFormedProcedure P (get_or fs g missing)
  formed [] g l h = absurd (omega arith)
  formed (f ∷ fs) zero l h = h.0
  formed (f ∷ fs) (suc g) l h = formed fs g (omega arith) h.1

  module _ (w : WellFormed P) (rec : Rec) (u : (F : Frame) (l : Bool) (s : Stat) → Statement P F.at l s → (σ : State) → Good F σ → Fine F (Flows F) (rec s σ)) (F : Frame) where
    -- the body of procedure g
    body_fine : (σ : State) (k : Good F σ) (g : ℕ) (l : g < length P.procedures) (vs : List ℤ) → Valued (first (procedure P g).parameters (procedure P g).words) vs → Fine (opened F σ k g l) (Flows (opened F σ k g l)) (rec (procedure P g).body (enter (procedure P g) vs σ))
    body_fine σ k g l vs h = u (opened F σ k g l) false (procedure P g).body (formed P.procedures g l w.procedures).body _ (enter_good F σ k g l vs h)

    mutual
      unfolding eval_with args_with

      eval_fine : (e : Expr) (τ : BasicType) → WellTyped P F.at e τ → (σ : State) → Good F σ → Fine F (Value τ) (eval_with P rec e σ)
      eval_fine (constant υ z) τ t σ g = is_done t.1 g
      eval_fine (variable v) τ t σ g = is_done (read_value F v τ σ t g) g
      eval_fine (element p a e) τ t σ g =
          bind_fine (eval_fine e INTEGER t.1 σ g) λ i σ₁ q g₁.
          bind_fine (located_fine F (position a i) p a τ σ₁ (position_below a i) t.0 g₁) λ v σ₂ h g₂. is_done (read_value F v τ σ₂ h g₂) g₂
      eval_fine (unary p o e) τ t σ g =
          bind_fine (eval_fine e _ t.1 σ g) λ x σ₁ q g₁. answered_fine F (unary_answer o x) 1 p σ₁ (subst (λ υ. Answers (Value υ) (unary_answer o x)) t.0 (unary_value o x q)) g₁
      eval_fine (binary p o a b) τ t σ g =
          bind_fine (eval_fine a t.1.0 t.1.1.1.0 σ g) λ x σ₁ q g₁. bind_fine (eval_fine b t.1.0 t.1.1.1.1 σ₁ g₁) λ y σ₂ r g₂.
          answered_fine F (binary_answer o x y) (binary_trap o) p σ₂ (subst (λ υ. Answers (Value υ) (binary_answer o x y)) t.0 (binary_value o t.1.0 x y t.1.1.0 q r)) g₂
      eval_fine (member p a b) τ t σ g =
          bind_fine (eval_fine a INTEGER t.1.0 σ g) λ x σ₁ q g₁. checked_fine F (is_element x) 5 p σ₁ g₁
          (bind_fine (eval_fine b BITSET t.1.1 σ₁ g₁) λ s σ₂ r g₂. is_done (subst (λ υ. Value υ (contained x s)) t.0 (truth_value _)) g₂)
      eval_fine (both a b) τ t σ g =
          bind_fine (eval_fine a BOOLEAN t.1.0 σ g) λ x σ₁ q g₁. branch_fine F (fails x) (is_done (subst (λ υ. Value υ (pos 0)) t.0 (truth_value false)) g₁)
          (subst (λ υ. Fine F (Value υ) (eval_with P rec b σ₁)) t.0 (eval_fine b BOOLEAN t.1.1 σ₁ g₁))
      eval_fine (either a b) τ t σ g =
          bind_fine (eval_fine a BOOLEAN t.1.0 σ g) λ x σ₁ q g₁. branch_fine F (fails x) (subst (λ υ. Fine F (Value υ) (eval_with P rec b σ₁)) t.0 (eval_fine b BOOLEAN t.1.1 σ₁ g₁))
          (is_done (subst (λ υ. Value υ (pos 1)) t.0 (truth_value true)) g₁)
      eval_fine (call p f es) τ t σ g =
          bind_fine (args_fine es _ t.1.1 σ g) λ vs σ₁ q g₁. checked_fine F (openable σ₁) 6 p σ₁ g₁
          (bind_fine (body_fine σ₁ g₁ f t.0 vs q) λ r σ₂ h g₂. resulted_fine F σ₁ g₁ f t.0 τ r σ₂ t.1.0 h g₂)

      args_fine : (es : Args) (τs : List BasicType) → Arguments P F.at es τs → (σ : State) → Good F σ → Fine F (Valued τs) (args_with P rec es σ)
      args_fine none [] t σ g = is_done tt g
      args_fine none (τ ∷ τs) t σ g = absurd t
      args_fine (more e es) [] t σ g = absurd t
      args_fine (more e es) (τ ∷ τs) t σ g = bind_fine (eval_fine e τ t.0 σ g) λ x σ₁ q g₁. bind_fine (args_fine es τs t.1 σ₁ g₁) λ xs σ₂ r g₂. is_done (q, r) g₂

    target_fine : (t : Target) (τ : BasicType) → Stores P F.at t τ → (σ : State) → Good F σ → Fine F (λ v. Holds P F.at v τ) (target_with P rec t σ)
    unfolding target_with
    target_fine (whole v) τ t σ g = is_done t g
    target_fine (item p a e) τ t σ g = bind_fine (eval_fine e INTEGER t.1.0 σ g) λ i σ₁ q g₁. located_fine F (position a i) p a τ σ₁ (position_below a i) t.0 g₁

    give_fine : (κ : BlockKind) (e : Expr) → Gives P F.at κ e → (σ : State) → Good F σ → Fine F (EndsIn κ) (bind (eval_with P rec e σ) (λ x σ₁. done (gives x) σ₁))
    give_fine in_module e t σ g = absurd t
    give_fine in_procedure e t σ g = absurd t
    give_fine (in_function τ) e t σ g = bind_fine (eval_fine e τ t.0 σ g) λ x σ₁ q g₁. is_done q g₁

    stat_fine : (s : Stat) (l : Bool) → Statement P F.at l s → (σ : State) → Good F σ → Fine F (Flows F) (exec_with P rec s σ)
    unfolding exec_with
    stat_fine skip l t σ g = is_done tt g
    stat_fine (assign v e) l t σ g =
        bind_fine (target_fine v t.0 t.1.0 σ g) λ x σ₁ h g₁. bind_fine (eval_fine e t.0 t.1.1.0 σ₁ g₁) λ y σ₂ q g₂. is_done tt (store_good F x t.0 y σ₂ h q g₂)
    stat_fine (update p o v e) l t σ g =
        bind_fine (target_fine v (changes o) t.0 σ g) λ x σ₁ h g₁. bind_fine (eval_fine e INTEGER t.1.0 σ₁ g₁) λ k σ₂ q g₂.
        revised_fine F (updated o (read x σ₂) k) (update_trap o) p x (changes o) σ₂ (update_value o (read x σ₂) k) h g₂
    stat_fine (take p e v) l t σ g =
        bind_fine (eval_fine e INTEGER t.0.0 σ g) λ c σ₁ q g₁. checked_fine F (is_channel c) 4 p σ₁ g₁
        (bind_fine (target_fine v INTEGER t.1 σ₁ g₁) λ x σ₂ h g₂. received_fine F _ (nat_abs c) p x σ₂ (oldest_integer _ (g₂.port (nat_abs c)).waits) h g₂)
    stat_fine (put p e k) l t σ g =
        bind_fine (eval_fine e INTEGER t.0.0 σ g) λ c σ₁ q g₁. checked_fine F (is_channel c) 4 p σ₁ g₁
        (bind_fine (eval_fine k INTEGER t.1.0 σ₁ g₁) λ x σ₂ r g₂. is_done tt (event_good F (set_to (nat_abs c) x) σ₂ (set_lawful σ₂.port (nat_abs c) x r g₂.port) g₂))
    stat_fine (perform p f es) l t σ g =
        bind_fine (args_fine es _ t.1.1.0 σ g) λ vs σ₁ q g₁. checked_fine F (openable σ₁) 6 p σ₁ g₁
        (bind_fine (body_fine σ₁ g₁ f t.0 vs q) λ r σ₂ h g₂. is_done tt (leave_good F σ₁ g₁ f t.0 σ₂ g₂))
    stat_fine (seq s r) l t σ g = bind_fine (stat_fine s l t.0 σ g) λ f σ₁ q g₁. onward_fine F f σ₁ q g₁ (stat_fine r l t.1 σ₁ g₁)
    stat_fine (choose e s r) l t σ g = bind_fine (eval_fine e BOOLEAN t.0.0 σ g) λ x σ₁ q g₁. branch_fine F (fails x) (stat_fine r l t.1.1 σ₁ g₁) (stat_fine s l t.1.0 σ₁ g₁)
    stat_fine (while e s) l t σ g =
        bind_fine (eval_fine e BOOLEAN t.0.0 σ g) λ x σ₁ q g₁. branch_fine F (fails x) (is_done tt g₁)
        (bind_fine (stat_fine s l t.1 _ (tick_good F round σ₁ g₁)) λ f σ₂ r g₂. onward_fine F f σ₂ r g₂ (u F l (while e s) t σ₂ g₂))
    stat_fine (repeat s e) l t σ g =
        bind_fine (stat_fine s l t.0 _ (tick_good F round σ g)) λ f σ₁ q g₁. onward_fine F f σ₁ q g₁
        (bind_fine (eval_fine e BOOLEAN t.1.0 σ₁ g₁) λ x σ₂ r g₂. branch_fine F (fails x) (u F l (repeat s e) t σ₂ g₂) (is_done tt g₂))
    stat_fine (loop s) l t σ g = bind_fine (stat_fine s true t _ (tick_good F round σ g)) λ f σ₁ q g₁. around_fine F f σ₁ q g₁ (u F l (loop s) t σ₁ g₁)
    stat_fine (for v a b c s) l t σ g =
        bind_fine (eval_fine a INTEGER t.1.0.0 σ g) λ x σ₁ q g₁. bind_fine (eval_fine b INTEGER t.1.1.0.0 σ₁ g₁) λ y σ₂ r g₂.
        rounds_fine F (terms x y c) v x y c (exec_with P rec s) t.1.1.1.1.0 t.0 refl q r (stat_fine s l t.1.1.1.1.1) σ₂ g₂
    stat_fine exit l t σ g = is_done tt g
    stat_fine return l t σ g = is_done tt g
    stat_fine (give e) l t σ g = give_fine F.at.kind e t σ g
    stat_fine halt l t σ g = is_stopped (settled F σ g)

  exec_fine : WellFormed P → (n : ℕ) (F : Frame) (l : Bool) (s : Stat) → Statement P F.at l s → (σ : State) → Good F σ → Fine F (Flows F) (exec P n s σ)
  unfolding exec
  exec_fine w zero F l s t σ g = is_out (settled F σ g)
  exec_fine w (suc n) F l s t σ g = stat_fine w (exec P n) (exec_fine w n) F s l t σ g

  -- the module's own words
  module_own : (xs : List ℤ) → Valued [] xs → Activation P xs
  module_own [] h = of_module
  module_own (x ∷ xs) h = absurd h

  abbrev main : Frame
  main = record { at = module_block; own = module_own; waiting = []; waits = tt }

  concluded_typed : {Q : Flow → Type 0} {r : Res Flow} → Fine main Q r → Typed P (state_of (concluded r))
  concluded_typed (is_done {σ = σ} q g) = settled main σ g
  concluded_typed (is_stopped t) = t
  concluded_typed (is_out t) = t

pub words_keep_types : WordsKeepTypes
unfolding reading
words_keep_types P w m h n =
    concluded_typed P (exec_fine P w n (main P) false P.body w.body (begin P m) (record { globals = zeros_valued P.words; locals = tt; callers = refl; port = h }))
