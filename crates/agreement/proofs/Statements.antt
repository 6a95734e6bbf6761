-- The code of a statement does what the statement means.
use Rattle.std.proofs.Common.{◌≡◌, ℕ, zero, suc, ◌+◌, ◌*◌, ◌<◌, ◌≤◌, Bool, true, false, cond, T, List, [], ◌∷◌, ◌++◌, length, take as first_of, ℤ, pos, ◌+ℤ◌, nat_abs, Some, None, Option, sym, refl, ap, ◌∙◌, subst, zero-le, arith, length-append, length-take}
use lib.IntN.{+ℤ_comm}
use lib.Signed.{le_z}
use Rattle.integer.specs.Ends.{integer, Within, kept as kept_in}
use Rattle.ports.specs.Calls.{oldest}
use Rattle.ports.specs.Events.{took, set_to}
use Rattle.instructions.specs.State.{Caller, became}
use Rattle.instructions.specs.Steps.{step, halted}
use Rattle.instructions.specs.declared.answers.Status.TheVariants.{Ended}
use Rattle.instructions.specs.declared.answers.Outcome.TheVariants as answer
use Rattle.instructions.specs.declared.instruction.Instruction.{Instruction}
use Rattle.instructions.specs.declared.operation.Operation.TheVariants as op
use Rattle.semantics.specs.Program.{BasicType, INTEGER, BOOLEAN, BITSET, Variable, Expr, constant, variable, element, unary, binary, member, both, either, call, Args, none, more, arity, Target, whole, item, Update, increase, decrease, include, exclude, add, subtract, at_most, at_least, Stat, skip, assign, update, take, put, perform, seq, choose, while, repeat, loop, for, exit, return, give, halt, Program, procedure}
use Rattle.semantics.specs.Values.{Value, truth, fails, binary_answer, updated, update_trap, is_channel, terms}
use Rattle.semantics.specs.State.{State, Res, done, Flow, falls, exits, returns, gives, bind, read, store as stored, tick, round, leave}
use Rattle.semantics.specs.Meaning.{Rec, branch, checked, revised, received, onward, around, openable, for_rounds, eval_with, exec_with, exec}
use Rattle.semantics.specs.Extent.{args_depth, for_depth}
use Rattle.semantics.specs.WellFormed.{Block, BlockKind, in_module, in_procedure, in_function, kind_of, block, Holds, changes, WellTyped, Arguments, Fits, Stores, Returns, Gives, Statement, WellFormedProcedure}
use Rattle.agreement.specs.Claims.{spare}
use Rattle.agreement.specs.Generator.{plain, at_place, constant_code, store, first_test, closing, first, entry, further, expr_end, args_end, target_end, fetch_end, raise_end, update_end, stat_end, expr_code, fetch_code, raise_code, update_code, keep_code, stat_code}
use Rattle.agreement.proofs.Traced.{Traced, Mark, turned, passed, Goes, Steps, here, go, After, lands, stops, goes_on, step_in, prepend, pay, onto, bind_l}
use Rattle.agreement.proofs.Executing.{At, memory, seen, traced, ahead, back, next, obeys_local, obeys_store_local, obeys_channel, fails_channel, obeys_jump, obeys_jump_if, obeys_stay_if, obeys_jump_unless, obeys_stay_unless}
use Rattle.agreement.proofs.Operators.{obeys_binary, fails_binary, obeys_include, obeys_exclude, fails_include, fails_exclude, obeys_copy, obeys_swap, obeys_advance}
use Rattle.agreement.proofs.Calling.{receives, awaits, sets_to, closes, closes_with, ends_run}
use Rattle.agreement.proofs.Slots.{slots_open, first_slot, second_slot, set_first, set_second, slots_within}
use Rattle.agreement.proofs.Words.{valued_length}
use Rattle.semantics.proofs.Terms.{continues, terms_none, terms_some, terms_next, terms_next_within}
use Rattle.instructions.specs.Values.{goes_on as advances, following}
use Rattle.semantics.proofs.Answering.{update_value}
use Rattle.agreement.proofs.Encoding.{answered_with, test_within}
use Rattle.agreement.proofs.Positions.{Has, has_e, has_a, has_t, has_f, has_r, has_u, has_s, up_e, up_s}
use Rattle.agreement.proofs.Operands.{need, args_need, target_need, Small, SmallArgs, need_enough, args_enough}
use Rattle.agreement.proofs.Matching.{mk, loads_constant, locals_length, Good, Ground, Inside, Owes, owes_more, room, g_round, g_turn, g_lose, g_store, g_event, sample_value, loads, loads_element, stores, stores_element, trapped}
use Rattle.agreement.proofs.Expressions.{Linked, SimS, Simulated, land_s, good_s, returned, Given, aimed, Aims, sim_e, sim_a, sim_t, unless, do_call, waiting, left_is, left_good, closing_at, arguments_length}

-- calls have at most 6 arguments
module _ (P : Program) (B : Block) (formed : (g : ℕ) → g < length P.procedures → WellFormedProcedure P (procedure P g)) where
  abbrev TypedAs : Args → ℕ → Type 0
  TypedAs es g = Arguments P B es (first_of (procedure P g).parameters (procedure P g).words)

  few_arguments : (g : ℕ) → g < length P.procedures → (m : ℕ) → m ≡ length (first_of (procedure P g).parameters (procedure P g).words) → m ≤ 6
  few_arguments g l m e = let a = (formed g l).parameters in let b = length-take (procedure P g).parameters (procedure P g).words in omega arith

  arity_is : (es : Args) (τs : List BasicType) → Arguments P B es τs → arity es ≡ length τs
  arity_is none [] h = refl
  arity_is none (τ ∷ τs) h = absurd h
  arity_is (more e es) [] h = absurd h
  arity_is (more e es) (τ ∷ τs) h = ap suc (arity_is es τs h.1)

  mutual
    small_e : (e : Expr) (τ : BasicType) → WellTyped P B e τ → Small e
    small_e (constant υ z) τ w = tt
    small_e (variable v) τ w = tt
    small_e (element p a e) τ w = small_e e INTEGER w.1
    small_e (unary p o e) τ w = small_e e _ w.1
    small_e (binary p o a b) τ w = (small_e a w.1.0 w.1.1.1.0, small_e b w.1.0 w.1.1.1.1)
    small_e (member p a b) τ w = (small_e a INTEGER w.1.0, small_e b BITSET w.1.1)
    small_e (both a b) τ w = (small_e a BOOLEAN w.1.0, small_e b BOOLEAN w.1.1)
    small_e (either a b) τ w = (small_e a BOOLEAN w.1.0, small_e b BOOLEAN w.1.1)
    small_e (call p g es) τ w = let τs = first_of (procedure P g).parameters (procedure P g).words in (few_arguments g w.0 (arity es) (arity_is es τs w.1.1), small_a es τs w.1.1)

    small_a : (es : Args) (τs : List BasicType) → Arguments P B es τs → SmallArgs es
    small_a none [] w = tt
    small_a none (τ ∷ τs) w = absurd w
    small_a (more e es) [] w = absurd w
    small_a (more e es) (τ ∷ τs) w = (small_e e τ w.0, small_a es τs w.1)

  pub expr_fits : (e : Expr) (τ : BasicType) → Fits P B e τ → need e ≤ 132
  expr_fits e τ w = need_enough e (small_e e τ w.0) w.1

  pub target_fits : (u : Target) (τ : BasicType) → Stores P B u τ → target_need u ≤ 132
  target_fits (whole v) τ w = omega arith
  target_fits (item p a e) τ w = let x = expr_fits e INTEGER w.1 in omega arith

  pub args_fit : (es : Args) (g : ℕ) → g < length P.procedures → TypedAs es g → args_depth es ≤ 16 → args_need es ≤ 137
  args_fit es g l w d = let τs = first_of (procedure P g).parameters (procedure P g).words in args_enough es (small_a es τs w) (few_arguments g l (arity es) (arity_is es τs w)) d

aimed_short : (u : Target) (j : ℕ) (stk : List ℤ) → length (aimed u j stk) ≤ suc (length stk)
aimed_short (whole v) j stk = omega arith
aimed_short (item p a e) j stk = omega arith

-- a RETURN
do_return : {P : Program} {B : Block} {below : List (List ℤ)} {c : List Instruction} {m κ k p q x n : ℕ} {σ : State} {t : List Mark} (l : Bool) (cs : List Caller) (kept free : List ℤ) → Inside in_procedure cs → Returns P B B.kind → κ ≡ suc k → At c p (plain op.Return 0) → Good P B below κ t σ
    → After P n (good_s P B below l κ k m) (land_s P c cs kept q x) (mk P c cs (kept ++ free) p [] σ t) (done returns σ)
do_return l [] kept free i w o h g = absurd i
do_return {P} {B} {below} {k} {σ} {t} l (r ∷ cs) kept free i w o h g = lands {x = (turned ∷ t, free)} (w, g_turn (subst (λ j. Good P B below j t σ) o g)) (go (closes h) here)

do_give : {P : Program} {B : Block} {below : List (List ℤ)} {c : List Instruction} {m κ k p q x n : ℕ} {σ : State} {t : List Mark} {v : ℤ} (l : Bool) (τ : BasicType) (cs : List Caller) (kept free : List ℤ) → Inside (in_function τ) cs → Given B.kind v → κ ≡ suc k → At c p (plain op.ReturnValue 0) → Good P B below κ t σ
    → After P n (good_s P B below l κ k m) (land_s P c cs kept q x) (mk P c cs (kept ++ free) p (v ∷ []) σ t) (done (gives v) σ)
do_give l τ [] kept free i w o h g = absurd i
do_give {P} {B} {below} {k} {σ} {t} l τ (r ∷ cs) kept free i w o h g = lands {x = (turned ∷ t, free)} (w, g_turn (subst (λ j. Good P B below j t σ) o g)) (go (closes_with h i) here)

-- one activation
module _ (P : Program) (c : List Instruction) (lk : Linked P c) (rec : Rec) (n : ℕ) (ih : Simulated P c rec n)
    (B : Block) (cs : List Caller) (below : List (List ℤ)) (gr : Ground P B below cs) where
  -- a target, the variable that it names, and the number of its element
  module _ (u : Target) (v : Variable) (j : ℕ) {κ : ℕ} {σ : State} {t : List Mark} (hid : List ℤ) (e : Aims u v j) (g : Good P B below κ t σ) where
    -- a value is stored there
    keeps : {q : ℕ} {x : ℤ} {ops : List ℤ} (τ : BasicType) → At c q (keep_code P u) → Holds P B v τ → Goes (length P.words) (mk P c cs hid q (x ∷ aimed u j ops) σ t) (mk P c cs hid (suc q) ops (stored v x σ) t)
    keeps {q} {x} {ops} τ h hl = by_target u e h
      where
        by_target : (u : Target) → Aims u v j → At c q (keep_code P u) → Goes (length P.words) (mk P c cs hid q (x ∷ aimed u j ops) σ t) (mk P c cs hid (suc q) ops (stored v x σ) t)
        by_target (whole v₀) e h = subst (λ w. Goes (length P.words) (mk P c cs hid q (x ∷ ops) σ t) (mk P c cs hid (suc q) ops (stored w x σ) t)) (sym e) (stores lk.few hid g v₀ x (subst (λ w. Holds P B w τ) e hl) h)
        by_target (item pl a e₀) e h = subst (λ w. Goes (length P.words) (mk P c cs hid q (x ∷ pos j ∷ ops) σ t) (mk P c cs hid (suc q) ops (stored w x σ) t)) (sym e) (stores_element lk.few hid g a.base j x (subst (λ w. Holds P B w τ) e hl) h)

    -- its value is loaded, above a word
    fetches_value : {q : ℕ} {y : ℤ} (τ : BasicType) → length B.words + length hid ≤ 64 → Has c q (fetch_code P u) → Holds P B v τ
        → Steps (length P.words) (mk P c cs hid q (y ∷ aimed u j []) σ t) (mk P c cs hid (fetch_end u q) (read v σ ∷ y ∷ aimed u j []) σ t)
    fetches_value {q} {y} τ f h hl = by_target u e h
      where
        by_target : (u : Target) → Aims u v j → Has c q (fetch_code P u) → Steps (length P.words) (mk P c cs hid q (y ∷ aimed u j []) σ t) (mk P c cs hid (fetch_end u q) (read v σ ∷ y ∷ aimed u j []) σ t)
        by_target (whole v₀) e h = subst (λ w. Steps (length P.words) (mk P c cs hid q (y ∷ []) σ t) (mk P c cs hid (suc q) (read w σ ∷ y ∷ []) σ t)) (sym e) (go (loads lk.few hid g v₀ (subst (λ w. Holds P B w τ) e hl) h.0 (omega arith)) here)
        by_target (item pl a e₀) e h =
            subst (λ w. Steps (length P.words) (mk P c cs hid q (y ∷ pos j ∷ []) σ t) (mk P c cs hid (suc (suc q)) (read w σ ∷ y ∷ pos j ∷ []) σ t)) (sym e)
            (go (next h.0 (obeys_copy (room hid (y ∷ pos j ∷ []) g (omega arith)))) (go (loads_element lk.few hid g a.base j (subst (λ w. Holds P B w τ) e hl) h.1.0 (omega arith)) here))

  -- a channel is brought above the element's number
  raises : {κ q : ℕ} {σ : State} {t : List Mark} {y : ℤ} (hid : List ℤ) (u : Target) (j : ℕ) → length B.words + length hid ≤ 64 → Has c q (raise_code P u) → Good P B below κ t σ
      → Steps (length P.words) (mk P c cs hid q (aimed u j (y ∷ [])) σ t) (mk P c cs hid (raise_end u q) (y ∷ aimed u j []) σ t)
  raises hid (whole v) j f h g = here
  raises {y = y} hid (item pl a e) j f h g = go (next h.0 (obeys_swap (room hid (y ∷ []) g (omega arith)))) here

  -- a channel is checked before anything else
  do_channel : {A X : Type 0} {G : A → State → X → Type 0} {L : A → State → X → Traced} {κ q pl : ℕ} {σ : State} {t : List Mark} {r : Res A} (y : ℤ) (hid : List ℤ) → At c q (at_place pl op.Channel 0) → Good P B below κ t σ
      → (is_channel y ≡ true → After P (suc n) G L (mk P c cs hid (suc q) (y ∷ []) σ t) r)
      → (b : Bool) → is_channel y ≡ b → After P (suc n) G L (mk P c cs hid q (y ∷ []) σ t) (checked b 4 pl σ r)
  do_channel y hid h g f true e = step_in (next h (obeys_channel e)) (f e)
  do_channel y hid h g f false e = trapped hid g h (fails_channel e)

  -- a statement's surroundings
  module _ (l : Bool) (κ k x : ℕ) (kept free : List ℤ) (m : ℕ) (long : length free ≡ m) (roomy : length B.words + (length kept + m) ≤ 64) where
    fit : length B.words + length (kept ++ free) ≤ 64
    fit = let e = length-append kept free in omega arith

    abbrev Runs : ℕ → Traced → Res Flow → Type 0
    Runs q s r = After P (suc n) (good_s P B below l κ k m) (land_s P c cs kept q x) s r

    -- a variable is changed by y
    module _ (u : Target) (v : Variable) (j : ℕ) (σ : State) (t : List Mark) (y : ℤ) (pl q : ℕ) (e : Aims u v j) (g : Good P B below κ t σ) where
      low : length B.words + length (kept ++ free) + length (y ∷ aimed u j []) < 256
      low = let s = aimed_short u j [] in let f = fit in omega arith

      lower : length B.words + length (kept ++ free) + length (aimed u j []) < 256
      lower = let s = aimed_short u j [] in let f = fit in omega arith

      keep_it : (τ : BasicType) (z : ℤ) (q : ℕ) → Value τ z → Holds P B v τ → At c q (keep_code P u) → Runs (suc q) (mk P c cs (kept ++ free) q (z ∷ aimed u j []) σ t) (done falls (stored v z σ))
      keep_it τ z q vz hl h = lands {x = (t, free)} (g_store v z hl vz g, long) (go (keeps u v j (kept ++ free) e g τ h hl) here)

      do_update : (o : Update) → Holds P B v (changes o) → Has c q (update_code pl o) → At c (update_end o q) (keep_code P u)
          → (r : Option ℤ) → updated o (read v σ) y ≡ r → Runs (suc (update_end o q)) (mk P c cs (kept ++ free) q (read v σ ∷ y ∷ aimed u j []) σ t) (revised r (update_trap o) pl v σ)
      unfolding updated binary_answer
      do_update increase hl h h₁ (Some z) eq =
          step_in (next h.0 (obeys_binary (room (kept ++ free) (aimed u j []) g lower) add y (read v σ) z (ap (kept_in integer) (+ℤ_comm y (read v σ)) ∙ eq)))
          (keep_it INTEGER z (suc q) (answered_with (Value INTEGER) _ z eq (update_value increase (read v σ) y)) hl h₁)
      do_update increase hl h h₁ None eq = trapped (kept ++ free) g h.0 (fails_binary add y (read v σ) (ap (kept_in integer) (+ℤ_comm y (read v σ)) ∙ eq))
      do_update decrease hl h h₁ (Some z) eq =
          step_in (next h.0 (obeys_swap (room (kept ++ free) (y ∷ aimed u j []) g low)))
          (step_in (next h.1.0 (obeys_binary (room (kept ++ free) (aimed u j []) g lower) subtract (read v σ) y z eq))
          (keep_it INTEGER z (suc (suc q)) (answered_with (Value INTEGER) _ z eq (update_value decrease (read v σ) y)) hl h₁))
      do_update decrease hl h h₁ None eq =
          step_in (next h.0 (obeys_swap (room (kept ++ free) (y ∷ aimed u j []) g low))) (trapped (kept ++ free) g h.1.0 (fails_binary subtract (read v σ) y eq))
      do_update include hl h h₁ (Some z) eq =
          step_in (next h.0 (obeys_include (room (kept ++ free) (aimed u j []) g lower) (read v σ) y z eq)) (keep_it BITSET z (suc q) (answered_with (Value BITSET) _ z eq (update_value include (read v σ) y)) hl h₁)
      do_update include hl h h₁ None eq = trapped (kept ++ free) g h.0 (fails_include (read v σ) y eq)
      do_update exclude hl h h₁ (Some z) eq =
          step_in (next h.0 (obeys_exclude (room (kept ++ free) (aimed u j []) g lower) (read v σ) y z eq)) (keep_it BITSET z (suc q) (answered_with (Value BITSET) _ z eq (update_value exclude (read v σ) y)) hl h₁)
      do_update exclude hl h h₁ None eq = trapped (kept ++ free) g h.0 (fails_exclude (read v σ) y eq)

      -- a sample is received, or awaited
      do_take : is_channel y ≡ true → Holds P B v INTEGER → At c q (at_place pl op.Take 0) → At c (suc q) (keep_code P u)
          → (r : Option ℤ) → oldest (σ.port (nat_abs y)).waiting ≡ r → Runs (suc (suc q)) (mk P c cs (kept ++ free) q (y ∷ aimed u j []) σ t) (received r (nat_abs y) pl v σ)
      do_take ch hl h h₁ (Some z) eq =
          let g₁ = g_event (took (nat_abs y) z) g in
          step_in (receives h ch eq)
          (lands {x = (passed (took (nat_abs y) z) ∷ t, free)} (g_store v z hl (sample_value (nat_abs y) z eq g) g₁, long) (go (keeps u v j (kept ++ free) e g₁ INTEGER h₁ hl) here))
      do_take ch hl h h₁ None eq =
          stops (record { credit = κ; thin = g.thin; globals = refl; answer = answer.Waits (nat_abs y) pl; halts = awaits c cs q pl σ.port (σ.globals ++ spare P) (σ.locals ++ (kept ++ free)) (aimed u j []) y h ch eq; shows = refl }) here

  -- the hidden words of a FOR: its term a and its limit b
  module _ (kept : List ℤ) (d : ℕ) (deep : length kept ≡ 2 * d) {κ : ℕ} {σ : State} {t : List Mark} (g : Good P B below κ t σ) where
    abbrev slot : ℕ
    slot = length B.words + 2 * d

    slot_is : slot ≡ length σ.locals + length kept
    slot_is = let e = locals_length g in omega arith

    module _ {q : ℕ} (a b : ℤ) (r ops : List ℤ) where
      load_term : length B.words + length (kept ++ (a ∷ b ∷ r)) + length ops < 256 → At c q (plain op.Local slot) → Goes (length P.words) (mk P c cs (kept ++ (a ∷ b ∷ r)) q ops σ t) (mk P c cs (kept ++ (a ∷ b ∷ r)) (suc q) (a ∷ ops) σ t)
      load_term f h =
          let w = slots_within σ.locals kept a b r slot slot_is in
          subst (λ z. Goes (length P.words) (mk P c cs (kept ++ (a ∷ b ∷ r)) q ops σ t) (mk P c cs (kept ++ (a ∷ b ∷ r)) (suc q) (z ∷ ops) σ t)) (first_slot σ.locals kept a b r slot slot_is)
          (next h (obeys_local (room (kept ++ (a ∷ b ∷ r)) ops g f) (omega arith)))

      load_limit : length B.words + length (kept ++ (a ∷ b ∷ r)) + length ops < 256 → At c q (plain op.Local (suc slot)) → Goes (length P.words) (mk P c cs (kept ++ (a ∷ b ∷ r)) q ops σ t) (mk P c cs (kept ++ (a ∷ b ∷ r)) (suc q) (b ∷ ops) σ t)
      load_limit f h =
          subst (λ z. Goes (length P.words) (mk P c cs (kept ++ (a ∷ b ∷ r)) q ops σ t) (mk P c cs (kept ++ (a ∷ b ∷ r)) (suc q) (z ∷ ops) σ t)) (second_slot σ.locals kept a b r slot slot_is)
          (next h (obeys_local (room (kept ++ (a ∷ b ∷ r)) ops g f) (slots_within σ.locals kept a b r slot slot_is)))

      keep_term : (z : ℤ) → At c q (plain op.StoreLocal slot) → Goes (length P.words) (mk P c cs (kept ++ (a ∷ b ∷ r)) q (z ∷ ops) σ t) (mk P c cs (kept ++ (z ∷ b ∷ r)) (suc q) ops σ t)
      keep_term z h =
          let w = slots_within σ.locals kept a b r slot slot_is in
          subst (λ vs. Goes (length P.words) (mk P c cs (kept ++ (a ∷ b ∷ r)) q (z ∷ ops) σ t) (traced c (memory (σ.globals ++ spare P) vs ops cs (suc q)) σ.port t)) (set_first σ.locals kept a b r slot slot_is z)
          (next h (obeys_store_local (omega arith)))

      keep_limit : (z : ℤ) → At c q (plain op.StoreLocal (suc slot)) → Goes (length P.words) (mk P c cs (kept ++ (a ∷ b ∷ r)) q (z ∷ ops) σ t) (mk P c cs (kept ++ (a ∷ z ∷ r)) (suc q) ops σ t)
      keep_limit z h =
          subst (λ vs. Goes (length P.words) (mk P c cs (kept ++ (a ∷ b ∷ r)) q (z ∷ ops) σ t) (traced c (memory (σ.globals ++ spare P) vs ops cs (suc q)) σ.port t)) (set_second σ.locals kept a b r slot slot_is z)
          (next h (obeys_store_local (slots_within σ.locals kept a b r slot slot_is)))

  -- whether the first term surpasses the limit
  tests_first : {κ q : ℕ} {σ : State} {t : List Mark} (hid : List ℤ) (i l s : ℤ) → length B.words + length hid ≤ 64 → Good P B below κ t σ → At c q (plain (first_test P s) 0)
      → Goes (length P.words) (mk P c cs hid q (l ∷ i ∷ []) σ t) (mk P c cs hid (suc q) (truth (continues i l s) ∷ []) σ t)
  unfolding binary_answer
  tests_first {q = q} {σ = σ} {t = t} hid i l s f g h = by_sign (le_z (pos 0) s) h
    where
      by_sign : (b : Bool) → At c q (plain (cond b op.LessEqual op.GreaterEqual) 0) → Goes (length P.words) (mk P c cs hid q (l ∷ i ∷ []) σ t) (mk P c cs hid (suc q) (truth (cond b (le_z i l) (le_z l i)) ∷ []) σ t)
      by_sign true h = next h (obeys_binary (room hid [] g (omega arith)) at_most i l (truth (le_z i l)) refl)
      by_sign false h = next h (obeys_binary (room hid [] g (omega arith)) at_least i l (truth (le_z l i)) refl)

  -- the rounds of a FOR at Q, whose body ends at Z
  module _ (l : Bool) (κ k x : ℕ) (owes : Owes B.kind κ k) (kept : List ℤ) (d : ℕ) (deep : length kept ≡ 2 * d) (m : ℕ) (roomy : length B.words + (length kept + suc (suc m)) ≤ 64)
      (v : Variable) (hv : Holds P B v INTEGER) (limit step : ℤ) (hl : Within integer limit) (hs : Value INTEGER step) (not-0 : step ≡ pos 0 → ⊥) (s : Stat) (Q Z : ℕ) (up : Q ≤ Z)
      (h₀ : At c Q (plain op.Local (length B.words + 2 * d))) (h₁ : At c (suc Q) (store v))
      (h₂ : At c Z (plain op.Local (length B.words + 2 * d))) (h₃ : At c (suc Z) (plain op.Local (suc (length B.words + 2 * d)))) (h₄ : At c (suc (suc Z)) (constant_code INTEGER step))
      (h₅ : At c (suc (suc (suc Z))) (plain op.Advance 0)) (h₆ : At c (suc (suc (suc (suc Z)))) (plain op.StoreLocal (length B.words + 2 * d))) (h₇ : At c (suc (suc (suc (suc (suc Z))))) (plain op.JumpIf Q))
      (body : (kept₁ free : List ℤ) → length free ≡ m → length kept₁ ≡ 2 * suc d → (σ : State) (t : List Mark) → Good P B below (suc κ) t σ
      → After P (suc n) (good_s P B below l (suc κ) (suc k) m) (land_s P c cs kept₁ Z x) (mk P c cs (kept₁ ++ free) (suc (suc Q)) [] σ t) (exec_with P rec s σ)) where
    abbrev END : ℕ
    END = suc (suc (suc (suc (suc (suc Z)))))

    abbrev Rounds : Traced → Res Flow → Type 0
    Rounds s r = After P (suc n) (good_s P B below l κ k (suc (suc m))) (land_s P c cs kept END x) s r

    fit_for : (i : ℤ) (r : List ℤ) → length r ≡ m → length B.words + length (kept ++ (i ∷ limit ∷ r)) ≤ 64
    fit_for i r e = let a = length-append kept (i ∷ limit ∷ r) in omega arith

    -- the rounds from a term on, where j more are to come behind it
    abbrev From : ℕ → Type 0
    From j =
        (i : ℤ) (r : List ℤ) → length r ≡ m → terms i limit step ≡ suc j → Within integer i → (σ : State) (t : List Mark) → Good P B below κ t σ
        → Rounds (mk P c cs (kept ++ (i ∷ limit ∷ r)) Q [] σ t) (for_rounds (suc j) v i step (exec_with P rec s) σ)

    module _ (j : ℕ) (later : (j₁ : ℕ) → j ≡ suc j₁ → From j₁) (i : ℤ) (some : terms i limit step ≡ suc j) (within-i : Within integer i) where
      -- the step, and the next round or the end
      module _ (r : List ℤ) (long : length r ≡ m) (σ : State) (t : List Mark) (g : Good P B below (suc κ) t σ) where
        abbrev hid : List ℤ
        hid = kept ++ (i ∷ limit ∷ r)

        next_round : (j₁ : ℕ) → j ≡ j₁ → Rounds (mk P c cs (kept ++ (following i limit step ∷ limit ∷ r)) (suc (suc (suc (suc (suc Z))))) (truth (advances i limit step) ∷ []) σ t) (for_rounds j₁ v (i +ℤ step) step (exec_with P rec s) σ)
        unfolding for_rounds
        next_round zero e =
            let no : advances i limit step ≡ false = terms_none (i +ℤ step) limit step (terms_next i limit step j not-0 some ∙ e) in
            let fl : fails (truth (advances i limit step)) ≡ true = ap (λ b. fails (truth b)) no in
            lands {x = (t, following i limit step ∷ limit ∷ r)} (g_lose g, ap (λ z. suc (suc z)) long) (go (next h₇ (obeys_stay_if fl)) here)
        next_round (suc j₁) e =
            let more : terms (i +ℤ step) limit step ≡ suc j₁ = terms_next i limit step j not-0 some ∙ e in
            let yes : advances i limit step ≡ true = terms_some (i +ℤ step) limit step j₁ more in
            let fl : fails (truth (advances i limit step)) ≡ false = ap (λ b. fails (truth b)) yes in
            let is : i +ℤ step ≡ following i limit step = sym (ap (λ b. cond b (i +ℤ step) i) yes) in
            step_in (back {q = Q} h₇ (obeys_jump_if fl) (omega arith))
            (subst (λ z. Rounds (mk P c cs (kept ++ (z ∷ limit ∷ r)) Q [] σ (turned ∷ t)) (for_rounds (suc j₁) v (i +ℤ step) step (exec_with P rec s) σ)) is
            (later j₁ e (i +ℤ step) r long more (terms_next_within i limit step j₁ not-0 (some ∙ ap suc e) within-i hl) σ (turned ∷ t) (g_turn g)))

        next_term : Rounds (mk P c cs hid Z [] σ t) (for_rounds j v (i +ℤ step) step (exec_with P rec s) σ)
        next_term =
            let f = fit_for i r long in
            step_in (load_term kept d deep g i limit r [] (omega arith) h₂)
            (step_in (load_limit kept d deep g i limit r (i ∷ []) (omega arith) h₃)
            (step_in (loads_constant lk.few hid g INTEGER step hs h₄ (omega arith))
            (step_in (next h₅ (obeys_advance (room hid (i ∷ []) g (omega arith))))
            (step_in (keep_term kept d deep g i limit r (truth (advances i limit step) ∷ []) (following i limit step) h₆) (next_round j refl)))))

      -- behind the body
      turn_end : (f : Flow) (σ₁ : State) (y : List Mark × List ℤ) → good_s P B below l (suc κ) (suc k) m f σ₁ y → Rounds (land_s P c cs (kept ++ (i ∷ limit ∷ [])) Z x f σ₁ y) (onward f σ₁ (for_rounds j v (i +ℤ step) step (exec_with P rec s) σ₁))
      turn_end falls σ₁ y h =
          subst (λ hs. Rounds (mk P c cs hs Z [] σ₁ y.0) (for_rounds j v (i +ℤ step) step (exec_with P rec s) σ₁)) (sym (slots_open kept i limit y.1)) (next_term y.1 h.1 σ₁ y.0 h.0)
      turn_end exits σ₁ y h =
          subst (λ hs. Rounds (mk P c cs hs x [] σ₁ y.0) (done exits σ₁)) (sym (slots_open kept i limit y.1))
          (lands {x = (y.0, i ∷ limit ∷ y.1)} (h.0, (g_lose h.1.0, ap (λ z. suc (suc z)) h.1.1)) here)
      turn_end returns σ₁ y h = lands {x = y} (h.0, g_lose h.1) here
      turn_end (gives z) σ₁ y h = lands {x = y} (h.0, g_lose h.1) here

      one_round : (r : List ℤ) → length r ≡ m → (σ : State) (t : List Mark) → Good P B below κ t σ → Rounds (mk P c cs (kept ++ (i ∷ limit ∷ r)) Q [] σ t) (for_rounds (suc j) v i step (exec_with P rec s) σ)
      unfolding for_rounds
      one_round r long σ t g =
          let f = fit_for i r long in
          let g₁ = g_round g in
          let long₁ : length (kept ++ (i ∷ limit ∷ [])) ≡ 2 * suc d = let a = length-append kept (i ∷ limit ∷ []) in omega arith in
          step_in (load_term kept d deep g₁ i limit r [] (omega arith) h₀)
          (step_in (stores lk.few (kept ++ (i ∷ limit ∷ r)) g₁ v i hv h₁)
          (bind_l (subst (λ hs. After P (suc n) (good_s P B below l (suc κ) (suc k) m) (land_s P c cs (kept ++ (i ∷ limit ∷ [])) Z x) (mk P c cs hs (suc (suc Q)) [] (stored v i (tick round σ)) t) (exec_with P rec s (stored v i (tick round σ)))) (slots_open kept i limit r)
          (body (kept ++ (i ∷ limit ∷ [])) r long long₁ (stored v i (tick round σ)) t (g_store v i hv within-i g₁)))
          turn_end))

    rounds : (j : ℕ) → From j
    rounds zero i r long some w σ t g = one_round zero (λ j₁ e. absurd (omega arith)) i some w r long σ t g
    rounds (suc j) i r long some w σ t g = one_round (suc j) (λ j₁ e. let e₁ : j ≡ j₁ = cc in subst From e₁ (rounds j)) i some w r long σ t g

  -- behind the first of two statements
  and_then : (l : Bool) (d x : ℕ) (run : Rec) (u : Stat) (q : ℕ) → SimS P B cs below c run (suc n) l d x u q → (κ k : ℕ) → Owes B.kind κ k → (kept : List ℤ) (m : ℕ) → length kept ≡ 2 * d → 2 * for_depth u ≤ m → length B.words + (length kept + m) ≤ 64
      → (f : Flow) (σ : State) (y : List Mark × List ℤ) → good_s P B below l κ k m f σ y → After P (suc n) (good_s P B below l κ k m) (land_s P c cs kept (stat_end u q) x) (land_s P c cs kept q x f σ y) (onward f σ (run u σ))
  and_then l d x run u q sim κ k o kept m deep fors roomy falls σ y h = sim κ k o kept y.1 m h.1 deep fors roomy σ y.0 h.0
  and_then l d x run u q sim κ k o kept m deep fors roomy exits σ y h = lands {x = y} h here
  and_then l d x run u q sim κ k o kept m deep fors roomy returns σ y h = lands {x = y} h here
  and_then l d x run u q sim κ k o kept m deep fors roomy (gives v) σ y h = lands {x = y} h here

  -- past the other way of an IF
  pass_by : (l : Bool) (κ k m x q r : ℕ) (kept : List ℤ) → q < r → At c q (plain op.Jump r) → (f : Flow) (σ : State) (y : List Mark × List ℤ) → good_s P B below l κ k m f σ y
      → (z : List Mark × List ℤ) × (good_s P B below l κ k m f σ z × Steps (length P.words) (land_s P c cs kept q x f σ y) (land_s P c cs kept r x f σ z))
  pass_by l κ k m x q r kept lt h falls σ y g = (y, (g, go (ahead h obeys_jump lt) here))
  pass_by l κ k m x q r kept lt h exits σ y g = (y, (g, here))
  pass_by l κ k m x q r kept lt h returns σ y g = (y, (g, here))
  pass_by l κ k m x q r kept lt h (gives v) σ y g = (y, (g, here))

  -- out of a loop's body, which had a turn more to spend
  lose_out : (l : Bool) (κ k m x q r : ℕ) (kept : List ℤ) → (f : Flow) (σ : State) (y : List Mark × List ℤ) (K : Res Flow) → good_s P B below l (suc κ) (suc k) m f σ y
      → ((y : List Mark × List ℤ) → Good P B below (suc κ) y.0 σ × (length y.1 ≡ m) → After P (suc n) (good_s P B below l κ k m) (land_s P c cs kept r x) (mk P c cs (kept ++ y.1) q [] σ y.0) K)
      → After P (suc n) (good_s P B below l κ k m) (land_s P c cs kept r x) (land_s P c cs kept q x f σ y) (onward f σ K)
  lose_out l κ k m x q r kept falls σ y K h on = on y h
  lose_out l κ k m x q r kept exits σ y K h on = lands {x = y} (h.0, (g_lose h.1.0, h.1.1)) here
  lose_out l κ k m x q r kept returns σ y K h on = lands {x = y} (h.0, g_lose h.1) here
  lose_out l κ k m x q r kept (gives v) σ y K h on = lands {x = y} (h.0, g_lose h.1) here

  -- the body of a LOOP: EXIT comes to its end
  round_about : (l : Bool) (κ k m x q r : ℕ) (kept : List ℤ) → (f : Flow) (σ : State) (y : List Mark × List ℤ) (K : Res Flow) → good_s P B below true (suc κ) (suc k) m f σ y
      → ((y : List Mark × List ℤ) → Good P B below (suc κ) y.0 σ × (length y.1 ≡ m) → After P (suc n) (good_s P B below l κ k m) (land_s P c cs kept r x) (mk P c cs (kept ++ y.1) q [] σ y.0) K)
      → After P (suc n) (good_s P B below l κ k m) (land_s P c cs kept r x) (land_s P c cs kept q r f σ y) (around f σ K)
  round_about l κ k m x q r kept falls σ y K h on = on y h
  round_about l κ k m x q r kept exits σ y K h on = lands {x = y} (g_lose h.1.0, h.1.1) here
  round_about l κ k m x q r kept returns σ y K h on = lands {x = y} (h.0, g_lose h.1) here
  round_about l κ k m x q r kept (gives v) σ y K h on = lands {x = y} (h.0, g_lose h.1) here

  -- a call of a procedure without a result
  performed : (l : Bool) (κ k m x q : ℕ) (kept free : List ℤ) → length free ≡ m → (g : ℕ) (inside : g < length P.procedures) (σ : State) (t : List Mark) (good : Good P B below κ t σ) (fits : length B.words + length (kept ++ free) + (0 + 1) ≤ 256)
      → (procedure P g).result ≡ None → (z : ℕ) (f : Flow) (σ₂ : State) (y : List Mark × List ℤ) → good_s P (block (procedure P g)) (σ.locals ∷ below) false (suc κ) κ z f σ₂ y
      → After P n (good_s P B below l κ k m) (land_s P c cs kept (suc q) x) (land_s P c (waiting P c lk rec n ih B cs below gr (kept ++ free) g inside q [] κ σ t good fits ∷ cs) [] (stat_end (procedure P g).body (suc (entry P.procedures first g))) 0 f σ₂ y) (done falls (leave σ₂))
  performed l κ k m x q kept free long g inside σ t good fits e z falls σ₂ y h =
      let g₂ = g_turn h.0 in
      let at_end = subst (λ o. At c (stat_end (procedure P g).body (suc (entry P.procedures first g))) (closing P o (procedure P g).end)) e (closing_at P c lk rec n ih B cs below gr (kept ++ free) g inside q [] κ σ t good fits) in
      subst (λ s. After P n (good_s P B below l κ k m) (land_s P c cs kept (suc q) x) (mk P c (waiting P c lk rec n ih B cs below gr (kept ++ free) g inside q [] κ σ t good fits ∷ cs) y.1 (stat_end (procedure P g).body (suc (entry P.procedures first g))) [] σ₂ y.0) (done falls s)) (left_is P c lk rec n ih B cs below gr (kept ++ free) g inside q [] κ σ t good fits g₂)
      (lands {x = (turned ∷ y.0, free)} (left_good P c lk rec n ih B cs below gr (kept ++ free) g inside q [] κ σ t good fits g₂, long) (go (closes at_end) here))
  performed l κ k m x q kept free long g inside σ t good fits e z exits σ₂ y h = absurd h.0
  performed l κ k m x q kept free long g inside σ t good fits e z returns σ₂ y h =
      subst (λ s. After P n (good_s P B below l κ k m) (land_s P c cs kept (suc q) x) (returned P c (waiting P c lk rec n ih B cs below gr (kept ++ free) g inside q [] κ σ t good fits ∷ cs) [] σ₂ y.0) (done falls s)) (left_is P c lk rec n ih B cs below gr (kept ++ free) g inside q [] κ σ t good fits h.1)
      (lands {x = (y.0, free)} (left_good P c lk rec n ih B cs below gr (kept ++ free) g inside q [] κ σ t good fits h.1, long) here)
  performed l κ k m x q kept free long g inside σ t good fits e z (gives v) σ₂ y h = absurd (subst (λ o. Given (kind_of o) v) e h.0)

  -- RETURN, by the block that it stands in
  do_returns : (l : Bool) (κ k m x p q : ℕ) (kept free : List ℤ) (σ : State) (t : List Mark) (b : BlockKind) → B.kind ≡ b → Owes b κ k → Inside b cs → Returns P B b → At c p (plain op.Return 0) → Good P B below κ t σ
      → After P (suc n) (good_s P B below l κ k m) (land_s P c cs kept q x) (mk P c cs (kept ++ free) p [] σ t) (done returns σ)
  do_returns l κ k m x p q kept free σ t in_module e o i w h g = absurd w
  do_returns l κ k m x p q kept free σ t in_procedure e o i w h g = do_return l cs kept free i (subst (Returns P B) (sym e) w) o h g
  do_returns l κ k m x p q kept free σ t (in_function τ) e o i w h g = absurd w

  do_gives : (l : Bool) (κ k m x p q : ℕ) (kept free : List ℤ) → length B.words + length (kept ++ free) ≤ 64 → (e₀ : Expr) → Has c p (expr_code P e₀ p) → (σ : State) (t : List Mark) (b : BlockKind) → B.kind ≡ b → Owes b κ k → Inside b cs → Gives P B b e₀ → At c (expr_end e₀ p) (plain op.ReturnValue 0) → Good P B below κ t σ
      → After P (suc n) (good_s P B below l κ k m) (land_s P c cs kept q x) (mk P c cs (kept ++ free) p [] σ t) (bind (eval_with P rec e₀ σ) (λ v σ₁. done (gives v) σ₁))
  do_gives l κ k m x p q kept free f e₀ hs σ t in_module e o i w h g = absurd w
  do_gives l κ k m x p q kept free f e₀ hs σ t in_procedure e o i w h g = absurd w
  do_gives l κ k m x p q kept free f e₀ hs σ t (in_function τ) e o i w h g =
      let s = expr_fits P B lk.formed e₀ τ w in
      bind_l (sim_e P c lk rec n ih B cs below gr (kept ++ free) e₀ τ w.0 p hs κ [] σ t g (omega arith)) λ v σ₁ t₁ g₁.
      do_give l τ cs kept free i (subst (λ b. Given b v) (sym e) g₁.1) o h g₁.0

  -- a FOR whose hidden words are there
  module _ (l : Bool) (κ k x : ℕ) (o : Owes B.kind κ k) (kept : List ℤ) (d : ℕ) (deep : length kept ≡ 2 * d) (m : ℕ) (roomy : length B.words + (length kept + suc (suc m)) ≤ 64) (r : List ℤ) (long : length r ≡ m)
      (v : Variable) (a b : Expr) (step : ℤ) (s : Stat) (hv : Holds P B v INTEGER) (hs : Value INTEGER step) (not-0 : step ≡ pos 0 → ⊥) (p : ℕ) where
    abbrev Q : ℕ
    Q = expr_end b (suc (expr_end a p))

    abbrev Z' : ℕ
    Z' = stat_end s (further 7 Q)

    -- what stands behind the body, and before it
    abbrev behind_body : List Instruction
    behind_body =
        plain op.Local (length B.words + 2 * d) ∷ plain op.Local (suc (length B.words + 2 * d)) ∷ constant_code INTEGER step ∷ plain op.Advance 0
        ∷ plain op.StoreLocal (length B.words + 2 * d) ∷ plain op.JumpIf (further 5 Q) ∷ []

    abbrev from_test : List Instruction
    from_test = plain op.JumpUnless (stat_end (for v a b step s) p) ∷ plain op.Local (length B.words + 2 * d) ∷ store v ∷ (stat_code P (length B.words) (suc d) x s (further 7 Q) ++ behind_body)

    module _ (body : (kept₁ free : List ℤ) → length free ≡ m → length kept₁ ≡ 2 * suc d → (σ : State) (t : List Mark) → Good P B below (suc κ) t σ
        → After P (suc n) (good_s P B below l (suc κ) (suc k) m) (land_s P c cs kept₁ Z' x) (mk P c cs (kept₁ ++ free) (further 7 Q) [] σ t) (exec_with P rec s σ)) where
      by_count : (i : ℤ) → Within integer i → (limit : ℤ) → Within integer limit → (σ₂ : State) (t₂ : List Mark) → Good P B below κ t₂ σ₂ → Has c (further 4 Q) from_test → (j : ℕ) → terms i limit step ≡ j
          → After P (suc n) (good_s P B below l κ k (suc (suc m))) (land_s P c cs kept (stat_end (for v a b step s) p) x) (mk P c cs (kept ++ (i ∷ limit ∷ r)) (further 4 Q) (truth (continues i limit step) ∷ []) σ₂ t₂) (for_rounds j v i step (exec_with P rec s) σ₂)
      unfolding for_rounds
      by_count i wi limit wl σ₂ t₂ g₂ h zero e =
          let up = up_s s (further 7 Q) in
          let fl : fails (truth (continues i limit step)) ≡ true = ap (λ b. fails (truth b)) (terms_none i limit step e) in
          lands {x = (t₂, i ∷ limit ∷ r)} (g₂, ap (λ y. suc (suc y)) long) (go (ahead h.0 (obeys_jump_unless fl) (omega arith)) here)
      by_count i wi limit wl σ₂ t₂ g₂ h (suc j) e =
          let up = up_s s (further 7 Q) in
          let fl : fails (truth (continues i limit step)) ≡ false = ap (λ b. fails (truth b)) (terms_some i limit step j e) in
          let hz = has_s P c (length B.words) (suc d) x s (further 7 Q) behind_body h.1.1.1 in
          step_in (next h.0 (obeys_stay_unless fl))
          (rounds l κ k x o kept d deep m roomy v hv limit step wl hs not-0 s (further 5 Q) Z' (omega arith) h.1.0 h.1.1.0
          hz.1.0 hz.1.1.0 hz.1.1.1.0 hz.1.1.1.1.0 hz.1.1.1.1.1.0 hz.1.1.1.1.1.1.0
          body j i r long e wi σ₂ t₂ g₂)

      do_for : (a₀ b₀ : ℤ) → Fits P B a INTEGER → Fits P B b INTEGER → Has c p (stat_code P (length B.words) d x (for v a b step s) p) → (σ : State) (t : List Mark) → Good P B below κ t σ
          → After P (suc n) (good_s P B below l κ k (suc (suc m))) (land_s P c cs kept (stat_end (for v a b step s) p) x) (mk P c cs (kept ++ (a₀ ∷ b₀ ∷ r)) p [] σ t) (exec_with P rec (for v a b step s) σ)
      unfolding exec_with
      do_for a₀ b₀ wa wb h σ t g =
          let fa = expr_fits P B lk.formed a INTEGER wa in
          let fb = expr_fits P B lk.formed b INTEGER wb in
          let ha = has_e P c a p _ h in
          let hb = has_e P c b (suc (expr_end a p)) _ ha.1.1 in
          let h₁ = hb.1 in
          let e₀ = length-append kept (a₀ ∷ b₀ ∷ r) in
          bind_l (sim_e P c lk rec n ih B cs below gr (kept ++ (a₀ ∷ b₀ ∷ r)) a INTEGER wa.0 p ha.0 κ [] σ t g (omega arith)) λ i σ₁ t₁ g₁.
          let e₁ = length-append kept (i ∷ b₀ ∷ r) in
          step_in (keep_term kept d deep g₁.0 a₀ b₀ r [] i ha.1.0)
          (bind_l (sim_e P c lk rec n ih B cs below gr (kept ++ (i ∷ b₀ ∷ r)) b INTEGER wb.0 (suc (expr_end a p)) hb.0 κ [] σ₁ t₁ g₁.0 (omega arith)) λ limit σ₂ t₂ g₂.
          let e₂ = length-append kept (i ∷ limit ∷ r) in
          let f₂ : length B.words + length (kept ++ (i ∷ limit ∷ r)) ≤ 64 = omega arith in
          step_in (keep_limit kept d deep g₂.0 i b₀ r [] limit h₁.0)
          (step_in (load_term kept d deep g₂.0 i limit r [] (omega arith) h₁.1.0)
          (step_in (load_limit kept d deep g₂.0 i limit r (i ∷ []) (omega arith) h₁.1.1.0)
          (step_in (tests_first (kept ++ (i ∷ limit ∷ r)) i limit step f₂ g₂.0 h₁.1.1.1.0)
          (by_count i g₁.1 limit g₂.1 σ₂ t₂ g₂.0 h₁.1.1.1.1 (terms i limit step) refl)))))

  -- the test of a REPEAT, which goes back where it fails
  until : {A X : Type 0} {G : A → State → X → Type 0} {L : A → State → X → Traced} {p q : ℕ} {v : ℤ} {t : List Mark} {r r₁ : Res A} (hid : List ℤ) (σ : State)
      → At c q (plain op.JumpUnless p) → p ≤ q → After P n G L (mk P c cs hid p [] σ (turned ∷ t)) r → After P (suc n) G L (mk P c cs hid (suc q) [] σ t) r₁
      → (b : Bool) → fails v ≡ b → After P (suc n) G L (mk P c cs hid q (v ∷ []) σ t) (branch b r r₁)
  until hs σ h le a a₁ true e = pay (back h (obeys_jump_unless e) le) a
  until hs σ h le a a₁ false e = step_in (next h (obeys_stay_unless e)) a₁

  -- every statement, with one unit of fuel more
  sim_s : (l : Bool) (d x : ℕ) (s : Stat) → Statement P B l s → (p : ℕ) → Has c p (stat_code P (length B.words) d x s p) → (T l → stat_end s p ≤ x) → SimS P B cs below c (exec_with P rec) (suc n) l d x s p
  unfolding exec_with step
  sim_s l d x skip w p h ex κ k o kept free m long deep fors roomy σ t g = lands {x = (t, free)} (g, long) here
  sim_s l d x (assign u e) w p h ex κ k o kept free m long deep fors roomy σ t g =
      let τ = w.0 in
      let f = fit l κ k x kept free m long roomy in
      let fu = target_fits P B lk.formed u τ w.1.0 in
      let fe = expr_fits P B lk.formed e τ w.1.1 in
      let hu = has_t P c u p _ h in
      let he = has_e P c e (target_end u p) _ hu.1 in
      bind_l (sim_t P c lk rec n ih B cs below gr (kept ++ free) u τ w.1.0 p hu.0 κ [] σ t g (omega arith)) λ v σ₁ y g₁.
      let a = aimed_short u y.1 [] in
      bind_l (sim_e P c lk rec n ih B cs below gr (kept ++ free) e τ w.1.1.0 (target_end u p) he.0 κ (aimed u y.1 []) σ₁ y.0 g₁.0 (omega arith)) λ z σ₂ t₂ g₂.
      lands {x = (t₂, free)} (g_store v z g₁.1.0 g₂.1 g₂.0, long) (go (keeps u v y.1 (kept ++ free) g₁.1.1 g₂.0 τ he.1.0 g₁.1.0) here)
  sim_s l d x (update pl up u e) w p h ex κ k o kept free m long deep fors roomy σ t g =
      let τ = changes up in
      let f = fit l κ k x kept free m long roomy in
      let fu = target_fits P B lk.formed u τ w.0 in
      let fe = expr_fits P B lk.formed e INTEGER w.1 in
      let hu = has_t P c u p _ h in
      let he = has_e P c e (target_end u p) _ hu.1 in
      let hf = has_f P c u (expr_end e (target_end u p)) _ he.1 in
      let ho = has_u P c pl up (fetch_end u (expr_end e (target_end u p))) _ hf.1 in
      bind_l (sim_t P c lk rec n ih B cs below gr (kept ++ free) u τ w.0 p hu.0 κ [] σ t g (omega arith)) λ v σ₁ y g₁.
      let a = aimed_short u y.1 [] in
      bind_l (sim_e P c lk rec n ih B cs below gr (kept ++ free) e INTEGER w.1.0 (target_end u p) he.0 κ (aimed u y.1 []) σ₁ y.0 g₁.0 (omega arith)) λ z σ₂ t₂ g₂.
      prepend (fetches_value u v y.1 (kept ++ free) g₁.1.1 g₂.0 τ f hf.0 g₁.1.0)
      (do_update l κ k x kept free m long roomy u v y.1 σ₂ t₂ z pl (fetch_end u (expr_end e (target_end u p))) g₁.1.1 g₂.0 up g₁.1.0 ho.0 ho.1.0 (updated up (read v σ₂) z) refl)
  sim_s l d x (take pl e u) w p h ex κ k o kept free m long deep fors roomy σ t g =
      let f = fit l κ k x kept free m long roomy in
      let fe = expr_fits P B lk.formed e INTEGER w.0 in
      let fu = target_fits P B lk.formed u INTEGER w.1 in
      let he = has_e P c e p _ h in
      let hu = has_t P c u (suc (expr_end e p)) _ he.1.1 in
      let hr = has_r P c u (target_end u (suc (expr_end e p))) _ hu.1 in
      bind_l (sim_e P c lk rec n ih B cs below gr (kept ++ free) e INTEGER w.0.0 p he.0 κ [] σ t g (omega arith)) λ ch σ₁ t₁ g₁.
      do_channel ch (kept ++ free) he.1.0 g₁.0
      (λ is. bind_l (sim_t P c lk rec n ih B cs below gr (kept ++ free) u INTEGER w.1 (suc (expr_end e p)) hu.0 κ (ch ∷ []) σ₁ t₁ g₁.0 (omega arith)) λ v σ₂ y g₂.
      prepend (raises (kept ++ free) u y.1 f hr.0 g₂.0)
      (do_take l κ k x kept free m long roomy u v y.1 σ₂ y.0 ch pl (raise_end u (target_end u (suc (expr_end e p)))) g₂.1.1 g₂.0 is g₂.1.0 hr.1.0 hr.1.1.0 (oldest (σ₂.port (nat_abs ch)).waiting) refl))
      (is_channel ch) refl
  sim_s l d x (put pl e e₁) w p h ex κ k o kept free m long deep fors roomy σ t g =
      let f = fit l κ k x kept free m long roomy in
      let fe = expr_fits P B lk.formed e INTEGER w.0 in
      let f₁ = expr_fits P B lk.formed e₁ INTEGER w.1 in
      let he = has_e P c e p _ h in
      let h₁ = has_e P c e₁ (suc (expr_end e p)) _ he.1.1 in
      bind_l (sim_e P c lk rec n ih B cs below gr (kept ++ free) e INTEGER w.0.0 p he.0 κ [] σ t g (omega arith)) λ ch σ₁ t₁ g₁.
      do_channel ch (kept ++ free) he.1.0 g₁.0
      (λ is. bind_l (sim_e P c lk rec n ih B cs below gr (kept ++ free) e₁ INTEGER w.1.0 (suc (expr_end e p)) h₁.0 κ (ch ∷ []) σ₁ t₁ g₁.0 (omega arith)) λ z σ₂ t₂ g₂.
      lands {x = (passed (set_to (nat_abs ch) z) ∷ t₂, free)} (g_event (set_to (nat_abs ch) z) g₂.0, long) (go (sets_to h₁.1.0 is (test_within integer z g₂.1)) here))
      (is_channel ch) refl
  sim_s l d x (perform pl g₀ es) w p h ex κ k o kept free m long deep fors roomy σ t g =
      let f = fit l κ k x kept free m long roomy in
      let fa = args_fit P B lk.formed es g₀ w.0 w.1.1.0 w.1.1.1 in
      let ha = has_a P c es p _ h in
      let τs = first_of (procedure P g₀).parameters (procedure P g₀).words in
      let ar = arguments_length P c lk rec n ih B cs below gr (kept ++ free) es τs w.1.1.0 in
      bind_l (sim_a P c lk rec n ih B cs below gr (kept ++ free) es τs w.1.1.0 p ha.0 κ [] σ t g (omega arith)) λ vs σ₁ t₁ g₁.
      do_call P c lk rec n ih B cs below gr (kept ++ free) g₀ w.0 (args_end es p) [] κ σ₁ t₁ g₁.0 (omega arith) vs g₁.1 pl es (λ fl σ₂. done falls (leave σ₂)) (ar ∙ sym (valued_length τs vs g₁.1)) ha.1.0
      (performed l κ k m x (args_end es p) kept free long g₀ w.0 σ₁ t₁ g₁.0 (omega arith) w.1.0 _) (openable σ₁) refl
  sim_s l d x (seq s u) w p h ex κ k o kept free m long deep fors roomy σ t g =
      let hs = has_s P c (length B.words) d x s p _ h in
      let up = up_s u (stat_end s p) in
      bind_l (sim_s l d x s w.0 p hs.0 (λ y. let e = ex y in omega arith) κ k o kept free m long deep (omega arith) roomy σ t g)
      (and_then l d x (exec_with P rec) u (stat_end s p) (sim_s l d x u w.1 (stat_end s p) hs.1 ex) κ k o kept m deep (omega arith) roomy)
  sim_s l d x (choose e s u) w p h ex κ k o kept free m long deep fors roomy σ t g =
      let f = fit l κ k x kept free m long roomy in
      let fe = expr_fits P B lk.formed e BOOLEAN w.0 in
      let he = has_e P c e p _ h in
      let hs = has_s P c (length B.words) d x s (suc (expr_end e p)) _ he.1.1 in
      let r = stat_end s (suc (expr_end e p)) in
      let l₁ = up_s s (suc (expr_end e p)) in
      let l₂ = up_s u (suc r) in
      bind_l (sim_e P c lk rec n ih B cs below gr (kept ++ free) e BOOLEAN w.0.0 p he.0 κ [] σ t g (omega arith)) λ v σ₁ t₁ g₁.
      unless P c lk rec n ih B cs below gr (kept ++ free) σ₁ he.1.0 (omega arith)
      (sim_s l d x u w.1.1 (suc r) hs.1.1 ex κ k o kept free m long deep (omega arith) roomy σ₁ t₁ g₁.0)
      (onto (sim_s l d x s w.1.0 (suc (expr_end e p)) hs.0 (λ y. let e = ex y in omega arith) κ k o kept free m long deep (omega arith) roomy σ₁ t₁ g₁.0)
      (pass_by l κ k m x r (stat_end u (suc r)) kept (omega arith) hs.1.0))
      (fails v) refl
  sim_s l d x (while e s) w p h ex κ k o kept free m long deep fors roomy σ t g =
      let f = fit l κ k x kept free m long roomy in
      let fe = expr_fits P B lk.formed e BOOLEAN w.0 in
      let he = has_e P c e p _ h in
      let hs = has_s P c (length B.words) d x s (suc (expr_end e p)) _ he.1.1 in
      let r = stat_end s (suc (expr_end e p)) in
      let l₁ = up_e e p in
      let l₂ = up_s s (suc (expr_end e p)) in
      bind_l (sim_e P c lk rec n ih B cs below gr (kept ++ free) e BOOLEAN w.0.0 p he.0 κ [] σ t g (omega arith)) λ v σ₁ t₁ g₁.
      unless P c lk rec n ih B cs below gr (kept ++ free) σ₁ he.1.0 (omega arith)
      (lands {x = (t₁, free)} (g₁.0, long) here)
      (bind_l (sim_s l d x s w.1 (suc (expr_end e p)) hs.0 (λ y. let e = ex y in omega arith) (suc κ) (suc k) (owes_more B.kind κ k o) kept free m long deep fors roomy (tick round σ₁) t₁ (g_round g₁.0))
      (λ fl σ₂ y g₂. lose_out l κ k m x r (suc r) kept fl σ₂ y (rec (while e s) σ₂) g₂
      (λ y g₃. pay (back {q = p} hs.1.0 obeys_jump (omega arith)) (ih B cs below gr l d x (while e s) w p h ex κ k o kept y.1 m g₃.1 deep fors roomy σ₂ (turned ∷ y.0) (g_turn g₃.0)))))
      (fails v) refl
  sim_s l d x (repeat s e) w p h ex κ k o kept free m long deep fors roomy σ t g =
      let fe = expr_fits P B lk.formed e BOOLEAN w.1 in
      let hs = has_s P c (length B.words) d x s p _ h in
      let r = stat_end s p in
      let he = has_e P c e r _ hs.1 in
      let l₁ = up_s s p in
      let l₂ = up_e e r in
      bind_l (sim_s l d x s w.0 p hs.0 (λ y. let e = ex y in omega arith) (suc κ) (suc k) (owes_more B.kind κ k o) kept free m long deep fors roomy (tick round σ) t (g_round g))
      (λ fl σ₁ y g₁. lose_out l κ k m x r (suc (expr_end e r)) kept fl σ₁ y (bind (eval_with P rec e σ₁) (λ v σ₂. branch (fails v) (rec (repeat s e) σ₂) (done falls σ₂))) g₁
      (λ y g₂. let f = fit l κ k x kept y.1 m g₂.1 roomy in
      bind_l (sim_e P c lk rec n ih B cs below gr (kept ++ y.1) e BOOLEAN w.1.0 r he.0 (suc κ) [] σ₁ y.0 g₂.0 (omega arith)) λ v σ₂ t₂ g₃.
      until (kept ++ y.1) σ₂ he.1.0 (omega arith)
      (ih B cs below gr l d x (repeat s e) w p h ex κ k o kept y.1 m g₂.1 deep fors roomy σ₂ (turned ∷ t₂) (g_turn g₃.0))
      (lands {x = (t₂, y.1)} (g_lose g₃.0, g₂.1) here)
      (fails v) refl))
  sim_s l d x (loop s) w p h ex κ k o kept free m long deep fors roomy σ t g =
      let r = stat_end s p in
      let hs = has_s P c (length B.words) d (suc r) s p _ h in
      let l₁ = up_s s p in
      bind_l (sim_s true d (suc r) s w p hs.0 (λ y. omega arith) (suc κ) (suc k) (owes_more B.kind κ k o) kept free m long deep fors roomy (tick round σ) t (g_round g))
      (λ fl σ₁ y g₁. round_about l κ k m x r (suc r) kept fl σ₁ y (rec (loop s) σ₁) g₁
      (λ y g₂. pay (back {q = p} hs.1.0 obeys_jump (omega arith)) (ih B cs below gr l d x (loop s) w p h ex κ k o kept y.1 m g₂.1 deep fors roomy σ₁ (turned ∷ y.0) (g_turn g₂.0))))
  sim_s l d x (for v a b c₁ s) w p h ex κ k o kept [] m long deep fors roomy σ t g = absurd (omega arith)
  sim_s l d x (for v a b c₁ s) w p h ex κ k o kept (a₀ ∷ []) m long deep fors roomy σ t g = absurd (omega arith)
  sim_s l d x (for v a b c₁ s) w p h ex κ k o kept (a₀ ∷ b₀ ∷ r) m long deep fors roomy σ t g =
      let ha = has_e P c a p _ h in
      let hb = has_e P c b (suc (expr_end a p)) _ ha.1.1 in
      let hz = has_s P c (length B.words) (suc d) x s (further 7 (expr_end b (suc (expr_end a p)))) _ hb.1.1.1.1.1.1.1.1 in
      subst (λ z. After P (suc n) (good_s P B below l κ k z) (land_s P c cs kept (stat_end (for v a b c₁ s) p) x) (mk P c cs (kept ++ (a₀ ∷ b₀ ∷ r)) p [] σ t) (exec_with P rec (for v a b c₁ s) σ)) long
      (do_for l κ k x o kept d deep (length r) (omega arith) r refl v a b c₁ s w.0 w.1.1.1.0 w.1.1.1.1.0 p
      (λ kept₁ free₁ long₁ deep₁ σ₁ t₁ g₁. sim_s l (suc d) x s w.1.1.1.1.1 (further 7 (expr_end b (suc (expr_end a p)))) hz.0 (λ y. let e = ex y in omega arith) (suc κ) (suc k) (owes_more B.kind κ k o) kept₁ free₁ (length r) long₁ deep₁ (omega arith) (omega arith) σ₁ t₁ g₁)
      a₀ b₀ w.1.0 w.1.1.0 h σ t g)
  sim_s l d x exit w p h ex κ k o kept free m long deep fors roomy σ t g = lands {x = (t, free)} (w, (g, long)) (go (ahead h.0 obeys_jump (ex w)) here)
  sim_s l d x return w p h ex κ k o kept free m long deep fors roomy σ t g = do_returns l κ k m x p (suc p) kept free σ t B.kind refl o gr.inside w h.0 g
  sim_s l d x (give e) w p h ex κ k o kept free m long deep fors roomy σ t g =
      let he = has_e P c e p _ h in
      do_gives l κ k m x p (suc (expr_end e p)) kept free (fit l κ k x kept free m long roomy) e he.0 σ t B.kind refl o gr.inside w he.1.0 g
  sim_s l d x halt w p h ex κ k o kept free m long deep fors roomy σ t g =
      stops (record { credit = κ; thin = g.thin; globals = refl; answer = answer.Ended; halts = halted_there; shows = refl }) (go (ends_run h.0) here)
    where
      halted_there : step (seen c (became Ended (memory (σ.globals ++ spare P) (σ.locals ++ (kept ++ free)) [] cs (suc p))) σ.port) ≡ halted answer.Ended (seen c (became Ended (memory (σ.globals ++ spare P) (σ.locals ++ (kept ++ free)) [] cs (suc p))) σ.port)
      halted_there = refl

-- by fuel
pub simulated : (P : Program) (c : List Instruction) → Linked P c → (n : ℕ) → Simulated P c (exec P n) n
unfolding exec
simulated P c lk zero B cs below gr l d x s w p h ex κ k o kept free m long deep fors roomy σ t g = goes_on g.thin here zero-le
simulated P c lk (suc n) B cs below gr l d x s w p h ex κ k o kept free m long deep fors roomy σ t g =
    sim_s P c lk (exec P n) n (simulated P c lk n) B cs below gr l d x s w p h ex κ k o kept free m long deep fors roomy σ t g
