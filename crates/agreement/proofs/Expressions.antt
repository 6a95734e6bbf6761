-- The code of an expression does what the expression means.
use Rattle.std.proofs.Common.{◌≡◌, ℕ, suc, ◌+◌, ◌*◌, ◌<◌, ◌≤◌, Bool, true, false, T, ltb, List, [], ◌∷◌, ◌++◌, reverse, length, take, drop, ℤ, pos, Some, None, Option, sym, refl, ap, ◌∙◌, subst, ap₂, append_assoc, arith, length-append, length-drop, length-take, take_at, drop_at}
use mathlib.Core.List.{reverse-cons, reverse-reverse}
use lib.ListN.{length-reverse, length-replicate, replicate-append-replicate}
use Rattle.std.proofs.lemmas.Bool.{ltb-true}
use Rattle.instructions.specs.State.{Caller}
use Rattle.instructions.specs.Traps.{trap_number}
use Rattle.instructions.specs.declared.instruction.Instruction.{Instruction}
use Rattle.instructions.specs.declared.operation.Operation.TheVariants as op
use Rattle.semantics.specs.Program.{BasicType, INTEGER, BOOLEAN, BITSET, Variable, Array, Unary, Binary, add, subtract, multiply, divide, modulo, union, difference, intersection, equal, unequal, less, at_most, greater, at_least, Expr, constant, variable, element, unary, binary, member, both, either, call, Args, none, more, arity, Target, whole, item, Stat, Procedure, Program, procedure}
use Rattle.semantics.specs.Values.{Value, fails, unary_answer, binary_answer, binary_trap, is_element, contained, position}
use Rattle.semantics.specs.State.{State, trap, Res, done, stopped, Flow, falls, exits, returns, gives, bind, zeros, read, behind, enter, leaving, leave}
use Rattle.semantics.specs.Meaning.{Rec, branch, checked, answered, located, resulted, openable, eval_with, args_with, target_with}
use Rattle.semantics.specs.Extent.{for_depth}
use Rattle.semantics.specs.Laws.{Valued}
use Rattle.semantics.specs.WellFormed.{Block, BlockKind, in_module, in_procedure, in_function, kind_of, block, Holds, ArrayOf, unary_takes, unary_gives, Takes, binary_gives, WellTyped, Arguments, Stores, Returns, Statement, WellFormedProcedure}
use Rattle.agreement.specs.Claims.{spare}
use Rattle.agreement.specs.Generator.{at_place, constant_code, unary_operation, binary_operation, call_code, closing, first, entry, expr_end, args_end, target_end, stat_end, expr_code, args_code, target_code, stat_code, procedure_code}
use Rattle.agreement.proofs.Traced.{Traced, Mark, turned, Goes, here, go, th_open, th_turn, After, lands, step_in, pay, onto, bind_l}
use Rattle.agreement.proofs.Executing.{At, memory, traced, ahead, next, obeys_integer, obeys_index, fails_index, obeys_element, fails_element, obeys_jump, obeys_jump_if, obeys_stay_if, obeys_jump_unless, obeys_stay_unless, obeys_enter, fails_no_result}
use Rattle.agreement.proofs.Operators.{binary_fault, obeys_unary, fails_unary, obeys_binary, fails_binary, obeys_in}
use Rattle.agreement.proofs.Calling.{caller, calls, refuses}
use Rattle.semantics.proofs.Answering.{truth_value, unary_value, binary_value}
use Rattle.semantics.proofs.Wording.{opened_valued, position_below}
use Rattle.agreement.proofs.Words.{valued_length}
use Rattle.agreement.proofs.Encoding.{answered_with}
use Rattle.agreement.proofs.Positions.{Has, has_e, has_a, has_s, up_e}
use Rattle.agreement.proofs.Operands.{need, args_need, target_need, need_some}
use Rattle.agreement.proofs.Matching.{mk, Good, Ground, Inside, Owes, room, element_holds, read_value, loads, loads_element, loads_constant, trapped}

-- what a statement lands at: behind it, behind its LOOP, or in its caller
abbrev pub returned : Program → List Instruction → List Caller → List ℤ → State → List Mark → Traced
returned P c [] vs σ t = traced c (memory [] [] [] [] 0) σ.port t
returned P c (k ∷ cs) vs σ t = traced c (memory (σ.globals ++ spare P) k.words.variables (vs ++ k.words.operands) cs k.resume) σ.port t

abbrev pub land_s : Program → List Instruction → List Caller → List ℤ → (q x : ℕ) → Flow → State → List Mark × List ℤ → Traced
land_s P c cs kept q x falls σ y = mk P c cs (kept ++ y.1) q [] σ y.0
land_s P c cs kept q x exits σ y = mk P c cs (kept ++ y.1) x [] σ y.0
land_s P c cs kept q x returns σ y = returned P c cs [] σ y.0
land_s P c cs kept q x (gives v) σ y = returned P c cs (v ∷ []) σ y.0

-- a result that a block gives
abbrev pub Given : BlockKind → ℤ → Type 0
Given in_module v = ⊥
Given in_procedure v = ⊥
Given (in_function τ) v = Value τ v

abbrev pub good_s : Program → Block → List (List ℤ) → Bool → (κ k m : ℕ) → Flow → State → List Mark × List ℤ → Type 0
good_s P B below l κ k m falls σ y = Good P B below κ y.0 σ × (length y.1 ≡ m)
good_s P B below l κ k m exits σ y = T l × (Good P B below κ y.0 σ × (length y.1 ≡ m))
good_s P B below l κ k m returns σ y = Returns P B B.kind × Good P B below k y.0 σ
good_s P B below l κ k m (gives v) σ y = Given B.kind v × Good P B below k y.0 σ

-- a statement at p, under d FORs, whose EXITs go to x
abbrev pub SimS : Program → Block → List Caller → List (List ℤ) → List Instruction → Rec → ℕ → Bool → (d x : ℕ) → Stat → ℕ → Type 0
SimS P B cs below c run n l d x s p =
    (κ k : ℕ) → Owes B.kind κ k → (kept free : List ℤ) (m : ℕ) → length free ≡ m → length kept ≡ 2 * d → 2 * for_depth s ≤ m → length B.words + (length kept + m) ≤ 64
    → (σ : State) (t : List Mark) → Good P B below κ t σ → After P n (good_s P B below l κ k m) (land_s P c cs kept (stat_end s p) x) (mk P c cs (kept ++ free) p [] σ t) (run s σ)

-- every statement's code does what it means, with so much fuel
abbrev pub Simulated : Program → List Instruction → Rec → ℕ → Type 0
Simulated P c run n =
    (B : Block) (cs : List Caller) (below : List (List ℤ)) → Ground P B below cs → (l : Bool) (d x : ℕ) (s : Stat) → Statement P B l s
    → (p : ℕ) → Has c p (stat_code P (length B.words) d x s p) → (T l → stat_end s p ≤ x) → SimS P B cs below c run n l d x s p

-- a program's code, and what is known of it
pub record Linked (P : Program) (c : List Instruction) : Type 0 where
  pub few : length P.words ≤ 1024
  pub formed : (g : ℕ) → g < length P.procedures → WellFormedProcedure P (procedure P g)
  pub there : (g : ℕ) → g < length P.procedures → Has c (entry P.procedures first g) (procedure_code P (procedure P g) (entry P.procedures first g))
  pub near : (g : ℕ) → entry P.procedures first g < 4096

binary_number : (o : Binary) → trap_number (binary_fault o) ≡ binary_trap o
binary_number add = refl
binary_number subtract = refl
binary_number multiply = refl
binary_number divide = refl
binary_number modulo = refl
binary_number union = refl
binary_number difference = refl
binary_number intersection = refl
binary_number equal = refl
binary_number unequal = refl
binary_number less = refl
binary_number at_most = refl
binary_number greater = refl
binary_number at_least = refl

-- a target as it lies on the operands
abbrev pub aimed : Target → ℕ → List ℤ → List ℤ
aimed (whole v) j stk = stk
aimed (item p a e) j stk = pos j ∷ stk

abbrev pub Aims : Target → Variable → ℕ → Type 0
Aims (whole u) v j = v ≡ u
Aims (item p a e) v j = v ≡ behind a.base j

-- one activation
module _ (P : Program) (c : List Instruction) (lk : Linked P c) (rec : Rec) (n : ℕ) (ih : Simulated P c rec n)
    (B : Block) (cs : List Caller) (below : List (List ℤ)) (gr : Ground P B below cs) (hid : List ℤ) where
  abbrev land_e : ℕ → List ℤ → ℤ → State → List Mark → Traced
  land_e q stk v σ t = mk P c cs hid q (v ∷ stk) σ t

  abbrev good_e : ℕ → BasicType → ℤ → State → List Mark → Type 0
  good_e k τ v σ t = Good P B below k t σ × Value τ v

  abbrev land_a : ℕ → List ℤ → List ℤ → State → List Mark → Traced
  land_a q stk vs σ t = mk P c cs hid q (reverse vs ++ stk) σ t

  abbrev good_a : ℕ → List BasicType → List ℤ → State → List Mark → Type 0
  good_a k τs vs σ t = Good P B below k t σ × Valued τs vs

  abbrev land_t : Target → ℕ → List ℤ → Variable → State → List Mark × ℕ → Traced
  land_t u q stk v σ y = mk P c cs hid q (aimed u y.1 stk) σ y.0

  abbrev good_t : Target → ℕ → BasicType → Variable → State → List Mark × ℕ → Type 0
  good_t u k τ v σ y = Good P B below k y.0 σ × (Holds P B v τ × Aims u v y.1)

  abbrev Fit : ℕ → List ℤ → Type 0
  Fit m stk = length B.words + length hid + (length stk + m) ≤ 256

  -- an operator, by its answer
  do_unary : {k q pl : ℕ} {stk : List ℤ} {x : ℤ} {σ : State} {t : List Mark} (o : Unary) → Value (unary_takes o) x → At c q (at_place pl (unary_operation o) 0) → Good P B below k t σ → Fit 1 stk
      → (r : Option ℤ) → unary_answer o x ≡ r → After P (suc n) (good_e k (unary_gives o)) (land_e (suc q) stk) (mk P c cs hid q (x ∷ stk) σ t) (answered r 1 pl σ)
  do_unary {stk} {x} {t} o hx h g f (Some v) e = lands {x = t} (g, answered_with (Value (unary_gives o)) _ v e (unary_value o x hx)) (go (next h (obeys_unary (room hid stk g (omega arith)) o x v e)) here)
  do_unary {x} o hx h g f None e = trapped hid g h (fails_unary o x e)

  do_binary : {k q pl : ℕ} {stk : List ℤ} {x y : ℤ} {σ : State} {t : List Mark} (o : Binary) (υ : BasicType) → Takes o υ → Value υ x → Value υ y → At c q (at_place pl (binary_operation o) 0) → Good P B below k t σ → Fit 1 stk
      → (r : Option ℤ) → binary_answer o x y ≡ r → After P (suc n) (good_e k (binary_gives o)) (land_e (suc q) stk) (mk P c cs hid q (y ∷ x ∷ stk) σ t) (answered r (binary_trap o) pl σ)
  do_binary {stk} {x} {y} {t} o υ w hx hy h g f (Some v) e = lands {x = t} (g, answered_with (Value (binary_gives o)) _ v e (binary_value o υ x y w hx hy)) (go (next h (obeys_binary (room hid stk g (omega arith)) o x y v e)) here)
  do_binary {k} {q} {pl} {stk} {x} {y} {σ} {t} o υ w hx hy h g f None e =
      subst (λ m. After P (suc n) (good_e k (binary_gives o)) (land_e (suc q) stk) (mk P c cs hid q (y ∷ x ∷ stk) σ t) (stopped (trap m pl) σ)) (binary_number o) (trapped hid g h (fails_binary o x y e))

  -- an index, checked against the bounds
  do_index : {k q pl : ℕ} {stk : List ℤ} {i : ℤ} {σ : State} {t : List Mark} (a : Array) (e₀ : Expr) (τ : BasicType) → ArrayOf P B a τ → At c q (constant_code INTEGER a.low) → At c (suc q) (at_place pl op.Index a.size) → Good P B below k t σ → Fit 2 stk
      → (r : Option ℕ) → position a i ≡ r → After P (suc n) (good_t (item pl a e₀) k τ) (land_t (item pl a e₀) (suc (suc q)) stk) (mk P c cs hid q (i ∷ stk) σ t) (located r pl a σ)
  unfolding position
  do_index {stk} {i} {t} a e₀ τ w h₁ h₂ g f (Some j) e =
      step_in (loads_constant lk.few hid g INTEGER a.low w.0 h₁ (omega arith))
      (lands {x = (t, j)} (g, (element_holds P B a τ j w (position_below a i j e), refl)) (go (next h₂ (obeys_index (room hid stk g (omega arith)) i a.low e)) here))
  do_index {stk} {i} a e₀ τ w h₁ h₂ g f None e =
      step_in (loads_constant lk.few hid g INTEGER a.low w.0 h₁ (omega arith)) (trapped hid g h₂ (fails_index i a.low e))

  -- a procedure is opened
  module _ (g : ℕ) (inside : g < length P.procedures) (q : ℕ) (stk : List ℤ) (k : ℕ) (σ : State) (t : List Mark) (good : Good P B below k t σ) (fits : Fit 1 stk) where
    abbrev H : Procedure
    H = procedure P g

    abbrev en : ℕ
    en = entry P.procedures first g

    abbrev pub waiting : Caller
    waiting = caller (suc q) (σ.locals ++ hid) stk

    has_room : (o : Option BasicType) → Inside (kind_of o) (waiting ∷ cs)
    has_room (Some τ) = room hid stk good (omega arith)
    has_room None = tt

    owed : (o : Option BasicType) → Owes (kind_of o) (suc k) k
    owed (Some τ) = refl
    owed None = refl

    pub ground : Ground P (block H) (σ.locals ∷ below) (waiting ∷ cs)
    ground = record { deep = ap suc gr.deep; inside = has_room H.result }

    -- its words
    words_opened : (vs : List ℤ) (a b : ℕ) → vs ++ zeros (a + b) ≡ (vs ++ zeros a) ++ zeros b
    words_opened vs a b = ap (λ s. vs ++ s) (sym (replicate-append-replicate a b (pos 0))) ∙ sym (append_assoc vs (zeros a) (zeros b))

    abbrev hidden : ℕ
    hidden = 2 * for_depth H.body

    pub closing_at : At c (stat_end H.body (suc en)) (closing P H.result H.end)
    closing_at = (has_s P c (length H.words) 0 0 H.body (suc en) _ (lk.there g inside).1).1.0

    module _ (vs : List ℤ) (values : Valued (take H.parameters H.words) vs) where
      entered : Good P (block H) (σ.locals ∷ below) (suc k) (turned ∷ t) (enter H vs σ)
      entered = record { thin = th_turn (th_open good.thin); globals = good.globals; locals = opened_valued H.parameters H.words vs values; callers = ap {B = List (List ℤ)} (λ l. σ.locals ∷ l) good.callers; samples = good.samples }

      lengths : length vs + 0 + (length (drop H.parameters H.words) + hidden) ≤ 256
      lengths =
          let w = lk.formed g inside in
          let e₁ = valued_length (take H.parameters H.words) vs values in
          let e₂ = length-take H.parameters H.words in
          let e₃ = length-drop H.parameters H.words in
          let a = w.words in
          let b = w.fors in
          omega arith

      enters : Goes (length P.words) (traced c (memory (σ.globals ++ spare P) vs [] (waiting ∷ cs) en) σ.port (turned ∷ t)) (mk P c (waiting ∷ cs) (zeros hidden) (suc en) [] (enter H vs σ) (turned ∷ t))
      enters = subst (λ ws. Goes (length P.words) (traced c (memory (σ.globals ++ spare P) vs [] (waiting ∷ cs) en) σ.port (turned ∷ t)) (traced c (memory (σ.globals ++ spare P) ws [] (waiting ∷ cs) (suc en)) σ.port (turned ∷ t)))
          (words_opened vs (length (drop H.parameters H.words)) hidden) (next (lk.there g inside).0 (obeys_enter lengths))

      body : After P n (good_s P (block H) (σ.locals ∷ below) false (suc k) k (length (zeros hidden))) (land_s P c (waiting ∷ cs) [] (stat_end H.body (suc en)) 0) (mk P c (waiting ∷ cs) (zeros hidden) (suc en) [] (enter H vs σ) (turned ∷ t)) (rec H.body (enter H vs σ))
      body =
          let w = lk.formed g inside in
          let a = w.words in
          let b = w.fors in
          let e = length-replicate hidden (pos 0) in
          ih (block H) (waiting ∷ cs) (σ.locals ∷ below) ground false 0 0 H.body w.body (suc en) (has_s P c (length H.words) 0 0 H.body (suc en) _ (lk.there g inside).1).0 (λ x. absurd x)
          (suc k) k (owed H.result) [] (zeros hidden) (length (zeros hidden)) refl refl (omega arith) (omega arith) (enter H vs σ) (turned ∷ t) entered

      -- the call, where one more may be open, or a trap
      pub do_call : {A X : Type 0} {G : A → State → X → Type 0} {L : A → State → X → Traced} (pl : ℕ) (es : Args) (K : Flow → State → Res A) → arity es ≡ length vs → At c q (call_code P pl g es)
          → ((f : Flow) (σ₂ : State) (y : List Mark × List ℤ) → good_s P (block H) (σ.locals ∷ below) false (suc k) k (length (zeros hidden)) f σ₂ y → After P n G L (land_s P c (waiting ∷ cs) [] (stat_end H.body (suc en)) 0 f σ₂ y) (K f σ₂))
          → (b : Bool) → openable σ ≡ b → After P (suc n) G L (mk P c cs hid q (reverse vs ++ stk) σ t) (checked b 6 pl σ (bind (rec H.body (enter H vs σ)) K))
      do_call pl es K ar h κ true e =
          let l = ltb-true (length σ.callers) 32 e in
          let d₁ : length σ.callers ≡ length below = ap length good.callers in
          let d₂ = gr.deep in
          let r : length (reverse vs) ≡ arity es = length-reverse vs ∙ sym ar in
          let a = length-append (reverse vs) stk in
          pay (subst (λ x. Goes (length P.words) (mk P c cs hid q (reverse vs ++ stk) σ t) (traced c (memory (σ.globals ++ spare P) x.0 [] (caller (suc q) (σ.locals ++ hid) x.1 ∷ cs) en) σ.port (turned ∷ t)))
          (ap₂ {C = List ℤ × List ℤ} (λ u w. (u, w)) (ap reverse (take_at (reverse vs) stk (arity es) r) ∙ reverse-reverse vs) (drop_at (reverse vs) stk (arity es) r))
          (calls {n = arity es} {q = en} h (lk.near g) (omega arith) (omega arith)))
          (step_in enters (bind_l body κ))
      do_call pl es K ar h κ false e =
          let d₁ : length σ.callers ≡ length below = ap length good.callers in
          let d₂ = gr.deep in
          let r : length (reverse vs) ≡ arity es = length-reverse vs ∙ sym ar in
          let a = length-append (reverse vs) stk in
          let f : ltb (length cs) 32 ≡ false = ap (λ m. ltb m 32) (sym (d₁ ∙ d₂)) ∙ e in
          trapped hid good h (refuses {n = arity es} {q = en} (lk.near g) (omega arith) f)

    -- the state of the caller, once it goes on
    abbrev pub back_in : State → State
    back_in σ₂ = record { globals = σ₂.globals; locals = σ.locals; callers = below; port = σ₂.port; trace = σ₂.trace }

    module _ {j : ℕ} {t₂ : List Mark} {σ₂ : State} (g₂ : Good P (block H) (σ.locals ∷ below) j t₂ σ₂) where
      pub left_is : back_in σ₂ ≡ leave σ₂
      left_is = ap (λ l. leaving l σ₂) (sym g₂.callers)

      pub left_good : Good P B below j t₂ (back_in σ₂)
      left_good = record { thin = g₂.thin; globals = g₂.globals; locals = good.locals; callers = refl; samples = g₂.samples }

    -- what a function comes to
    pub do_result : (τ : BasicType) → H.result ≡ Some τ → (f : Flow) (σ₂ : State) (y : List Mark × List ℤ) → good_s P (block H) (σ.locals ∷ below) false (suc k) k (length (zeros hidden)) f σ₂ y
        → After P n (good_e k τ) (land_e (suc q) stk) (land_s P c (waiting ∷ cs) [] (stat_end H.body (suc en)) 0 f σ₂ y) (resulted f H σ₂)
    do_result τ e falls σ₂ y h = trapped y.1 h.0 (subst (λ o. At c (stat_end H.body (suc en)) (closing P o H.end)) e closing_at) fails_no_result
    do_result τ e exits σ₂ y h = absurd h.0
    do_result τ e returns σ₂ y h = absurd (subst (λ o. Returns P (block H) (kind_of o)) e h.0)
    do_result τ e (gives v) σ₂ y h =
        subst (λ s. After P n (good_e k τ) (land_e (suc q) stk) (returned P c (waiting ∷ cs) (v ∷ []) σ₂ y.0) (done v s)) (left_is h.1)
        (lands {x = y.0} (left_good h.1, subst (λ o. Given (kind_of o) v) e h.0) here)

  pub arguments_length : (es : Args) (τs : List BasicType) → Arguments P B es τs → arity es ≡ length τs
  arguments_length none [] h = refl
  arguments_length none (τ ∷ τs) h = absurd h
  arguments_length (more e es) [] h = absurd h
  arguments_length (more e es) (τ ∷ τs) h = ap suc (arguments_length es τs h.1)

  -- arguments lie on the operands with the newest first
  argued : (v : ℤ) (vs stk : List ℤ) → reverse vs ++ (v ∷ stk) ≡ reverse (v ∷ vs) ++ stk
  argued v vs stk = sym (append_assoc (reverse vs) (v ∷ []) stk) ∙ ap (λ l. l ++ stk) (sym (reverse-cons v vs))

  -- a test, whatever stands in its two ways
  pub unless : {A X : Type 0} {G : A → State → X → Type 0} {L : A → State → X → Traced} {m q x pl : ℕ} {stk : List ℤ} {v : ℤ} {t : List Mark} {r r₁ : Res A} (σ : State)
      → At c q (at_place pl op.JumpUnless x) → q < x → After P m G L (mk P c cs hid x stk σ t) r → After P m G L (mk P c cs hid (suc q) stk σ t) r₁
      → (b : Bool) → fails v ≡ b → After P m G L (mk P c cs hid q (v ∷ stk) σ t) (branch b r r₁)
  unless σ h lt a a₁ true e = step_in (ahead h (obeys_jump_unless e) lt) a
  unless σ h lt a a₁ false e = step_in (next h (obeys_stay_unless e)) a₁

  when : {A X : Type 0} {G : A → State → X → Type 0} {L : A → State → X → Traced} {m q x pl : ℕ} {stk : List ℤ} {v : ℤ} {t : List Mark} {r r₁ : Res A} (σ : State)
      → At c q (at_place pl op.JumpIf x) → q < x → After P m G L (mk P c cs hid (suc q) stk σ t) r → After P m G L (mk P c cs hid x stk σ t) r₁
      → (b : Bool) → fails v ≡ b → After P m G L (mk P c cs hid q (v ∷ stk) σ t) (branch b r r₁)
  when σ h lt a a₁ true e = step_in (next h (obeys_stay_if e)) a
  when σ h lt a a₁ false e = step_in (ahead h (obeys_jump_if e) lt) a₁

  -- IN: the element is checked first
  do_member : {k q pl : ℕ} {stk : List ℤ} {x : ℤ} {σ : State} {t : List Mark} (b : Expr) → At c q (at_place pl op.Element 0) → Good P B below k t σ
      → (is_element x ≡ true → After P (suc n) (good_e k BOOLEAN) (land_e (suc (expr_end b (suc q))) stk) (mk P c cs hid (suc q) (x ∷ stk) σ t) (bind (eval_with P rec b σ) (λ s σ₂. done (contained x s) σ₂)))
      → (r : Bool) → is_element x ≡ r → After P (suc n) (good_e k BOOLEAN) (land_e (suc (expr_end b (suc q))) stk) (mk P c cs hid q (x ∷ stk) σ t) (checked r 5 pl σ (bind (eval_with P rec b σ) (λ s σ₂. done (contained x s) σ₂)))
  do_member b h g f true e = step_in (next h (obeys_element e)) (f e)
  do_member b h g f false e = trapped hid g h (fails_element e)

  abbrev SimE : Expr → ℕ → BasicType → Type 0
  SimE e p τ = (k : ℕ) (stk : List ℤ) (σ : State) (t : List Mark) → Good P B below k t σ → Fit (need e) stk → After P (suc n) (good_e k τ) (land_e (expr_end e p) stk) (mk P c cs hid p stk σ t) (eval_with P rec e σ)

  abbrev SimA : Args → ℕ → List BasicType → Type 0
  SimA es p τs = (k : ℕ) (stk : List ℤ) (σ : State) (t : List Mark) → Good P B below k t σ → Fit (args_need es) stk → After P (suc n) (good_a k τs) (land_a (args_end es p) stk) (mk P c cs hid p stk σ t) (args_with P rec es σ)

  abbrev SimT : Target → ℕ → BasicType → Type 0
  SimT u p τ = (k : ℕ) (stk : List ℤ) (σ : State) (t : List Mark) → Good P B below k t σ → Fit (target_need u) stk → After P (suc n) (good_t u k τ) (land_t u (target_end u p) stk) (mk P c cs hid p stk σ t) (target_with P rec u σ)

  mutual
    unfolding eval_with args_with

    pub sim_e : (e : Expr) (τ : BasicType) → WellTyped P B e τ → (p : ℕ) → Has c p (expr_code P e p) → SimE e p τ
    sim_e (constant υ z) τ w p h k stk σ t g f = lands {x = t} (g, w.1) (go (loads_constant lk.few hid g υ z (subst (λ x. Value x z) (sym w.0) w.1) h.0 (omega arith)) here)
    sim_e (variable v) τ w p h k stk σ t g f = lands {x = t} (g, read_value v w g) (go (loads lk.few hid g v w h.0 (omega arith)) here)
    sim_e (element pl a e) τ w p h k stk σ t g f =
        let x = has_e P c e p _ h in
        bind_l (sim_e e INTEGER w.1 p x.0 k stk σ t g (omega arith)) λ i σ₁ t₁ g₁.
        bind_l (do_index a e τ w.0 x.1.0 x.1.1.0 g₁.0 (omega arith) (position a i) refl) λ v σ₂ y g₂.
        subst (λ u. After P (suc n) (good_e k τ) (land_e (suc (suc (suc (expr_end e p)))) stk) (mk P c cs hid (suc (suc (expr_end e p))) (pos y.1 ∷ stk) σ₂ y.0) (done (read u σ₂) σ₂)) (sym g₂.1.1)
        (let hl : Holds P B (behind a.base y.1) τ = subst (λ u. Holds P B u τ) g₂.1.1 g₂.1.0 in
        lands {x = y.0} (g₂.0, read_value (behind a.base y.1) hl g₂.0) (go (loads_element lk.few hid g₂.0 a.base y.1 hl x.1.1.1.0 (omega arith)) here))
    sim_e (unary pl o e) τ w p h k stk σ t g f =
        let x = has_e P c e p _ h in
        let s = need_some e in
        bind_l (sim_e e (unary_takes o) w.1 p x.0 k stk σ t g f) λ v σ₁ t₁ g₁.
        subst (λ υ. After P (suc n) (good_e k υ) (land_e (suc (expr_end e p)) stk) (mk P c cs hid (expr_end e p) (v ∷ stk) σ₁ t₁) (answered (unary_answer o v) 1 pl σ₁)) w.0
        (do_unary o g₁.1 x.1.0 g₁.0 (omega arith) (unary_answer o v) refl)
    sim_e (binary pl o a b) τ w p h k stk σ t g f =
        let x = has_e P c a p _ h in
        let y = has_e P c b (expr_end a p) _ x.1 in
        let υ = w.1.0 in
        bind_l (sim_e a υ w.1.1.1.0 p x.0 k stk σ t g (omega arith)) λ u σ₁ t₁ g₁.
        bind_l (sim_e b υ w.1.1.1.1 (expr_end a p) y.0 k (u ∷ stk) σ₁ t₁ g₁.0 (omega arith)) λ v σ₂ t₂ g₂.
        subst (λ ω. After P (suc n) (good_e k ω) (land_e (suc (expr_end b (expr_end a p))) stk) (mk P c cs hid (expr_end b (expr_end a p)) (v ∷ u ∷ stk) σ₂ t₂) (answered (binary_answer o u v) (binary_trap o) pl σ₂)) w.0
        (do_binary o υ w.1.1.0 g₁.1 g₂.1 y.1.0 g₂.0 (omega arith) (binary_answer o u v) refl)
    sim_e (member pl a b) τ w p h k stk σ t g f =
        let x = has_e P c a p _ h in
        let y = has_e P c b (suc (expr_end a p)) _ x.1.1 in
        bind_l (sim_e a INTEGER w.1.0 p x.0 k stk σ t g (omega arith)) λ u σ₁ t₁ g₁.
        subst (λ ω. After P (suc n) (good_e k ω) (land_e (suc (expr_end b (suc (expr_end a p)))) stk) (mk P c cs hid (expr_end a p) (u ∷ stk) σ₁ t₁) (checked (is_element u) 5 pl σ₁ (bind (eval_with P rec b σ₁) (λ s σ₂. done (contained u s) σ₂)))) w.0
        (do_member b x.1.0 g₁.0
        (λ e. bind_l (sim_e b BITSET w.1.1 (suc (expr_end a p)) y.0 k (u ∷ stk) σ₁ t₁ g₁.0 (omega arith)) λ s σ₂ t₂ g₂.
        lands {x = t₂} (g₂.0, truth_value _) (go (next y.1.0 (obeys_in (room hid stk g₂.0 (omega arith)) u s e)) here))
        (is_element u) refl)
    sim_e (both a b) τ w p h k stk σ t g f =
        let x = has_e P c a p _ h in
        let y = has_e P c b (suc (expr_end a p)) _ x.1.1 in
        let up = up_e b (suc (expr_end a p)) in
        let lt : expr_end b (suc (expr_end a p)) < suc (suc (expr_end b (suc (expr_end a p)))) = omega arith in
        let sa = need_some a in
        bind_l (sim_e a BOOLEAN w.1.0 p x.0 k stk σ t g (omega arith)) λ u σ₁ t₁ g₁.
        subst (λ ω. After P (suc n) (good_e k ω) (land_e (suc (suc (expr_end b (suc (expr_end a p))))) stk) (mk P c cs hid (expr_end a p) (u ∷ stk) σ₁ t₁) (branch (fails u) (done (pos 0) σ₁) (eval_with P rec b σ₁))) w.0
        (unless σ₁ x.1.0 (omega arith)
        (lands {x = t₁} (g₁.0, truth_value false) (go (next y.1.1.0 (obeys_integer (room hid stk g₁.0 (omega arith)))) here))
        (onto (sim_e b BOOLEAN w.1.1 (suc (expr_end a p)) y.0 k stk σ₁ t₁ g₁.0 (omega arith)) λ v σ₂ t₂ g₂. (t₂, (g₂, go (ahead y.1.0 obeys_jump lt) here)))
        (fails u) refl)
    sim_e (either a b) τ w p h k stk σ t g f =
        let x = has_e P c a p _ h in
        let y = has_e P c b (suc (expr_end a p)) _ x.1.1 in
        let up = up_e b (suc (expr_end a p)) in
        let lt : expr_end b (suc (expr_end a p)) < suc (suc (expr_end b (suc (expr_end a p)))) = omega arith in
        let sa = need_some a in
        bind_l (sim_e a BOOLEAN w.1.0 p x.0 k stk σ t g (omega arith)) λ u σ₁ t₁ g₁.
        subst (λ ω. After P (suc n) (good_e k ω) (land_e (suc (suc (expr_end b (suc (expr_end a p))))) stk) (mk P c cs hid (expr_end a p) (u ∷ stk) σ₁ t₁) (branch (fails u) (eval_with P rec b σ₁) (done (pos 1) σ₁))) w.0
        (when σ₁ x.1.0 (omega arith)
        (onto (sim_e b BOOLEAN w.1.1 (suc (expr_end a p)) y.0 k stk σ₁ t₁ g₁.0 (omega arith)) λ v σ₂ t₂ g₂. (t₂, (g₂, go (ahead y.1.0 obeys_jump lt) here)))
        (lands {x = t₁} (g₁.0, truth_value true) (go (next y.1.1.0 (obeys_integer (room hid stk g₁.0 (omega arith)))) here))
        (fails u) refl)
    sim_e (call pl g₀ es) τ w p h k stk σ t g f =
        let x = has_a P c es p _ h in
        let τs = take (procedure P g₀).parameters (procedure P g₀).words in
        let ar = arguments_length es τs w.1.1 in
        bind_l (sim_a es τs w.1.1 p x.0 k stk σ t g (omega arith)) λ vs σ₁ t₁ g₁.
        do_call g₀ w.0 (args_end es p) stk k σ₁ t₁ g₁.0 (omega arith) vs g₁.1 pl es (λ fl σ₂. resulted fl (procedure P g₀) σ₂) (ar ∙ sym (valued_length τs vs g₁.1)) x.1.0
        (do_result g₀ w.0 (args_end es p) stk k σ₁ t₁ g₁.0 (omega arith) τ w.1.0) (openable σ₁) refl

    pub sim_a : (es : Args) (τs : List BasicType) → Arguments P B es τs → (p : ℕ) → Has c p (args_code P es p) → SimA es p τs
    sim_a none [] w p h k stk σ t g f = lands {x = t} (g, tt) here
    sim_a none (τ ∷ τs) w p h k stk σ t g f = absurd w
    sim_a (more e es) [] w p h k stk σ t g f = absurd w
    sim_a (more e es) (τ ∷ τs) w p h k stk σ t g f =
        let x = has_e P c e p _ h in
        bind_l (sim_e e τ w.0 p x.0 k stk σ t g (omega arith)) λ v σ₁ t₁ g₁.
        bind_l (sim_a es τs w.1 (expr_end e p) x.1 k (v ∷ stk) σ₁ t₁ g₁.0 (omega arith)) λ vs σ₂ t₂ g₂.
        subst (λ l. After P (suc n) (good_a k (τ ∷ τs)) (land_a (args_end es (expr_end e p)) stk) (mk P c cs hid (args_end es (expr_end e p)) l σ₂ t₂) (done (v ∷ vs) σ₂)) (sym (argued v vs stk))
        (lands {x = t₂} (g₂.0, (g₁.1, g₂.1)) here)

  pub sim_t : (u : Target) (τ : BasicType) → Stores P B u τ → (p : ℕ) → Has c p (target_code P u p) → SimT u p τ
  unfolding target_with
  sim_t (whole v) τ w p h k stk σ t g f = lands {x = (t, 0)} (g, (w, refl)) here
  sim_t (item pl a e) τ w p h k stk σ t g f =
      let x = has_e P c e p _ h in
      bind_l (sim_e e INTEGER w.1.0 p x.0 k stk σ t g (omega arith)) λ i σ₁ t₁ g₁.
      do_index a e τ w.0 x.1.0 x.1.1.0 g₁.0 (omega arith) (position a i) refl
