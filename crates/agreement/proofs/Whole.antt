-- From the code's parts to whole runs of a board.
use Rattle.std.proofs.Common.{◌≡◌, ℕ, zero, suc, ◌+◌, ◌-◌, ◌*◌, ◌<◌, ◌≤◌, Bool, true, false, cond, eqb, ltb, ◌⊎◌, List, [], ◌∷◌, ◌++◌, length, get_or, ℤ, pos, Some, None, Ok, Err, Option, sym, refl, ap, ◌∙◌, subst, inl, inr, ⊎_elim, append_assoc, append-nil, le_trans, le_refl, suc-add, zero-add, arith, length-append}
use lib.ListN.{length-replicate, replicate-append-replicate}
use Rattle.std.proofs.lemmas.List.{take_all}
use Rattle.std.specs.List.{AllByRecursion}
use Rattle.ports.specs.Channels.{Meaning}
use Rattle.ports.specs.Events.{Event, left, left_by}
use Rattle.ports.specs.Law.{Lawful}
use Rattle.instructions.specs.State.{State as Memory, start}
use Rattle.instructions.specs.Steps.{View, Move, gone, did, halted, step, run, onward, spent, loaded, Effect, went, takes, sets, breaks, stops as stops_effect, met, stepped, going, took_or_waits, set_or_not}
use Rattle.instructions.specs.Laws.{turn, turned as turned_by, turns, go as go_on}
use Rattle.instructions.proofs.Composing.{runs_compose}
use Rattle.instructions.proofs.Bounding.{turns_bound}
use Rattle.instructions.specs.declared.answers.Outcome.{Outcome as Answer}
use Rattle.instructions.specs.declared.answers.Outcome.TheVariants as answer
use Rattle.instructions.specs.declared.answers.Status.{Status}
use Rattle.instructions.specs.declared.answers.Status.TheVariants.{Running, Ended, Trapped, Broken}
use Rattle.instructions.specs.declared.instruction.Instruction.{Instruction}
use Rattle.semantics.specs.Program.{Procedure, Program, missing}
use Rattle.semantics.specs.State.{State, Tick, event, Outcome, Res, stopped, out, Flow, falls, exits, returns, gives, begin, zeros, trace_of, events, rounds, activations}
use Rattle.semantics.specs.Meaning.{exec, concluded, reading}
use Rattle.semantics.specs.Extent.{for_depth}
use Rattle.semantics.specs.WellFormed.{module_block, WellFormed, WellFormedProcedure}
use Rattle.semantics.specs.Laws.{Opens, shown}
use Rattle.semantics.proofs.Wording.{zeros_valued}
use Rattle.agreement.specs.Generator.{first, module_start, stat_end, generate}
use Rattle.agreement.specs.Claims.{outcome, spare, after, CodeFits, NeverBroken, EventsAgree, OutcomesAgree, OutcomesAreReached, OutcomesAreBounded, EventsAreBounded}
use Rattle.agreement.proofs.Traced.{Traced, Mark, turned, passed, marks, Goes, executes, passes, Steps, here, go, len, join, Thin, th_nil, th_event, th_round, th_open, th_turn, th_lose, Final, After, lands, stops, goes_on, len_join}
use Rattle.agreement.proofs.Executing.{memory, seen, traced, ahead, next, obeys_jump, obeys_enter}
use Rattle.agreement.proofs.Calling.{ends_run}
use Rattle.agreement.proofs.Positions.{laid, has_procedure, entry_before, up_ps, up_s}
use Rattle.agreement.proofs.Matching.{mk, Good}
use Rattle.agreement.proofs.Expressions.{Linked, good_s, land_s}
use Rattle.agreement.proofs.Statements.{simulated}

-- every member of a list
all_at : (Q : Procedure → Type 0) (fs : List Procedure) → AllByRecursion Q fs → (g : ℕ) → g < length fs → Q (get_or fs g missing)
all_at Q [] h g l = absurd (omega arith)
all_at Q (f ∷ fs) h zero l = h.0
all_at Q (f ∷ fs) h (suc g) l = all_at Q fs h.1 g (omega arith)

-- a well-formed program's code
module _ (P : Program) (wf : WellFormed P) where
  short : length (generate P) ≤ 4096
  short = let f = (laid P).few in let s = wf.symbols in omega arith

  linked : Linked P (generate P)
  linked =
      let la = laid P in
      record {
        few = wf.words;
        formed = λ g l. all_at (WellFormedProcedure P) P.procedures wf.procedures g l;
        there = λ g l. has_procedure P (generate P) P.procedures first la.procedures g l;
        near = λ g. let e = entry_before P.procedures first g in let n = la.long in let u = up_s P.body (suc (module_start P)) in let s = short in omega arith;
      }

-- the code fits
pub code_fits : CodeFits
code_fits P wf = ((laid P).few, short P wf)

-- what a run from the start comes to, where the meaning comes to a result
data Course (P : Program) (n : ℕ) (m : Traced) : Res Flow → Type 0 where
  ends : {o : Outcome} {σ : State} {m₁ : Traced} → Final P o σ m₁ → Steps (length P.words) m m₁ → Course P n m (stopped o σ)
  lasts : {σ : State} {j : ℕ} {m₁ : Traced} → Thin j m₁.trail σ.trace → (s : Steps (length P.words) m m₁) → n ≤ len s → Course P n m (out σ)

module _ (P : Program) (wf : WellFormed P) (m : Meaning) (law : Lawful m) where
  abbrev c : List Instruction
  c = generate P

  abbrev at_start : Traced
  at_start = traced c start m []

  abbrev hidden : ℕ
  hidden = 2 * for_depth P.body

  abbrev at_body : Traced
  at_body = mk P c [] (zeros hidden) (suc (module_start P)) [] (begin P m) []

  all_words : zeros 1024 ≡ zeros (length P.words) ++ spare P
  all_words =
      let w = wf.words in
      let e : length P.words + (1024 - length P.words) ≡ 1024 = omega arith in
      sym (replicate-append-replicate (length P.words) (1024 - length P.words) (pos 0) ∙ ap zeros e)

  opening : Steps (length P.words) at_start at_body
  opening =
      let la = laid P in
      let u = up_ps P.procedures first in
      let f = wf.fors in
      go (ahead la.start obeys_jump (omega arith))
      (subst (λ gs. Steps (length P.words) (traced c (memory (zeros 1024) [] [] [] (module_start P)) m []) (traced c (memory gs (zeros hidden) [] [] (suc (module_start P))) m [])) all_words
      (go (next la.opening (obeys_enter (omega arith))) here))

  begins : Good P module_block [] 0 [] (begin P m)
  begins = record { thin = th_nil; globals = zeros_valued P.words; locals = tt; callers = refl; samples = λ ch. (law ch).waits }

  -- the end of the module's statements is the end
  finish : (n : ℕ) (z : ℕ) (r : Res Flow) → After P n (good_s P module_block [] false 0 0 z) (land_s P c [] [] (stat_end P.body (suc (module_start P))) 0) at_body r → Course P n at_start (concluded r)
  unfolding step
  finish n z r (lands {a = falls} {σ} {x = y} h s) = ends (record { credit = 0; thin = h.0.thin; globals = refl; answer = answer.Ended; halts = refl; shows = refl }) (join opening (join s (go (ends_run (laid P).last) here)))
  finish n z r (lands {a = exits} h s) = absurd h.0
  finish n z r (lands {a = returns} h s) = absurd h.0
  finish n z r (lands {a = gives v} h s) = absurd h.0
  finish n z r (stops f s) = ends f (join opening s)
  finish n z r (goes_on th s l) = lasts th (join opening s) (le_trans l (len_join opening s))

  course : (n : ℕ) → Course P n at_start (reading P m n)
  unfolding reading
  course n =
      let e = length-replicate hidden (pos 0) in
      let f = wf.fors in
      finish n hidden (exec P n P.body (begin P m))
      (simulated P c (linked P wf) n module_block [] [] (record { deep = refl; inside = tt }) false 0 0 P.body wf.body (suc (module_start P)) (laid P).body (λ x. absurd x)
      0 0 tt [] (zeros hidden) hidden e refl (le_refl hidden) (omega arith) (begin P m) [] begins)

-- the events and the turns of a trail
abbrev passed_by : List Mark → List Event
passed_by [] = []
passed_by (turned ∷ t) = passed_by t
passed_by (passed e ∷ t) = passed_by t ++ (e ∷ [])

abbrev turns_of : List Mark → ℕ
turns_of [] = 0
turns_of (turned ∷ t) = suc (turns_of t)
turns_of (passed e ∷ t) = turns_of t

thin_counts : {k : ℕ} {t : List Mark} {r : List Tick} → Thin k t r → (passed_by t ≡ events r) × (k + turns_of t ≤ rounds r + 2 * activations r)
thin_counts th_nil = (refl, omega arith)
thin_counts (th_event {e} th) = let h = thin_counts th in (ap (λ es. es ++ (e ∷ [])) h.0, h.1)
thin_counts (th_round th) = let h = thin_counts th in (h.0, omega (arith, h.1))
thin_counts (th_open th) = let h = thin_counts th in (h.0, omega (arith, h.1))
thin_counts (th_turn th) = let h = thin_counts th in (h.0, omega (arith, h.1))
thin_counts (th_lose th) = let h = thin_counts th in (h.0, omega (arith, h.1))

turns_marks : (c d : Memory) (t : List Mark) → turns_of (marks c d ++ t) ≡ turn c d + turns_of t
turns_marks c d t = by_index (ltb c.pc d.pc) (eqb (length c.callers) (length d.callers))
  where
    by_index : (a b : Bool) → turns_of (cond a (cond b [] (turned ∷ [])) (turned ∷ []) ++ t) ≡ cond a (cond b 0 1) 1 + turns_of t
    by_index true true = omega arith
    by_index true false = omega arith
    by_index false b = omega arith

passed_marks : (c d : Memory) (t : List Mark) → passed_by (marks c d ++ t) ≡ passed_by t
passed_marks c d t = by_index (ltb c.pc d.pc) (eqb (length c.callers) (length d.callers))
  where
    by_index : (a b : Bool) → passed_by (cond a (cond b [] (turned ∷ [])) (turned ∷ []) ++ t) ≡ passed_by t
    by_index true true = refl
    by_index true false = refl
    by_index false b = refl

-- a run of N instructions from m on comes to m₁, having executed k
record Did (m : Traced) (N : ℕ) (m₁ : Traced) (k : ℕ) (a : Answer) : Type 0 where
  pub outcome : (run N m.view).outcome ≡ a
  pub executed : (run N m.view).executed ≡ k
  pub events : passed_by m.trail ++ (run N m.view).events ≡ passed_by m₁.trail
  pub view : (run N m.view).view ≡ m₁.view
  pub turns : turns N m.view + turns_of m.trail ≡ turns_of m₁.trail

no_more : (m : Traced) → Did m 0 m 0 (spent m.view.state.status)
unfolding run turns
no_more m = record { outcome = refl; executed = refl; events = append-nil (passed_by m.trail); view = refl; turns = zero-add (turns_of m.trail) }

-- one instruction before
one_more : {W : ℕ} {m m₁ m₂ : Traced} {N k : ℕ} {a : Answer} → Goes W m m₁ → Did m₁ N m₂ k a → Did m (suc N) m₂ (suc k) a
unfolding run turns
one_more {m = m} {m₁ = m₁} {m₂ = m₂} {N = N} {k = k} (executes e t kp) d =
    let r = ap (λ x. onward x (run N)) e in
    let u = ap (λ x. turned_by m.view.state x (turns N)) e in
    let v = ap turns_of t ∙ turns_marks m.view.state m₁.view.state m.trail in
    let w = ap passed_by t ∙ passed_marks m.view.state m₁.view.state m.trail in
    record {
      outcome = ap (λ x. x.outcome) r ∙ d.outcome;
      executed = ap (λ x. x.executed) r ∙ omega (arith, d.executed);
      events = ap (λ x. passed_by m.trail ++ x.events) r ∙ ap (λ l. l ++ (run N m₁.view).events) (sym w) ∙ d.events;
      view = ap (λ x. x.view) r ∙ d.view;
      turns = omega (arith, u, v, d.turns);
    }
one_more {m = m} {m₁ = m₁} {m₂ = m₂} {N = N} {k = k} (passes {e = ev} e t kp) d =
    let r = ap (λ x. onward x (run N)) e in
    let u = ap (λ x. turned_by m.view.state x (turns N)) e in
    let v = ap turns_of t ∙ turns_marks m.view.state m₁.view.state m.trail in
    let w = ap passed_by t ∙ ap (λ l. l ++ (ev ∷ [])) (passed_marks m.view.state m₁.view.state m.trail) in
    record {
      outcome = ap (λ x. x.outcome) r ∙ d.outcome;
      executed = ap (λ x. x.executed) r ∙ omega (arith, d.executed);
      events = ap (λ x. passed_by m.trail ++ x.events) r ∙ sym (append_assoc (passed_by m.trail) (ev ∷ []) (run N m₁.view).events) ∙ ap (λ l. l ++ (run N m₁.view).events) (sym w) ∙ d.events;
      view = ap (λ x. x.view) r ∙ d.view;
      turns = omega (arith, u, v, d.turns);
    }

-- where nothing is executed any more
stays : (m : Traced) (a : Answer) (N : ℕ) → step m.view ≡ halted a m.view → Did m (suc N) m 0 a
unfolding run turns
stays m a N e =
    let r = ap (λ x. onward x (run N)) e in
    let u = ap (λ x. turned_by m.view.state x (turns N)) e in
    record {
      outcome = ap (λ x. x.outcome) r;
      executed = ap (λ x. x.executed) r;
      events = ap (λ x. passed_by m.trail ++ x.events) r ∙ append-nil (passed_by m.trail);
      view = ap (λ x. x.view) r;
      turns = omega (arith, u);
    }

-- N instructions beside a known course: within it, or past its end
data Cut (W : ℕ) (m m₁ : Traced) (N l : ℕ) : Type 0 where
  within : (m₂ : Traced) → Did m N m₂ N (spent m₂.view.state.status) → (t : Steps W m₂ m₁) → N + len t ≡ l → Cut W m m₁ N l
  beyond : (j : ℕ) → N ≡ l + suc j → ((k : ℕ) (m₂ : Traced) (a : Answer) → Did m₁ (suc j) m₂ k a → Did m N m₂ (l + k) a) → Cut W m m₁ N l

cut : {W : ℕ} {m m₁ : Traced} (N : ℕ) (s : Steps W m m₁) → Cut W m m₁ N (len s)
cut {m = m} zero s = within m (no_more m) s (zero-add (len s))
cut {m = m} (suc N) here = beyond N (omega arith) (λ k m₂ a d. subst (λ z. Did m (suc N) m₂ z a) (sym (zero-add k)) d)
cut {W} {m = m} {m₁ = m₃} (suc N) (go {m₁ = m₁} e s) = by_cut (cut N s)
  where
    by_cut : Cut W m₁ m₃ N (len s) → Cut W m m₃ (suc N) (suc (len s))
    by_cut (within m₂ d t q) = within m₂ (one_more e d) t (omega arith)
    by_cut (beyond j q f) = beyond j (omega arith) (λ k m₂ a d. subst (λ z. Did m (suc N) m₂ z a) (sym (suc-add (len s) k)) (one_more e (f k m₂ a d)))

-- a board that executes an instruction is running
Executed : Move → Type 0
Executed (gone w) = Unit {0}
Executed (did e w) = Unit {0}
Executed (halted a w) = ⊥

runs : (v : View) → Executed (step v) → v.state.status ≡ Running
unfolding step Executed
runs v = by_status v.state.status
  where
    by_status : (s : Status) → Executed (met (going s v.code v.state) v) → s ≡ Running
    by_status Running h = refl
    by_status Ended h = absurd h
    by_status (Trapped t p) h = absurd h
    by_status Broken h = absurd h

running : {W : ℕ} {m m₁ : Traced} → Goes W m m₁ → m.view.state.status ≡ Running
unfolding Executed
running {m = m} (executes e t kp) = runs m.view (subst Executed (sym e) tt)
running {m = m} (passes e t kp) = runs m.view (subst Executed (sym e) tt)

-- one that executes none answers its status, unless it is running
rests : (v : View) (a : Answer) → step v ≡ halted a v → (spent v.state.status ≡ answer.Running) ⊎ (a ≡ spent v.state.status)
unfolding step
rests v a = by_status v.state.status
  where
    by_status : (s : Status) → met (going s v.code v.state) v ≡ halted a v → (spent s ≡ answer.Running) ⊎ (a ≡ spent v.state.status)
    by_status Running e = inl refl
    by_status Ended e = inr cc
    by_status (Trapped t p) e = inr cc
    by_status Broken e = inr cc

-- where a board stands after N instructions: under way, with more to come of what the meaning does, or where it stops
data Standing (P : Program) (m : Meaning) (v : Traced) (N : ℕ) : Type 0 where
  under_way : (f : ℕ) (m₂ m₁ : Traced) (j : ℕ) → Did v N m₂ N answer.Running → Steps (length P.words) m₂ m₁ → Thin j m₁.trail (trace_of (reading P m f)) → Standing P m v N
  come : (f : ℕ) (o : Outcome) (σ : State) → reading P m f ≡ stopped o σ → (m₁ : Traced) (k : ℕ) (a : Answer) → Final P o σ m₁ → Did v N m₁ k a → ((a ≡ answer.Running) ⊎ (outcome a ≡ Some o)) → Standing P m v N

-- a trail's newer part
grown : {W : ℕ} {m m₁ : Traced} → Steps W m m₁ → (l : List Mark) × (m₁.trail ≡ l ++ m.trail)
grown here = ([], refl)
grown {m = m} (go {m₁ = m₁} (executes e t kp) s) = let r = grown s in (r.0 ++ marks m.view.state m₁.view.state, r.1 ∙ ap (λ x. r.0 ++ x) t ∙ sym (append_assoc r.0 (marks m.view.state m₁.view.state) m.trail))
grown {m = m} (go {m₁ = m₁} (passes {e = ev} e t kp) s) =
    let r = grown s in
    (r.0 ++ (passed ev ∷ marks m.view.state m₁.view.state), r.1 ∙ ap (λ x. r.0 ++ x) t ∙ sym (append_assoc r.0 (passed ev ∷ marks m.view.state m₁.view.state) m.trail))

passed_append : (xs ys : List Mark) → passed_by (xs ++ ys) ≡ passed_by ys ++ passed_by xs
passed_append [] ys = sym (append-nil (passed_by ys))
passed_append (turned ∷ xs) ys = passed_append xs ys
passed_append (passed e ∷ xs) ys = ap (λ l. l ++ (e ∷ [])) (passed_append xs ys) ∙ append_assoc (passed_by ys) (passed_by xs) (e ∷ [])

turns_append : (xs ys : List Mark) → turns_of (xs ++ ys) ≡ turns_of xs + turns_of ys
turns_append [] ys = omega arith
turns_append (turned ∷ xs) ys = let h = turns_append xs ys in omega arith
turns_append (passed e ∷ xs) ys = turns_append xs ys

spent_running : (m : Traced) → m.view.state.status ≡ Running → spent m.view.state.status ≡ answer.Running
spent_running m e = ap spent e

module _ (P : Program) (wf : WellFormed P) (m : Meaning) (law : Lawful m) where
  abbrev v₀ : Traced
  v₀ = at_start P wf m law

  standing : (N : ℕ) → Standing P m v₀ N
  standing N = by_course (reading P m (suc N)) refl (course P wf m law (suc N))
    where
      at_stop : (o : Outcome) (σ : State) (m₁ : Traced) → reading P m (suc N) ≡ stopped o σ → Final P o σ m₁ → (l : ℕ) → Cut (length P.words) v₀ m₁ N l → Standing P m v₀ N
      at_stop o σ m₁ e f l (within m₂ d here q) =
          come (suc N) o σ e m₁ N (spent m₁.view.state.status) f d (⊎_elim (λ r. inl r) (λ r. inr (ap outcome (sym r) ∙ f.shows)) (rests m₁.view f.answer f.halts))
      at_stop o σ m₁ e f l (within m₂ d (go g t) q) =
          under_way (suc N) m₂ m₁ f.credit (subst (λ a. Did v₀ N m₂ N a) (spent_running m₂ (running g)) d) (go g t) (subst (λ r. Thin f.credit m₁.trail (trace_of r)) (sym e) f.thin)
      at_stop o σ m₁ e f l (beyond j q k) = come (suc N) o σ e m₁ (l + 0) f.answer f (k 0 m₁ f.answer (stays m₁ f.answer j f.halts)) (inr f.shows)

      at_work : (σ : State) (m₁ : Traced) (j : ℕ) → reading P m (suc N) ≡ out σ → Thin j m₁.trail σ.trace → (l : ℕ) → suc N ≤ l → Cut (length P.words) v₀ m₁ N l → Standing P m v₀ N
      at_work σ m₁ j e th l h (within m₂ d here q) = absurd (omega arith)
      at_work σ m₁ j e th l h (within m₂ d (go g t) q) =
          under_way (suc N) m₂ m₁ j (subst (λ a. Did v₀ N m₂ N a) (spent_running m₂ (running g)) d) (go g t) (subst (λ r. Thin j m₁.trail (trace_of r)) (sym e) th)
      at_work σ m₁ j e th l h (beyond i q k) = absurd (omega arith)

      by_course : (r : Res Flow) → reading P m (suc N) ≡ r → Course P (suc N) v₀ r → Standing P m v₀ N
      by_course r e (ends {o} {σ} {m₁} f s) = at_stop o σ m₁ e f (len s) (cut N s)
      by_course r e (lasts {σ} {j} {m₁} th s l) = at_work σ m₁ j e th (len s) l (cut N s)

-- the port after a step, and after a run
PortLeft : View → Move → Type 0
PortLeft v (gone w) = w.port ≡ v.port
PortLeft v (did e w) = w.port ≡ left e v.port
PortLeft v (halted a w) = w.port ≡ v.port

port_left : (v : View) → PortLeft v (step v)
unfolding step PortLeft
port_left v = by_effect (stepped v.code v.state)
  where
    taken : (n p : ℕ) (o : Option ℤ) → PortLeft v (took_or_waits n p (Ok o) v)
    taken n p (Some z) = refl
    taken n p None = refl

    by_take : (n p : ℕ) (o : Option ℤ) (b : Bool) → ltb n 16 ≡ b → PortLeft v (took_or_waits n p (cond b (Ok o) (Err 51)) v)
    by_take n p o true e = taken n p o
    by_take n p o false e = rw e

    by_set : (n : ℕ) (x : ℤ) (w : Memory) (b : Bool) → ltb n 16 ≡ b → PortLeft v (set_or_not n x w (cond b (Ok tt) (Err 51)) v)
    by_set n x w true e = refl
    by_set n x w false e = rw e

    by_effect : (a : Effect) → PortLeft v (met a v)
    by_effect (went w) = refl
    by_effect (takes n p) = by_take n p _ (ltb n 16) refl
    by_effect (sets n x w) = by_set n x w (ltb n 16) refl
    by_effect (breaks w) = refl
    by_effect stops_effect = refl

run_port : (N : ℕ) (v : View) → (run N v).view.port ≡ left_by (run N v).events v.port
unfolding run PortLeft
run_port zero v = refl
run_port (suc N) v = by_move (step v) (port_left v) (run_port N)
  where
    by_move : (x : Move) → PortLeft v x → ((w : View) → (run N w).view.port ≡ left_by (run N w).events w.port) → (onward x (run N)).view.port ≡ left_by (onward x (run N)).events v.port
    by_move (gone w) h ih = ih w ∙ ap (left_by (run N w).events) h
    by_move (did e w) h ih = ih w ∙ ap (left_by (run N w).events) h
    by_move (halted a w) h ih = h

-- lists that end alike
suffixes : {A : Type 0} (a b c d : List A) → a ++ b ≡ c ++ d → ((x : List A) × (b ≡ x ++ d)) ⊎ ((x : List A) × (d ≡ x ++ b))
suffixes [] b c d e = inl (c, e)
suffixes (y ∷ a) b [] d e = inr (y ∷ a, sym e)
suffixes (y ∷ a) b (z ∷ c) d e = let e₁ : a ++ b ≡ c ++ d = cc in suffixes a b c d e₁

-- the marks up to an event of the meaning
record Split (e : Event) (t : List Mark) (older : List Tick) : Type 0 where
  pub newer_marks : List Mark
  pub older_marks : List Mark
  pub is : t ≡ newer_marks ++ (passed e ∷ older_marks)
  pub credit : ℕ
  pub thin : Thin credit older_marks older

behind_mark : {e : Event} {t : List Mark} {older : List Tick} (x : Mark) → Split e t older → Split e (x ∷ t) older
behind_mark x s = record { newer_marks = x ∷ s.newer_marks; older_marks = s.older_marks; is = ap {B = List Mark} (λ l. x ∷ l) s.is; credit = s.credit; thin = s.thin }

split : {k : ℕ} {t : List Mark} {r : List Tick} (e : Event) (newer older : List Tick) → Thin k t r → r ≡ newer ++ (event e ∷ older) → Split e t older
split e [] older th_nil q = absurd (let z : ◌≡◌ {A = ℕ} 0 1 = cc in omega arith)
split e (x ∷ newer) older th_nil q = absurd (let z : ◌≡◌ {A = ℕ} 0 1 = cc in omega arith)
split e [] older (th_event {k} {m} {r} {e = e₁} th) q =
    let q₁ : e₁ ≡ e = cc in
    let q₂ : r ≡ older = cc in
    record { newer_marks = []; older_marks = m; is = ap {B = List Mark} (λ x. passed x ∷ m) q₁; credit = k; thin = subst (Thin k m) q₂ th }
split e (x ∷ newer) older (th_event {r = r} {e = e₁} th) q = let q₁ : r ≡ newer ++ (event e ∷ older) = cc in behind_mark (passed e₁) (split e newer older th q₁)
split e [] older (th_round th) q = absurd (let z : ◌≡◌ {A = ℕ} 0 1 = cc in omega arith)
split e (x ∷ newer) older (th_round {r = r} th) q = let q₁ : r ≡ newer ++ (event e ∷ older) = cc in split e newer older th q₁
split e [] older (th_open th) q = absurd (let z : ◌≡◌ {A = ℕ} 0 1 = cc in omega arith)
split e (x ∷ newer) older (th_open {r = r} th) q = let q₁ : r ≡ newer ++ (event e ∷ older) = cc in split e newer older th q₁
split e newer older (th_turn th) q = behind_mark turned (split e newer older th q)
split e newer older (th_lose th) q = split e newer older th q

-- a course as a run
did_all : {W : ℕ} {m m₁ : Traced} (s : Steps W m m₁) → Did m (len s) m₁ (len s) (spent m₁.view.state.status)
did_all {m = m} here = no_more m
did_all (go e s) = one_more e (did_all s)

-- a board that has no more events than came before an event of its course has made no more turns than came before it
module _ (W : ℕ) (v m₁ : Traced) (s : Steps W v m₁) (fresh : v.trail ≡ []) (e : Event) (older_marks newer_marks : List Mark) (is : m₁.trail ≡ newer_marks ++ (passed e ∷ older_marks)) (N : ℕ) (few : length (run N v.view).events ≤ length (passed_by older_marks)) where
  one_longer : (x : List Mark) → suc (length (passed_by older_marks)) ≤ length (passed_by (x ++ (passed e ∷ older_marks)))
  one_longer x = let h = ap length (passed_append x (passed e ∷ older_marks)) in let a = length-append (passed_by older_marks ++ (e ∷ [])) (passed_by x) in let b = length-append (passed_by older_marks) (e ∷ []) in omega arith

  its_events : (m₂ : Traced) (n k : ℕ) (a : Answer) → Did v n m₂ k a → (run n v.view).events ≡ passed_by m₂.trail
  its_events m₂ n k a d = ap (λ t. passed_by t ++ (run n v.view).events) (sym fresh) ∙ d.events

  few_turns : turns N v.view ≤ turns_of older_marks
  few_turns = by_cut (cut N s)
    where
      by_suffix : (m₂ : Traced) → Did v N m₂ N (spent m₂.view.state.status) → ((x : List Mark) × (passed e ∷ older_marks ≡ x ++ m₂.trail)) ⊎ ((x : List Mark) × (m₂.trail ≡ x ++ (passed e ∷ older_marks))) → turns N v.view ≤ turns_of older_marks
      by_suffix m₂ d (inl ([], q)) =
          let h = ap length (its_events m₂ N N _ d) in
          let l = ap (λ t. length (passed_by t)) q in
          let o = one_longer [] in
          absurd (omega arith)
      by_suffix m₂ d (inl (y ∷ x, q)) =
          let q₁ : older_marks ≡ x ++ m₂.trail = cc in
          let t = ap turns_of q₁ ∙ turns_append x m₂.trail in
          let u = d.turns in
          let z : turns_of v.trail ≡ 0 = ap turns_of fresh in
          omega arith
      by_suffix m₂ d (inr (x, q)) =
          let h = ap length (its_events m₂ N N _ d) in
          let l = ap (λ t. length (passed_by t)) q in
          let o = one_longer x in
          absurd (omega arith)

      by_cut : Cut W v m₁ N (len s) → turns N v.view ≤ turns_of older_marks
      by_cut (within m₂ d t q) = let g = grown t in by_suffix m₂ d (suffixes newer_marks (passed e ∷ older_marks) g.0 m₂.trail (sym is ∙ g.1))
      by_cut (beyond j q f) =
          let r = ap (λ n. (run n v.view).events) q ∙ ap (λ x. x.events) (runs_compose (len s) (suc j) v.view (omega arith)) in
          let h = ap length r ∙ length-append (run (len s) v.view).events (run (suc j) (run (len s) v.view).view).events in
          let i = ap length (its_events m₁ (len s) (len s) _ (did_all s)) in
          let l = ap (λ t. length (passed_by t)) is in
          let o = one_longer newer_marks in
          absurd (omega arith)

-- the claims
module _ (P : Program) (wf : WellFormed P) (m : Meaning) (law : Lawful m) (N : ℕ) where
  abbrev v : Traced
  v = at_start P wf m law

  -- the list that is loaded is the whole code
  whole_code : loaded (generate P) m ≡ v.view
  whole_code = ap (λ x. seen x start m) (take_all 4096 (generate P) (short P wf))

  whole_run : after P m N ≡ run N v.view
  whole_run = ap (run N) whole_code

  -- instructions are bounded by turns
  within_turns : (after P m N).executed ≤ 4096 * (1 + turns N v.view)
  within_turns =
      let b = turns_bound (generate P) m (go_on N ∷ []) in
      let t : turns N (loaded (generate P) m) ≡ turns N v.view = ap (turns N) whole_code in
      omega arith

pub never_broken : NeverBroken
never_broken P wf m law N e = by_standing (standing P wf m law N)
  where
    broken : (run N (at_start P wf m law).view).outcome ≡ answer.Broken
    broken = ap (λ r. r.outcome) (sym (whole_run P wf m law N)) ∙ e

    by_standing : Standing P m (at_start P wf m law) N → ⊥
    by_standing (under_way f m₂ m₁ j d s th) = let q : ◌≡◌ {A = ℕ} 0 1 = cc (d.outcome, broken) in omega arith
    by_standing (come f o σ r m₁ k a fin d (inl x)) = let q : ◌≡◌ {A = ℕ} 0 1 = cc (d.outcome, broken, x) in omega arith
    by_standing (come f o σ r m₁ k a fin d (inr x)) = let b : a ≡ answer.Broken = sym d.outcome ∙ broken in let y : None ≡ Some o = ap outcome (sym b) ∙ x in let q : ◌≡◌ {A = ℕ} 0 1 = cc (y) in omega arith

pub events_agree : EventsAgree
events_agree P wf m law N = (by_standing (standing P wf m law N), run_port N (loaded (generate P) m))
  where
    same : (after P m N).events ≡ (run N (at_start P wf m law).view).events
    same = ap (λ r. r.events) (whole_run P wf m law N)

    by_standing : Standing P m (at_start P wf m law) N → (fuel : ℕ) × Opens (after P m N).events (shown P m fuel)
    by_standing (under_way f m₂ m₁ j d s th) =
        let g = grown s in
        (f, (passed_by g.0, sym (thin_counts th).0 ∙ ap passed_by g.1 ∙ passed_append g.0 m₂.trail ∙ ap (λ l. l ++ passed_by g.0) (sym d.events ∙ sym same)))
    by_standing (come f o σ r m₁ k a fin d x) =
        (f, ([], ap (λ z. events (trace_of z)) r ∙ sym (thin_counts fin.thin).0 ∙ sym d.events ∙ sym same ∙ sym (append-nil (after P m N).events)))

pub outcomes_agree : OutcomesAgree
outcomes_agree P wf m law N o e = by_standing (standing P wf m law N)
  where
    same : after P m N ≡ run N (at_start P wf m law).view
    same = whole_run P wf m law N

    told : outcome (run N (at_start P wf m law).view).outcome ≡ Some o
    told = ap (λ r. outcome r.outcome) (sym same) ∙ e

    by_standing : Standing P m (at_start P wf m law) N
        → (fuel : ℕ) × ((σ : State) × ((reading P m fuel ≡ stopped o σ) × ((events σ.trace ≡ (after P m N).events) × ((after P m N).view.state.globals ≡ σ.globals ++ spare P))))
    by_standing (under_way f m₂ m₁ j d s th) = absurd (let y : None ≡ Some o = ap outcome (sym d.outcome) ∙ told in let q : ◌≡◌ {A = ℕ} 0 1 = cc (y) in omega arith)
    by_standing (come f p σ r m₁ k a fin d (inl x)) = absurd (let y : None ≡ Some o = ap outcome (sym x) ∙ ap outcome (sym d.outcome) ∙ told in let q : ◌≡◌ {A = ℕ} 0 1 = cc (y) in omega arith)
    by_standing (come f p σ r m₁ k a fin d (inr x)) =
        let y : Some p ≡ Some o = sym x ∙ ap outcome (sym d.outcome) ∙ told in
        let z : p ≡ o = cc (y) in
        (f, (σ, (r ∙ ap (λ q. stopped q σ) z, (sym (thin_counts fin.thin).0 ∙ sym d.events ∙ ap (λ r. r.events) (sym same), ap (λ r. r.view.state.globals) same ∙ ap (λ w. w.state.globals) d.view ∙ fin.globals))))

-- where the meaning stops, the course does
record Stops (P : Program) (o : Outcome) (σ : State) (v : Traced) : Type 0 where
  pub at : Traced
  pub final : Final P o σ at
  pub steps : Steps (length P.words) v at

stops_at : {P : Program} {n : ℕ} {v : Traced} {o : Outcome} {σ : State} → Course P n v (stopped o σ) → Stops P o σ v
stops_at (ends {m₁ = m₁} f s) = record { at = m₁; final = f; steps = s }

module _ (P : Program) (wf : WellFormed P) (m : Meaning) (law : Lawful m) (fuel : ℕ) (o : Outcome) (σ : State) (e : reading P m fuel ≡ stopped o σ) where
  stop : Stops P o σ (at_start P wf m law)
  stop = stops_at (subst (Course P fuel (at_start P wf m law)) e (course P wf m law fuel))

  reach : (N : ℕ) × (outcome (after P m N).outcome ≡ Some o)
  reach = by_cut (suc (len stop.steps)) (cut (suc (len stop.steps)) stop.steps)
    where
      by_cut : (N : ℕ) → Cut (length P.words) (at_start P wf m law) stop.at (suc (len stop.steps)) (len stop.steps) → (N : ℕ) × (outcome (after P m N).outcome ≡ Some o)
      by_cut N (within m₂ d t q) = absurd (omega arith)
      by_cut N (beyond j q f) =
          let d = f 0 stop.at stop.final.answer (stays stop.at stop.final.answer j stop.final.halts) in
          (suc (len stop.steps), ap (λ r. outcome r.outcome) (whole_run P wf m law (suc (len stop.steps))) ∙ ap outcome d.outcome ∙ stop.final.shows)

  bounded : (N : ℕ) → (after P m N).executed ≤ 4096 * (1 + rounds σ.trace + 2 * activations σ.trace)
  bounded N = by_cut (cut N stop.steps)
    where
      counted : stop.final.credit + turns_of stop.at.trail ≤ rounds σ.trace + 2 * activations σ.trace
      counted = (thin_counts stop.final.thin).1

      by_cut : Cut (length P.words) (at_start P wf m law) stop.at N (len stop.steps) → (after P m N).executed ≤ 4096 * (1 + rounds σ.trace + 2 * activations σ.trace)
      by_cut (within m₂ d t q) =
          let b = within_turns P wf m law N in
          let g = grown t in
          let u = ap turns_of g.1 ∙ turns_append g.0 m₂.trail in
          let w = d.turns in
          let k = counted in
          omega arith
      by_cut (beyond j q f) =
          let b = within_turns P wf m law N in
          let d = f 0 stop.at stop.final.answer (stays stop.at stop.final.answer j stop.final.halts) in
          let w = d.turns in
          let k = counted in
          omega arith

pub outcomes_are_reached : OutcomesAreReached
outcomes_are_reached P wf m law fuel o σ e = reach P wf m law fuel o σ e

pub outcomes_are_bounded : OutcomesAreBounded
outcomes_are_bounded P wf m law fuel o σ e N = bounded P wf m law fuel o σ e N

-- where the meaning has come, the course has too
record Comes (W : ℕ) (v : Traced) (r : List Tick) : Type 0 where
  pub at : Traced
  pub credit : ℕ
  pub thin : Thin credit at.trail r
  pub steps : Steps W v at

comes_to : {P : Program} {n : ℕ} {v : Traced} (r : Res Flow) → Course P n v r → Comes (length P.words) v (trace_of r)
comes_to r (ends {m₁ = m₁} f s) = record { at = m₁; credit = f.credit; thin = f.thin; steps = s }
comes_to r (lasts {j = j} {m₁ = m₁} th s l) = record { at = m₁; credit = j; thin = th; steps = s }

pub events_are_bounded : EventsAreBounded
events_are_bounded P wf m law fuel newer older e q N few =
    let k = comes_to (reading P m fuel) (course P wf m law fuel) in
    let s = split e newer older k.thin q in
    let th = thin_counts s.thin in
    let l₁ : length (run N (at_start P wf m law).view).events ≡ length (after P m N).events = ap (λ r. length r.events) (sym (whole_run P wf m law N)) in
    let l₂ : length (passed_by s.older_marks) ≡ length (events older) = ap length th.0 in
    let t = few_turns (length P.words) (at_start P wf m law) k.at k.steps refl e s.older_marks s.newer_marks s.is N (omega arith) in
    let b = within_turns P wf m law N in
    omega arith
