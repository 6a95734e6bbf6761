-- A run, turn by turn, with its events counted.
use Rattle.std.proofs.Common.{◌≡◌, ℕ, zero, suc, ◌+◌, ◌-◌, ◌<◌, ◌≤◌, List, length, ℤ, Some, None, Ok, Err, Option, Result, sym, refl, ap, ◌∙◌, ap₂, add-zero, add_assoc, zero-add, arith}
use mathlib.Core.Path.{transport}
use Rattle.ports.specs.Calls.{take_answer, set_answer}
use Rattle.instructions.specs.declared.answers.Act.{Act}
use Rattle.instructions.specs.declared.answers.Act.TheVariants.{Went as Acted, Take, Set, Stopped as Stood}
use Rattle.instructions.specs.declared.answers.Outcome.{Outcome}
use Rattle.instructions.specs.declared.answers.Step.{Step}
use Rattle.instructions.specs.declared.answers.Step.TheVariants.{Went, Event, Stopped}
use Rattle.instructions.specs.declared.instruction.Instruction.{Instruction}
use Rattle.instructions.specs.State.{State}
use Rattle.instructions.specs.Steps.{View, Run, Move, gone, did, halted, step, stepped, run, onward, spent, with_parts, took_or_waits, set_or_not}
use Rattle.board.specs.Seen.{Told, told, answered, Tally, tally}
use Rattle.processor.specs.Shows.{shown, Stretched, stretched, stretched_by}
use Rattle.board.proofs.Showing.{step_answered}

-- a counted run with more before it
abbrev pub plus : ℕ → ℕ → Tally → Tally
plus a b r = record { outcome = r.outcome; executed = a + r.executed; events = b + r.events; view = r.view }

abbrev onward_by : Told → (View → Tally) → Tally
onward_by t k = by t.step
  where
    by : Step → Tally
    by Went = plus 1 0 (k t.view)
    by Event = plus 1 1 (k t.view)
    by (Stopped o) = record { outcome = o; executed = 0; events = 0; view = t.view }

tally_onward : (m : Move) (k : View → Run) → tally (onward m k) ≡ onward_by (told m) (λ v. tally (k v))
tally_onward (gone w) k = ap (λ n. record { outcome = (k w).outcome; executed = 1 + (k w).executed; events = n; view = (k w).view }) (sym (zero-add (length (k w).events)))
tally_onward (did e w) k = ap (λ n. record { outcome = (k w).outcome; executed = 1 + (k w).executed; events = n; view = (k w).view }) (let q : suc (length (k w).events) ≡ 1 + length (k w).events = omega arith in q)
tally_onward (halted o w) k = refl

run_none : (n : ℕ) (v : View) → n ≡ 0 → tally (run n v) ≡ record { outcome = spent v.state.status; executed = 0; events = 0; view = v }
unfolding run
run_none n v h = rw h refl

plus_plus : (a b x y : ℕ) (r : Tally) → plus a b (plus x y r) ≡ plus (a + x) (b + y) r
plus_plus a b x y r = ap₂ (λ m n. record { outcome = r.outcome; executed = m; events = n; view = r.view }) (sym (add_assoc a x r.executed)) (sym (add_assoc b y r.events))

-- what is left of a counted run where its next step asks for an act
abbrev at_act : Act → ℕ → View → Tally
at_act Acted n v = tally (run 0 v)
at_act (Take c p) n v = onward_by (answered (Take c p) v) (λ w. tally (run (n - 1) w))
at_act (Set c x) n v = onward_by (answered (Set c x) v) (λ w. tally (run (n - 1) w))
at_act Stood n v = onward_by (answered Stood v) (λ w. tally (run (n - 1) w))

-- the board after a stretch
abbrev beyond : Stretched → View → View
beyond s v = with_parts s.state v.port v

none_more : (r : Tally) → r ≡ plus 0 0 r
none_more r = ap₂ (λ m n. record { outcome = r.outcome; executed = m; events = n; view = r.view }) (sym (zero-add r.executed)) (sym (zero-add r.events))

-- a run begins with a stretch
run_stretched : (n : ℕ) (v : View) → tally (run n v) ≡ plus (stretched n v.code v.state).executed 0 (at_act (stretched n v.code v.state).act (n - (stretched n v.code v.state).executed) (beyond (stretched n v.code v.state) v))
unfolding run stretched
run_stretched zero v = none_more (tally (run 0 v))
run_stretched (suc n) v = tally_onward (step v) (run n) ∙ ap (λ t. onward_by t (λ w. tally (run n w))) (step_answered v) ∙ by (shown (stepped v.code v.state) v.state).act (shown (stepped v.code v.state) v.state).state (λ c. run_stretched n (with_parts c v.port v))
  where
    later : (t : Told) → onward_by t (λ w. tally (run n w)) ≡ plus 0 0 (onward_by t (λ w. tally (run (suc n - 0 - 1) w)))
    later t = let m : n ≡ suc n - 0 - 1 = omega arith in ap (λ j. onward_by t (λ w. tally (run j w))) m ∙ none_more (onward_by t (λ w. tally (run (suc n - 0 - 1) w)))

    by : (a : Act) (c : State) → ((c : State) → tally (run n (with_parts c v.port v)) ≡ plus (stretched n v.code c).executed 0 (at_act (stretched n v.code c).act (n - (stretched n v.code c).executed) (beyond (stretched n v.code c) v))) → onward_by (answered a (with_parts c v.port v)) (λ w. tally (run n w)) ≡ plus (stretched_by a c (stretched n v.code)).executed 0 (at_act (stretched_by a c (stretched n v.code)).act (suc n - (stretched_by a c (stretched n v.code)).executed) (beyond (stretched_by a c (stretched n v.code)) v))
    by Acted c ih =
        let s = stretched n v.code c in
        let m : n - s.executed ≡ suc n - (1 + s.executed) = omega arith in
        ap (plus 1 0) (ih c) ∙ plus_plus 1 0 s.executed 0 (at_act s.act (n - s.executed) (beyond s v)) ∙ ap (λ j. plus (1 + s.executed) 0 (at_act s.act j (beyond s v))) m
    by (Take k p) c ih = later (answered (Take k p) (with_parts c v.port v))
    by (Set k x) c ih = later (answered (Set k x) (with_parts c v.port v))
    by Stood c ih = later (answered Stood (with_parts c v.port v))

-- a stretch is as long as it may be, or ends before that with an act
abbrev Counted : Act → ℕ → ℕ → Type 0
Counted Acted e n = e ≡ n
Counted (Take c p) e n = e < n
Counted (Set c x) e n = e < n
Counted Stood e n = e < n

counted : (n : ℕ) (code : List Instruction) (c : State) → Counted (stretched n code c).act (stretched n code c).executed n
unfolding stretched
counted zero code c = refl
counted (suc n) code c = by (shown (stepped code c) c).act (shown (stepped code c) c).state (counted n code)
  where
    up : (a : Act) (e : ℕ) → Counted a e n → Counted a (1 + e) (suc n)
    up Acted e h = omega arith
    up (Take k p) e h = omega arith
    up (Set k x) e h = omega arith
    up Stood e h = omega arith

    by : (a : Act) (w : State) → ((w : State) → Counted (stretched n code w).act (stretched n code w).executed n) → Counted (stretched_by a w (stretched n code)).act (stretched_by a w (stretched n code)).executed (suc n)
    by Acted w ih = up (stretched n code w).act (stretched n code w).executed (ih w)
    by (Take k p) w ih = omega arith
    by (Set k x) w ih = omega arith
    by Stood w ih = omega arith

-- no act of the port is told as going on without an event
took_not : (n p : ℕ) (r : Result (Option ℤ) ℕ) (v w : View) {X : Type 0} → told (took_or_waits n p r v) ≡ record { step = Went; view = w } → X
took_not n p (Ok (Some z)) v w e = let f = ap (λ t. t.step) e in absurd (let z : ◌≡◌ {A = ℕ} 0 1 = cc in omega arith)
took_not n p (Ok None) v w e = let f = ap (λ t. t.step) e in absurd (let z : ◌≡◌ {A = ℕ} 0 1 = cc in omega arith)
took_not n p (Err k) v w e = let f = ap (λ t. t.step) e in absurd (let z : ◌≡◌ {A = ℕ} 0 1 = cc in omega arith)

set_not : (n : ℕ) (x : ℤ) (c : State) (r : Result Unit ℕ) (v w : View) {X : Type 0} → told (set_or_not n x c r v) ≡ record { step = Went; view = w } → X
set_not n x c (Ok u) v w e = let f = ap (λ t. t.step) e in absurd (let z : ◌≡◌ {A = ℕ} 0 1 = cc in omega arith)
set_not n x c (Err k) v w e = let f = ap (λ t. t.step) e in absurd (let z : ◌≡◌ {A = ℕ} 0 1 = cc in omega arith)

-- a turn of a run: a stretch of x steps from v, and then an act that comes to a step
module _ (b e k x : ℕ) (a : Act) (R : Tally) (v w : View) (c : State) (inv : R ≡ plus e k (tally (run (b - e) v))) (h : e < b) (s : stretched (b - e) v.code v.state ≡ record { executed = x; act = a; state = c }) where
  abbrev u : View
  u = with_parts c v.port v

  so_far : R ≡ plus (e + x) k (at_act a (b - e - x) u)
  so_far =
      inv ∙ ap (plus e k) (run_stretched (b - e) v ∙ ap (λ s. plus s.executed 0 (at_act s.act (b - e - s.executed) (beyond s v))) s)
      ∙ plus_plus e k x 0 _ ∙ ap (λ j. plus (e + x) j (at_act a (b - e - x) u)) (add-zero k)

  length_is : Counted a x (b - e)
  length_is = transport (ap (λ s. Counted s.act s.executed (b - e)) s) (counted (b - e) v.code v.state)

  pub within : x ≤ b - e
  within = by a length_is
    where
      by : (a : Act) → Counted a x (b - e) → x ≤ b - e
      by Acted h = omega arith
      by (Take n p) h = omega arith
      by (Set n z) h = omega arith
      by Stood h = omega arith

  pub went_all : answered a u ≡ record { step = Went; view = w } → (e + x ≡ b) × (R ≡ plus (e + x) k (tally (run (b - (e + x)) w)))
  went_all q = by a length_is q so_far
    where
      by : (a : Act) → Counted a x (b - e) → answered a u ≡ record { step = Went; view = w } → R ≡ plus (e + x) k (at_act a (b - e - x) u) → (e + x ≡ b) × (R ≡ plus (e + x) k (tally (run (b - (e + x)) w)))
      by Acted c q g = (omega (arith, h, c), (let m : 0 ≡ b - (e + x) = omega (arith, h, c) in g ∙ ap₂ (λ j z. plus (e + x) k (tally (run j z))) m (ap (λ t. t.view) q)))
      by (Take n p) c q g = took_not n p (take_answer u.port n) u w q
      by (Set n z) c q g = set_not n z u.state (set_answer n) u w q
      by Stood c q g = let f = ap (λ t. t.step) q in absurd (let z : ◌≡◌ {A = ℕ} 0 1 = cc in omega arith)

  -- an act that is no going on: a step of its own
  acted : (r : Step) → answered a u ≡ record { step = r; view = w } → (r ≡ Went → ⊥) → (x < b - e) × (R ≡ plus (e + x) k (onward_by (record { step = r; view = w }) (λ z. tally (run (b - e - x - 1) z))))
  acted r q n = by a length_is q so_far
    where
      by : (a : Act) → Counted a x (b - e) → answered a u ≡ record { step = r; view = w } → R ≡ plus (e + x) k (at_act a (b - e - x) u) → (x < b - e) × (R ≡ plus (e + x) k (onward_by (record { step = r; view = w }) (λ z. tally (run (b - e - x - 1) z))))
      by Acted c q g = absurd (n (sym (ap (λ t. t.step) q)))
      by (Take m p) c q g = (c, g ∙ ap (λ t. plus (e + x) k (onward_by t (λ z. tally (run (b - e - x - 1) z)))) q)
      by (Set m z) c q g = (c, g ∙ ap (λ t. plus (e + x) k (onward_by t (λ z. tally (run (b - e - x - 1) z)))) q)
      by Stood c q g = (c, g ∙ ap (λ t. plus (e + x) k (onward_by t (λ z. tally (run (b - e - x - 1) z)))) q)

  pub event : answered a u ≡ record { step = Event; view = w } → (x < b - e) × (R ≡ plus (e + x + 1) (k + 1) (tally (run (b - (e + x + 1)) w)))
  event q =
      let g = acted Event q (λ f. let z : ◌≡◌ {A = ℕ} 0 1 = cc in omega arith) in
      let m : b - e - x - 1 ≡ b - (e + x + 1) = omega arith in
      (g.0, g.1 ∙ plus_plus (e + x) k 1 1 _ ∙ ap (λ j. plus (e + x + 1) (k + 1) (tally (run j w))) m)

  pub stopped : (o : Outcome) → answered a u ≡ record { step = Stopped o; view = w } → R ≡ record { outcome = o; executed = e + x; events = k; view = w }
  stopped o q =
      let g = acted (Stopped o) q (λ f. let z : ◌≡◌ {A = ℕ} 0 1 = cc in omega arith) in
      g.1 ∙ ap₂ (λ x y. record { outcome = o; executed = x; events = y; view = w }) (add-zero (e + x)) (add-zero k)

pub turned_out : (b t e k : ℕ) (R : Tally) (v : View) (o : Outcome) → R ≡ plus e k (tally (run (b - t) v)) → b ≤ t → o ≡ spent v.state.status → R ≡ record { outcome = o; executed = e; events = k; view = v }
turned_out b t e k R v o inv h q =
    let n : b - t ≡ 0 = omega arith in
    inv ∙ ap (plus e k) (run_none (b - t) v n) ∙ ap₂ (λ x y. record { outcome = spent v.state.status; executed = x; events = y; view = v }) (add-zero e) (add-zero k) ∙ ap (λ q. record { outcome = q; executed = e; events = k; view = v }) (sym q)
