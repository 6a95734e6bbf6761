-- Every executed instruction goes to a higher index, or is a turn: so turns bound how many there are.
use Rattle.std.proofs.Common.{◌≡◌, ℕ, zero, suc, ◌+◌, ◌*◌, ◌<◌, ◌≤◌, min, Bool, true, false, cond, eqb, ltb, List, [], ◌∷◌, length, take, ℤ, Some, None, Ok, Err, Option, Result, refl, ap, ◌∙◌, arith, length-take}
use Rattle.std.proofs.lemmas.Bool.{ltb-true}
use Rattle.ports.specs.Calls.{take_answer, set_answer, feed_after}
use Rattle.instructions.specs.declared.answers.Status.{Status}
use Rattle.instructions.specs.declared.answers.Status.TheVariants.{Running, Ended, Trapped, Broken}
use Rattle.instructions.specs.State.{State}
use Rattle.instructions.specs.Steps.{View, Effect, went, takes, sets, breaks, stops, Move, gone, did, halted, met, going, step, run, onward, took_or_waits, set_or_not, with_parts, loaded}
use Rattle.instructions.specs.Laws.{turn, turned, turns, Call, feed, go, total, TurnsBound}

abbrev level_by : Status → ℕ → ℕ
level_by Running p = min p 4096
level_by Ended p = 4096
level_by (Trapped t q) p = 4096
level_by Broken p = 4096

-- how far an index has come, up to the end of the longest list; a board that has stopped is at that end
abbrev level : State → ℕ
level c = level_by c.status c.pc

high : (s : Status) (p : ℕ) → level_by s p ≤ 4096
high Running p = omega arith
high Ended p = omega arith
high (Trapped t q) p = omega arith
high Broken p = omega arith

low : (s : Status) (p : ℕ) → min p 4096 ≤ level_by s p
low Running p = omega arith
low Ended p = omega arith
low (Trapped t q) p = omega arith
low Broken p = omega arith

-- what a step leaves: the list, and where an instruction was executed, an index that was within it
abbrev Moved : View → Move → Type 0
Moved v (gone w) = (w.code ≡ v.code) × (v.state.pc < length v.code) × (v.state.status ≡ Running)
Moved v (did e w) = (w.code ≡ v.code) × (v.state.pc < length v.code) × (v.state.status ≡ Running)
Moved v (halted o w) = (w.code ≡ v.code) × (level v.state ≤ level w.state)

module _ (v : View) where
  above : level v.state ≤ 4096
  above = high v.state.status v.state.pc

  same : level v.state ≤ level v.state
  same = omega arith

  module _ (h : v.state.pc < length v.code) (r : v.state.status ≡ Running) where
    by_sample : (n p : ℕ) (a : Result (Option ℤ) ℕ) → Moved v (took_or_waits n p a v)
    by_sample n p (Ok (Some z)) = (refl, h, r)
    by_sample n p (Ok None) = (refl, same)
    by_sample n p (Err k) = (refl, above)

    by_setting : (n : ℕ) (x : ℤ) (w : State) (a : Result Unit ℕ) → Moved v (set_or_not n x w a v)
    by_setting n x w (Ok u) = (refl, h, r)
    by_setting n x w (Err k) = (refl, above)

    within : (a : Effect) → Moved v (met a v)
    within (went w) = (refl, h, r)
    within (takes n p) = by_sample n p (take_answer v.port n)
    within (sets n x w) = by_setting n x w (set_answer n)
    within (breaks w) = (refl, above)
    within stops = (refl, same)

  by_test : (b : Bool) (a : Effect) → (b ≡ true → v.state.pc < length v.code) → v.state.status ≡ Running → Moved v (met (cond b a (breaks v.state)) v)
  by_test true a h r = within (h refl) r a
  by_test false a h r = (refl, above)

  by_status : (s : Status) → v.state.status ≡ s → Moved v (met (going s v.code v.state) v)
  by_status Running r = by_test (ltb v.state.pc (length v.code)) _ (ltb-true v.state.pc (length v.code)) r
  by_status Ended r = (refl, same)
  by_status (Trapped t p) r = (refl, same)
  by_status Broken r = (refl, same)

  moved : Moved v (step v)
  unfolding step
  moved = by_status v.state.status refl

-- one instruction is paid for by a turn, or by a higher index
paid : (c d : State) → c.pc < 4096 → c.status ≡ Running → 1 + level c ≤ 4096 * turn c d + level d
paid c d h r = by_index (ltb c.pc d.pc) (ltb-true c.pc d.pc)
  where
    here : level c ≡ min c.pc 4096
    here = ap (λ s. level_by s c.pc) r

    by_depth : (b : Bool) → c.pc < d.pc → 1 + level c ≤ 4096 * cond b 0 1 + level d
    by_depth true l = omega (arith, here, low d.status d.pc)
    by_depth false l = omega (arith, here, low d.status d.pc)

    by_index : (b : Bool) → (b ≡ true → c.pc < d.pc) → 1 + level c ≤ 4096 * cond b (cond (eqb (length c.callers) (length d.callers)) 0 1) 1 + level d
    by_index true l = by_depth (eqb (length c.callers) (length d.callers)) (l refl)
    by_index false l = omega (arith, here)

-- a run keeps its list, and its instructions are paid for by its turns and by how far its index has come
abbrev Paid : ℕ → View → Type 0
Paid n v = ((run n v).view.code ≡ v.code) × ((run n v).executed + level v.state ≤ 4096 * turns n v + level (run n v).view.state)

run_paid : (n : ℕ) (v : View) → length v.code ≤ 4096 → Paid n v
unfolding run turns
run_paid zero v h = (refl, omega arith)
run_paid (suc n) v h = by_move (run_paid n) (step v) (moved v)
  where
    one : ((w : View) → length w.code ≤ 4096 → Paid n w) → (w : View) → w.code ≡ v.code → v.state.pc < length v.code → v.state.status ≡ Running → ((run n w).view.code ≡ v.code) × (1 + (run n w).executed + level v.state ≤ 4096 * (turn v.state w.state + turns n w) + level (run n w).view.state)
    one ih w same l r =
        let short : length w.code ≤ 4096 = omega (arith, ap length same) in
        let here : v.state.pc < 4096 = omega arith in
        let rest = ih w short in
        (rest.0 ∙ same, omega (arith, paid v.state w.state here r, rest.1))

    by_move : ((w : View) → length w.code ≤ 4096 → Paid n w) → (m : Move) → Moved v m → ((onward m (run n)).view.code ≡ v.code) × ((onward m (run n)).executed + level v.state ≤ 4096 * turned v.state m (turns n) + level (onward m (run n)).view.state)
    by_move ih (gone w) q = one ih w q.0 q.1 q.2
    by_move ih (did e w) q = one ih w q.0 q.1 q.2
    by_move ih (halted o w) q = (q.0, omega (arith, q.1))

total_paid : (calls : List Call) (v : View) → length v.code ≤ 4096 → (total calls v).executed + level v.state ≤ 4096 * (total calls v).turns_made + 4096
total_paid [] v h = omega (arith, high v.state.status v.state.pc)
total_paid (feed c z ∷ cs) v h = total_paid cs (with_parts v.state (feed_after v.port c z) v) h
total_paid (go n ∷ cs) v h =
    let one = run_paid n v h in
    let short : length (run n v).view.code ≤ 4096 = omega (arith, ap length one.0) in
    let rest = total_paid cs (run n v).view short in
    omega (arith, one.1, rest)

pub turns_bound : TurnsBound
turns_bound code port calls =
    let short : length (take 4096 code) ≤ 4096 = omega (arith, length-take 4096 code) in
    omega (arith, total_paid calls (loaded code port) short)
