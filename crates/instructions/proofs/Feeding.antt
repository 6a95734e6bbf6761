-- Feeding commutes with executing.
use Rattle.std.proofs.Common.{◌≡◌, ℕ, zero, suc, Bool, true, false, cond, ltb, [], ◌∷◌, ℤ, Some, None, Ok, Err, Option, Result, sym, refl, ap, ◌∙◌, subst, arith}
use Rattle.ports.specs.Calls.{take_answer, set_answer, oldest}
use Rattle.ports.specs.Events.{took, set_to}
use Rattle.ports.specs.Samples.{Sample, joined}
use Rattle.ports.proofs.Joining.{joined_sets, joined_finds, joined_takes}
use Rattle.instructions.specs.State.{State}
use Rattle.instructions.specs.Steps.{View, Effect, went, takes, sets, breaks, stops, Move, gone, did, halted, met, stepped, step, run, more, onward, took_or_waits, set_or_not, delivered, with_parts}
use Rattle.instructions.specs.Laws.{joining, joined_run, FeedingCommutes}

-- a step that was executed
abbrev Executed : Move → Type 0
Executed (gone w) = Unit {0}
Executed (did e w) = Unit {0}
Executed (halted o w) = ⊥

abbrev joined_move : Sample → Move → Move
joined_move s (gone w) = gone (joining s w)
joined_move s (did e w) = did e (joining s w)
joined_move s (halted o w) = halted o (joining s w)

module _ (s : Sample) where
  -- a take that was executed found a sample
  found : (n : ℕ) (v : View) (z : ℤ) → take_answer v.port n ≡ Ok (Some z) → oldest (v.port n).waiting ≡ Some z
  found n v z e = by_range (ltb n 16) (oldest (v.port n).waiting) e
    where
      by_range : (b : Bool) (o : Option ℤ) → ◌≡◌ {A = Result (Option ℤ) ℕ} (cond b (Ok o) (Err 51)) (Ok (Some z)) → o ≡ Some z
      by_range true o e = cc
      by_range false o e = absurd (let y : ◌≡◌ {A = ℕ} 0 1 = cc in omega arith)

  -- and finds it with one sample more
  answer_joined : (n : ℕ) (v : View) (z : ℤ) → oldest (v.port n).waiting ≡ Some z → take_answer (joined s v.port) n ≡ take_answer v.port n
  answer_joined n v z e = ap (λ o. cond (ltb n 16) (Ok o) (Err 51)) (joined_finds s n z v.port e ∙ sym e)

  take_law : (n p : ℕ) (v : View) (r : Result (Option ℤ) ℕ) → take_answer v.port n ≡ r → Executed (took_or_waits n p r v) → took_or_waits n p (take_answer (joined s v.port) n) (joining s v) ≡ joined_move s (took_or_waits n p r v)
  take_law n p v (Ok None) e x = absurd x
  take_law n p v (Ok (Some z)) e x =
      ap (λ r. took_or_waits n p r (joining s v)) (answer_joined n v z (found n v z e) ∙ e)
      ∙ ap (λ m. did (took n z) (with_parts (delivered z v.state) m v)) (sym (joined_takes s n z v.port (found n v z e)))
  take_law n p v (Err f) e x = absurd x

  set_law : (n : ℕ) (y : ℤ) (w : State) (v : View) (r : Result Unit ℕ) → Executed (set_or_not n y w r v) → set_or_not n y w r (joining s v) ≡ joined_move s (set_or_not n y w r v)
  set_law n y w v (Ok u) x = ap (λ m. did (set_to n y) (with_parts w m v)) (sym (joined_sets s n y v.port))
  set_law n y w v (Err e) x = absurd x

  met_joined : (a : Effect) (v : View) → Executed (met a v) → met a (joining s v) ≡ joined_move s (met a v)
  met_joined (went w) v x = refl
  met_joined (takes n p) v x = take_law n p v (take_answer v.port n) refl x
  met_joined (sets n y w) v x = set_law n y w v (set_answer n) x
  met_joined (breaks w) v x = absurd x
  met_joined stops v x = absurd x

  step_joined : (v : View) (m : Move) → step v ≡ m → Executed m → step (joining s v) ≡ joined_move s m
  unfolding step
  step_joined v m e x = met_joined (stepped v.code v.state) v (subst Executed (sym e) x) ∙ ap (joined_move s) e

pub feeding_commutes : FeedingCommutes
unfolding run
feeding_commutes s zero v h = refl
feeding_commutes s (suc n) v h = by_move (λ w. feeding_commutes s n w) (step v) refl h
  where
    by_move : ((w : View) → (run n w).executed ≡ n → run n (joining s w) ≡ joined_run s (run n w)) → (m : Move) → step v ≡ m → (onward m (run n)).executed ≡ suc n → onward (step (joining s v)) (run n) ≡ joined_run s (onward m (run n))
    by_move ih (gone w) e q = ap (λ m. onward m (run n)) (step_joined s v (gone w) e tt) ∙ ap (more 1 []) (ih w (omega arith))
    by_move ih (did k w) e q = ap (λ m. onward m (run n)) (step_joined s v (did k w) e tt) ∙ ap (more 1 (k ∷ [])) (ih w (omega arith))
    by_move ih (halted o w) e q = absurd (omega arith)
