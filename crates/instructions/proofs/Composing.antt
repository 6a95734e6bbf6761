-- Runs one after the other.
use Rattle.std.proofs.Common.{◌≡◌, ℕ, zero, suc, ◌+◌, ◌<◌, List, [], ◌∷◌, ◌++◌, ℤ, Some, None, Ok, Err, Option, Result, sym, refl, ap, ◌∙◌, ap₂, append_assoc, add_assoc, suc-add, zero-add, arith}
use Rattle.ports.specs.Calls.{take_answer, set_answer}
use Rattle.ports.specs.Events.{Event}
use Rattle.instructions.specs.declared.answers.Outcome.{Outcome}
use Rattle.instructions.specs.State.{State}
use Rattle.instructions.specs.Steps.{View, Effect, went, takes, sets, breaks, stops, Move, gone, did, halted, met, stepped, step, Run, run, more, onward, nothing, took_or_waits, set_or_not}
use Rattle.instructions.specs.Laws.{RunsCompose}

pub more_more : (a x : ℕ) (es fs : List Event) (r : Run) → more a es (more x fs r) ≡ more (a + x) (es ++ fs) r
more_more a x es fs r = ap₂ (λ n gs. record { outcome = r.outcome; executed = n; events = gs; view = r.view }) (sym (add_assoc a x r.executed)) (sym (append_assoc es fs r.events))

more_none : (r : Run) → more 0 [] r ≡ r
more_none r = ap (λ n. record { outcome = r.outcome; executed = n; events = r.events; view = r.view }) (zero-add r.executed)

-- where none was executed, none is executed again, with the same answer
abbrev Again : Move → Type 0
Again (gone w) = Unit {0}
Again (did e w) = Unit {0}
Again (halted o w) = step w ≡ halted o w

again : (v : View) → Again (step v)
unfolding step
again v = by_effect (stepped v.code v.state) refl
  where
    by_sample : (n p : ℕ) (r : Result (Option ℤ) ℕ) → step v ≡ took_or_waits n p r v → Again (took_or_waits n p r v)
    by_sample n p (Ok (Some z)) e = tt
    by_sample n p (Ok None) e = e
    by_sample n p (Err k) e = refl

    by_setting : (n : ℕ) (x : ℤ) (w : State) (r : Result Unit ℕ) → Again (set_or_not n x w r v)
    by_setting n x w (Ok u) = tt
    by_setting n x w (Err k) = refl

    by_effect : (a : Effect) → stepped v.code v.state ≡ a → Again (met a v)
    by_effect (went w) e = tt
    by_effect (takes n p) e = by_sample n p (take_answer v.port n) (ap (λ a. met a v) e)
    by_effect (sets n x w) e = by_setting n x w (set_answer n)
    by_effect (breaks w) e = refl
    by_effect stops e = ap (λ a. met a v) e

run_again : (b : ℕ) (w : View) (o : Outcome) → 0 < b → step w ≡ halted o w → run b w ≡ nothing o w
unfolding run
run_again zero w o h e = absurd (omega arith)
run_again (suc b) w o h e = ap (λ m. onward m (run b)) e

pub runs_compose : RunsCompose
unfolding run
runs_compose zero b v h = ap (λ n. run n v) (zero-add b) ∙ sym (more_none (run b v))
runs_compose (suc a) b v h = ap (λ n. run n v) (suc-add a b) ∙ by_move (λ w. runs_compose a b w h) (step v) (again v)
  where
    by_move : ((w : View) → run (a + b) w ≡ more (run a w).executed (run a w).events (run b (run a w).view)) → (m : Move) → Again m → onward m (run (a + b)) ≡ more (onward m (run a)).executed (onward m (run a)).events (run b (onward m (run a)).view)
    by_move ih (gone w) q = ap (more 1 []) (ih w) ∙ more_more 1 (run a w).executed [] (run a w).events (run b (run a w).view)
    by_move ih (did e w) q = ap (more 1 (e ∷ [])) (ih w) ∙ more_more 1 (run a w).executed (e ∷ []) (run a w).events (run b (run a w).view)
    by_move ih (halted o w) q = sym (more_none (nothing o w)) ∙ ap (more 0 []) (sym (run_again b w o h q))
