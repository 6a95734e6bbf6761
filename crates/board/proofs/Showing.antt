-- What a board's step comes to, by what its memory asked.
use Rattle.std.proofs.Common.{◌≡◌, ℕ, Bool, true, false, cond, ltb, get_or, ℤ, pos, Some, None, Ok, Err, Option, Result, ok_or, sym, refl, ap, ◌∙◌, arith}
use Rattle.ports.specs.Calls.{set_answer}
use Rattle.instructions.specs.declared.answers.Fault.{Fault}
use Rattle.instructions.specs.declared.answers.Fault.TheVariants.{Broken as BrokenFault}
use Rattle.instructions.specs.Moves.{global, ok, fail}
use Rattle.instructions.specs.State.{State}
use Rattle.instructions.specs.Steps.{View, Effect, went, takes, sets, breaks, stops, met, step, stepped, with_parts, set_or_not}
use Rattle.board.specs.Seen.{told, answered, shown_word, peeked}
use Rattle.processor.specs.Shows.{shown}

-- a step is what comes at the port of its act
pub step_answered : (v : View) → told (step v) ≡ answered (shown (stepped v.code v.state) v.state).act (with_parts (shown (stepped v.code v.state) v.state).state v.port v)
unfolding step
step_answered v = by (stepped v.code v.state)
  where
    by_answer : (n : ℕ) (x : ℤ) (w : State) (r : Result Unit ℕ) → told (set_or_not n x w r v) ≡ told (set_or_not n x w r (with_parts w v.port v))
    by_answer n x w (Ok u) = refl
    by_answer n x w (Err e) = refl

    by : (a : Effect) → told (met a v) ≡ answered (shown a v.state).act (with_parts (shown a v.state).state v.port v)
    by (went w) = refl
    by (takes n p) = refl
    by (sets n x w) = by_answer n x w (set_answer n)
    by (breaks w) = refl
    by stops = refl

-- a global word that is there, and one that is not
module _ (v : View) (i : ℕ) (o : Option ℤ) (g : (e : Fault) → global e i v.state ≡ record { result = ok_or o e; state = v.state }) where
  there : o ≡ (cond (ltb i 1024) (Some (get_or v.state.globals i (pos 0))) None)
  unfolding global
  there = by_range (ltb i 1024) o (g BrokenFault)
    where
      by_range : (b : Bool) (o : Option ℤ) → cond b (ok (get_or v.state.globals i (pos 0)) v.state) (fail BrokenFault v.state) ≡ record { result = ok_or o BrokenFault; state = v.state } → o ≡ cond b (Some (get_or v.state.globals i (pos 0))) None
      by_range true (Some z) q = let f = ap (λ d. d.result) q in cc
      by_range true None q = let f = ap (λ d. d.result) q in absurd (let z : ◌≡◌ {A = ℕ} 0 1 = cc in omega arith)
      by_range false (Some z) q = let f = ap (λ d. d.result) q in absurd (let z : ◌≡◌ {A = ℕ} 0 1 = cc in omega arith)
      by_range false None q = refl

  pub peek_there : (z y : ℤ) → o ≡ Some z → y ≡ shown_word z → ◌≡◌ {A = Result ℤ ℕ} (Ok y) (peeked v i)
  peek_there z y e h = by_range (ltb i 1024) (sym e ∙ there)
    where
      by_range : (b : Bool) → Some z ≡ cond b (Some (get_or v.state.globals i (pos 0))) None → ◌≡◌ {A = Result ℤ ℕ} (Ok y) (cond b (Ok (shown_word (get_or v.state.globals i (pos 0)))) (Err 53))
      by_range true q = let s : z ≡ get_or v.state.globals i (pos 0) = cc in ap Ok (h ∙ ap shown_word s)
      by_range false q = absurd (let z : ◌≡◌ {A = ℕ} 0 1 = cc in omega arith)

  pub peek_absent : o ≡ None → ◌≡◌ {A = Result ℤ ℕ} (Err 53) (peeked v i)
  peek_absent e = by_range (ltb i 1024) (sym e ∙ there)
    where
      by_range : (b : Bool) → None ≡ cond b (Some (get_or v.state.globals i (pos 0))) None → ◌≡◌ {A = Result ℤ ℕ} (Err 53) (cond b (Ok (shown_word (get_or v.state.globals i (pos 0)))) (Err 53))
      by_range true q = absurd (let z : ◌≡◌ {A = ℕ} 0 1 = cc in omega arith)
      by_range false q = refl
