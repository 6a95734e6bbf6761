-- A stretch, step by step.
use mathlib.Core.Path.{◌≡◌, refl, sym, ap, ◌∙◌}
use mathlib.Core.List.{List}
use Prim.Native.Nat.{ℕ, zero, suc, ◌+◌, ◌-◌, ◌<◌}
use native.Mathlib.Nat.{add_assoc, add-zero}
use native.Mathlib.Omega.{arith}
use Rattle.instructions.specs.declared.answers.Act.{Act}
use Rattle.instructions.specs.declared.answers.Act.TheVariants.{Went, Take, Set, Stopped}
use Rattle.instructions.specs.declared.instruction.Instruction.{Instruction}
use Rattle.instructions.specs.State.{State}
use Rattle.instructions.specs.Steps.{stepped}
use Rattle.processor.specs.Shows.{shown, Stretched, stretched, stretched_by, before}

stretch_more : (n : ℕ) (code : List Instruction) (c w : State) (a : Act) → 0 < n → shown (stepped code c) c ≡ record { act = a; state = w } → stretched n code c ≡ stretched_by a w (stretched (n - 1) code)
unfolding stretched
stretch_more zero code c w a h e = absurd (omega arith)
stretch_more (suc n) code c w a h e = let m : suc n - 1 ≡ n = omega arith in rw m (ap (λ s. stretched_by s.act s.state (stretched n code)) e)

before_before : (m n : ℕ) (s : Stretched) → before m (before n s) ≡ before (m + n) s
before_before m n s = ap (λ j. record { executed = j; act = s.act; state = s.state }) (sym (add_assoc m n s.executed))

module _ (b t : ℕ) (code : List Instruction) (S : Stretched) (c w : State) (inv : S ≡ before t (stretched (b - t) code c)) where
  pub stretch_goes_on : t < b → shown (stepped code c) c ≡ record { act = Went; state = w } → S ≡ before (t + 1) (stretched (b - (t + 1)) code w)
  stretch_goes_on h e =
      let m : b - t - 1 ≡ b - (t + 1) = omega arith in
      inv ∙ ap (before t) (stretch_more (b - t) code c w Went (omega arith) e) ∙ before_before t 1 _ ∙ ap (λ j. before (t + 1) (stretched j code w)) m

  pub stretch_ends : (a : Act) → (a ≡ Went → ⊥) → t < b → shown (stepped code c) c ≡ record { act = a; state = w } → S ≡ record { executed = t; act = a; state = w }
  stretch_ends a n h e = inv ∙ ap (before t) (stretch_more (b - t) code c w a (omega arith) e ∙ by a n) ∙ ap (λ j. record { executed = j; act = a; state = w }) (add-zero t)
    where
      by : (a : Act) → (a ≡ Went → ⊥) → stretched_by a w (stretched (b - t - 1) code) ≡ record { executed = 0; act = a; state = w }
      by Went n = absurd (n refl)
      by (Take m p) n = refl
      by (Set m x) n = refl
      by Stopped n = refl

  pub stretch_spent : b ≡ t → S ≡ record { executed = t; act = Went; state = c }
  unfolding stretched
  stretch_spent h = let m : b - t ≡ 0 = omega arith in inv ∙ ap (λ j. before t (stretched j code c)) m ∙ ap (λ j. record { executed = j; act = Went; state = c }) (add-zero t)
