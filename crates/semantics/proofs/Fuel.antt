-- More fuel.
use Rattle.std.proofs.Common.{◌≡◌, ℕ, zero, suc, ◌≤◌, List, ◌++◌, sym, refl, ◌∙◌, subst, inr, le_of_suc-le-suc, not-suc-le-zero, arith}
use native.Mathlib.Decide.{dec_le}
use Rattle.ports.specs.Channels.{Meaning}
use Rattle.semantics.specs.Program.{Stat, Program}
use Rattle.semantics.specs.State.{Tick, State, Outcome, Res, done, stopped, out, Flow, begin, trace_of}
use Rattle.semantics.specs.Meaning.{exec, concluded, reading}
use Rattle.semantics.specs.Laws.{Under, same, longer, MoreFuel, OneOutcome}
use Rattle.semantics.proofs.Growing.{exec_adds}
use Rattle.semantics.proofs.Following.{Follows, as_done, as_stopped, as_out, more_fuel, more_samples, PassedBy, stat_follows}

-- the port as it is
abbrev kept : Meaning → Meaning
kept m = m

-- the same port, and the second may have more fuel
abbrev Fuelled : {A : Type 0} → Res A → Res A → Type 0
Fuelled r q = Follows kept (Unit {0}) (λ c. ⊥) r q

kept_passed_by : PassedBy kept (λ c. ⊥)
kept_passed_by = record { sets = λ c x m. refl; finds = λ c z m e. e; takes = λ c z m e. refl; lacks = λ c m e. inr e }

fuelled : (P : Program) (a b : ℕ) → a ≤ b → (s : Stat) (σ : State) → Fuelled (exec P a s σ) (exec P b s σ)
unfolding exec
fuelled P zero b l s σ = more_fuel tt σ _ (exec_adds P b s σ)
fuelled P (suc a) zero l s σ = absurd (not-suc-le-zero l)
fuelled P (suc a) (suc b) l s σ = stat_follows kept (Unit {0}) (λ c. ⊥) kept_passed_by P (exec P a) (exec P b) (exec_adds P b) (fuelled P a b (le_of_suc-le-suc l)) s σ

under : {A : Type 0} {r q : Res A} → Fuelled r q → Under r q
under (as_done a σ) = same
under (as_stopped o σ) = same
under (as_out σ) = same
under (more_fuel w σ r a) = longer a.later a.is
under (more_samples c p w σ r a) = absurd w

-- statements with more fuel
pub exec_under : (P : Program) (a b : ℕ) → a ≤ b → (s : Stat) (σ : State) → Under (exec P a s σ) (exec P b s σ)
exec_under P a b l s σ = under (fuelled P a b l s σ)

pub concluded_trace : (r : Res Flow) (later l : List Tick) → trace_of r ≡ later ++ l → trace_of (concluded r) ≡ later ++ l
concluded_trace (done f σ) later l e = e
concluded_trace (stopped o σ) later l e = e
concluded_trace (out σ) later l e = e

concluded_under : (r q : Res Flow) → Under r q → Under (concluded r) (concluded q)
concluded_under r q same = same
concluded_under r q (longer {σ} later e) = longer later (concluded_trace q later σ.trace e)

pub more_fuel_law : MoreFuel
unfolding reading
more_fuel_law P m a b l = concluded_under _ _ (exec_under P a b l P.body (begin P m))

-- what has stopped is the same with more fuel
pub under_stopped : {A : Type 0} {o : Outcome} {σ : State} {r : Res A} → Under (stopped o σ) r → r ≡ stopped o σ
under_stopped same = refl

pub one_outcome : OneOutcome
one_outcome P m a b o p σ τ e f = elim (dec_le a b) [ yes l ↦ pair (sym (under_stopped (subst (λ r. Under r (reading P m b)) e (more_fuel_law P m a b l))) ∙ f) | no n ↦ pair (sym e ∙ under_stopped (subst (λ r. Under r (reading P m a)) f (more_fuel_law P m b a (omega arith)))) ]
  where
    pair : ◌≡◌ {A = Res Flow} (stopped o σ) (stopped p τ) → (o ≡ p) × (σ ≡ τ)
    pair q = (cc, cc)
