-- More samples.
use Rattle.std.proofs.Common.{◌≡◌, ℕ, zero, suc}
use Rattle.ports.specs.Samples.{Sample, joined}
use Rattle.semantics.specs.Program.{Stat, Program}
use Rattle.semantics.specs.State.{State, Res, Flow, ended, begin}
use Rattle.semantics.specs.Meaning.{exec, concluded, reading}
use Rattle.semantics.specs.Laws.{joining, Supplied, same_done, same_stop, same_out, resumed, MoreSamples}
use Rattle.semantics.proofs.Growing.{exec_adds}
use Rattle.semantics.proofs.Following.{Follows, as_done, as_stopped, as_out, more_fuel, more_samples, stat_follows}
use Rattle.semantics.proofs.Fuel.{concluded_trace}
use Rattle.semantics.proofs.Joining.{joined_passed_by}

module _ (s : Sample) where
  -- a sample more, and the same fuel
  abbrev Sampled : {A : Type 0} → Res A → Res A → Type 0
  Sampled r q = Follows (joined s) ⊥ (λ c. c ≡ s.channel) r q

  sampled : (P : Program) (n : ℕ) (t : Stat) (σ : State) → Sampled (exec P n t σ) (exec P n t (joining s σ))
  unfolding exec
  sampled P zero t σ = as_out σ
  sampled P (suc n) t σ = stat_follows (joined s) ⊥ (λ c. c ≡ s.channel) (joined_passed_by s) P (exec P n) (exec P n) (exec_adds P n) (sampled P n) t σ

  supplied : {A : Type 0} {r q : Res A} → Sampled r q → Supplied s r q
  supplied (as_done a σ) = same_done a σ
  supplied (as_stopped o σ) = same_stop o σ
  supplied (as_out σ) = same_out σ
  supplied (more_fuel w σ r a) = absurd w
  supplied (more_samples c p w σ r a) = resumed c p σ r w a.later a.is

  -- statements with a sample more
  pub exec_supplied : (P : Program) (n : ℕ) (t : Stat) (σ : State) → Supplied s (exec P n t σ) (exec P n t (joining s σ))
  exec_supplied P n t σ = supplied (sampled P n t σ)

  concluded_supplied : {r q : Res Flow} → Supplied s r q → Supplied s (concluded r) (concluded q)
  concluded_supplied (same_done a σ) = same_stop ended σ
  concluded_supplied (same_stop o σ) = same_stop o σ
  concluded_supplied (same_out σ) = same_out σ
  concluded_supplied (resumed c p σ r w later e) = resumed c p σ (concluded r) w later (concluded_trace r later σ.trace e)

pub more_samples_law : MoreSamples
unfolding reading
more_samples_law P m n s = concluded_supplied s (exec_supplied s P n P.body (begin P m))
