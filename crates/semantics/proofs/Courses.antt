-- Events of readings that go on from one another.
use Rattle.std.proofs.Common.{◌≡◌, List, [], ◌∷◌, ◌++◌, sym, ap, ◌∙◌, inl, inr, append_assoc, append-nil, arith}
use native.Mathlib.Decide.{dec_le}
use Rattle.ports.specs.Events.{Event}
use Rattle.ports.specs.Samples.{Sample, joined, joined_all}
use Rattle.semantics.specs.State.{Tick, round, activation, event, Res, trace_of, events}
use Rattle.semantics.specs.Laws.{Under, same, longer, Opens, shown, OneCourse, Supplied, same_done, same_stop, same_out, resumed, EventsStay}
use Rattle.semantics.proofs.Fuel.{more_fuel_law}
use Rattle.semantics.proofs.Samples.{more_samples_law}

-- the events of what happened later come behind
pub events_later : (later l : List Tick) → events (later ++ l) ≡ events l ++ events later
events_later [] l = sym (append-nil (events l))
events_later (round ∷ r) l = events_later r l
events_later (activation ∷ r) l = events_later r l
events_later (event e ∷ r) l = ap (λ es. es ++ (e ∷ [])) (events_later r l) ∙ append_assoc (events l) (events r) (e ∷ [])

opens_by : (later l l₁ : List Tick) → l₁ ≡ later ++ l → Opens (events l) (events l₁)
opens_by later l l₁ e = (events later, ap events e ∙ events_later later l)

opens_itself : (es : List Event) → Opens es es
opens_itself es = ([], sym (append-nil es))

opens_trans : (es fs gs : List Event) → Opens es fs → Opens fs gs → Opens es gs
opens_trans es fs gs p q = (p.0 ++ q.0, q.1 ∙ ap (λ x. x ++ q.0) p.1 ∙ append_assoc es p.0 q.0)

under_opens : {A : Type 0} (r q : Res A) → Under r q → Opens (events (trace_of r)) (events (trace_of q))
under_opens r q same = opens_itself _
under_opens r q (longer {σ} later e) = opens_by later σ.trace (trace_of q) e

supplied_opens : {A : Type 0} {s : Sample} {r q : Res A} → Supplied s r q → Opens (events (trace_of r)) (events (trace_of q))
supplied_opens (same_done a σ) = opens_itself _
supplied_opens (same_stop o σ) = opens_itself _
supplied_opens (same_out σ) = opens_itself _
supplied_opens (resumed c p σ r w later e) = opens_by later σ.trace (trace_of r) e

pub one_course : OneCourse
one_course P m a b = elim (dec_le a b) [ yes l ↦ inl (under_opens _ _ (more_fuel_law P m a b l)) | no n ↦ inr (under_opens _ _ (more_fuel_law P m b a (omega arith))) ]

pub events_stay : EventsStay
events_stay P m a b [] l = under_opens _ _ (more_fuel_law P m a b l)
events_stay P m a b (s ∷ ss) l = opens_trans (shown P m a) (shown P (joined s m) a) (shown P (joined_all ss (joined s m)) b) (supplied_opens (more_samples_law P m a s)) (events_stay P (joined s m) a b ss l)
