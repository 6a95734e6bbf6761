-- Runs of feeds and takes on one channel.
use Rattle.std.specs.Prelude.{◌≡◌, ℕ, List, [], ◌∷◌, ◌++◌, map, ℤ, Some, None, Ok, Err, Result}
use Rattle.ports.specs.Channels.{Meaning}
use Rattle.ports.specs.Calls.{feed_answer, feed_after, take_answer, take_after}
use Rattle.ports.specs.Refusals.{number_of}
use Rattle.ports.specs.declared.refusal.Refusal.{Refusal}
use Rattle.traffic.specs.declared.action.Action.{Action}
use Rattle.traffic.specs.declared.action.Action.TheVariants.{Feed, Take}
use Rattle.traffic.specs.declared.action.Outcome.{Outcome}
use Rattle.traffic.specs.declared.action.Outcome.TheVariants.{Fed, Taken}

-- what came of an action, or why the port refused it
abbrev pub Answered : Type 0
Answered = Result Outcome Refusal

-- it is what the port's meaning answers
abbrev pub Does : Meaning → ℕ → Action → Answered → Type 0
Does m c (Feed v) (Ok Fed) = feed_answer m c ≡ Ok tt
Does m c (Feed v) (Ok (Taken o)) = ⊥
Does m c (Feed v) (Err e) = feed_answer m c ≡ Err (number_of e)
Does m c Take (Ok Fed) = ⊥
Does m c Take (Ok (Taken o)) = take_answer m c ≡ Ok o
Does m c Take (Err e) = take_answer m c ≡ Err (number_of e)

-- the port's meaning after an action
abbrev pub done : Meaning → ℕ → Action → Meaning
done m c (Feed v) = feed_after m c v
done m c Take = take_after m c

-- the actions, one after the other, have these outcomes and lead from m to m'
abbrev pub Ran : Meaning → ℕ → List Action → List Answered → Meaning → Type 0
Ran m c [] [] m' = m ≡ m'
Ran m c [] (o ∷ outs) m' = ⊥
Ran m c (a ∷ acts) [] m' = ⊥
Ran m c (a ∷ acts) (o ∷ outs) m' = Does m c a o × Ran (done m c a) c acts outs m'

-- the samples that were taken
abbrev pub taken : List Answered → List ℤ
taken [] = []
taken (Ok Fed ∷ outs) = taken outs
taken (Ok (Taken None) ∷ outs) = taken outs
taken (Ok (Taken (Some z)) ∷ outs) = z ∷ taken outs
taken (Err e ∷ outs) = taken outs

-- the values whose feeds were accepted
abbrev pub accepted : List Action → List Answered → List ℤ
accepted [] outs = []
accepted (a ∷ acts) [] = []
accepted (Feed v ∷ acts) (Ok Fed ∷ outs) = v ∷ accepted acts outs
accepted (Feed v ∷ acts) (Ok (Taken o) ∷ outs) = accepted acts outs
accepted (Feed v ∷ acts) (Err e ∷ outs) = accepted acts outs
accepted (Take ∷ acts) (o ∷ outs) = accepted acts outs

-- what was taken, then what waits, is what waited at first, then the accepted feeds by the reading rule
abbrev pub Conserved : Meaning → ℕ → List Action → List Answered → Meaning → Type 0
Conserved m c acts outs m' = taken outs ++ (m' c).waiting ≡ (m c).waiting ++ map (m c).reading (accepted acts outs)
