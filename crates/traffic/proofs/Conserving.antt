-- A run loses no sample and invents none.
use Rattle.std.proofs.Common.{◌≡◌, ℕ, ◌+◌, ◌<◌, Bool, true, false, cond, eqb, ltb, List, [], ◌∷◌, ◌++◌, map, length, get_or, take, drop, set, ℤ, Some, None, Ok, Err, Option, Result, sym, refl, ap, ◌∙◌, subst, append_assoc, arith}
use Rattle.std.proofs.lemmas.Bool.{cond-true, eq-eqb}
use Rattle.std.proofs.lemmas.List.{append-nil, take_more, take_more_set, drop-set-lt, drop-drop}
use Rattle.ports.specs.Channels.{Channel, Meaning, channels, holding}
use Rattle.ports.specs.Calls.{room, oldest, newer, feed_answer, feed_after, take_answer, take_after}
use Rattle.ports.specs.Refusals.{number_of}
use Rattle.traffic.specs.declared.action.Action.{Action}
use Rattle.traffic.specs.declared.action.Action.TheVariants.{Feed, Take}
use Rattle.traffic.specs.declared.action.Outcome.TheVariants.{Fed, Taken}
use Rattle.traffic.specs.Runs.{Answered, Does, done, Ran, accepted, Conserved}

never : ◌≡◌ {A = ℕ} 0 1 → ⊥
never e = omega arith

no_err : {X : Type 0} {x : X} (n : ℕ) → ◌≡◌ {A = Result X ℕ} (Err n) (Ok x) → ⊥
no_err n e = let z : ◌≡◌ {A = ℕ} 0 1 = cc in never z

-- one more action at the end of a run
pub ran_more : (acts : List Action) (outs : List Answered) (m m' : Meaning) (c : ℕ) (a : Action) (o : Answered) → Ran m c acts outs m' → Does m' c a o → Ran m c (acts ++ a ∷ []) (outs ++ o ∷ []) (done m' c a)
ran_more [] [] m m' c a o e d = (subst (λ (n : Meaning). Does n c a o) (sym e) d, ap (λ n. done n c a) e)
ran_more [] (o' ∷ outs) m m' c a o r d = elim r [ ]
ran_more (a' ∷ acts) [] m m' c a o r d = elim r [ ]
ran_more (a' ∷ acts) (o' ∷ outs) m m' c a o r d = (r.0, ran_more acts outs (done m c a') m' c a o r.1 d)

here : (m : Meaning) (c : ℕ) (x : Channel) → cond (eqb c c) x (m c) ≡ x
here m c x = cond-true (eqb c c) x (m c) (eq-eqb c c refl)

-- an accepted feed leaves its reading behind what waited
feed_fed : (m : Meaning) (c : ℕ) (v : ℤ) → feed_answer m c ≡ Ok tt → feed_after m c v c ≡ holding (m c) ((m c).waiting ++ (m c).reading v ∷ [])
feed_fed m c v = go (ltb c channels) (room (m c))
  where
    go : (b r : Bool) → ◌≡◌ {A = Result Unit ℕ} (cond b (cond r (Ok tt) (Err 52)) (Err 51)) (Ok tt) → cond b (λ k. cond (eqb k c) (cond r (holding (m c) ((m c).waiting ++ (m c).reading v ∷ [])) (m c)) (m k)) m c ≡ holding (m c) ((m c).waiting ++ (m c).reading v ∷ [])
    go true true e = here m c _
    go true false e = elim (no_err 52 e) [ ]
    go false r e = elim (no_err 51 e) [ ]

-- a refused one leaves the channel
feed_refused : (m : Meaning) (c : ℕ) (v : ℤ) (n : ℕ) → feed_answer m c ≡ Err n → feed_after m c v c ≡ m c
feed_refused m c v n = go (ltb c channels) (room (m c))
  where
    go : (b r : Bool) → ◌≡◌ {A = Result Unit ℕ} (cond b (cond r (Ok tt) (Err 52)) (Err 51)) (Err n) → cond b (λ k. cond (eqb k c) (cond r (holding (m c) ((m c).waiting ++ (m c).reading v ∷ [])) (m c)) (m k)) m c ≡ m c
    go true true e = elim (no_err n (sym e)) [ ]
    go true false e = here m c (m c)
    go false r e = refl

-- a sample that is taken was the first of those that waited
take_taken : (m : Meaning) (c : ℕ) (z : ℤ) → take_answer m c ≡ Ok (Some z) → ((m c).waiting ≡ z ∷ newer (m c).waiting) × (take_after m c c ≡ holding (m c) (newer (m c).waiting))
take_taken m c z = go (ltb c channels) (m c).waiting
  where
    go : (b : Bool) (zs : List ℤ) → ◌≡◌ {A = Result (Option ℤ) ℕ} (cond b (Ok (oldest zs)) (Err 51)) (Ok (Some z)) → (zs ≡ z ∷ newer zs) × (cond b (λ k. cond (eqb k c) (holding (m c) (newer zs)) (m k)) m c ≡ holding (m c) (newer zs))
    go true [] e = let n : ◌≡◌ {A = ℕ} 0 1 = cc in elim (never n) [ ]
    go true (y ∷ zs) e = (let h : y ≡ z = cc in ap (λ x. x ∷ zs) h, here m c _)
    go false zs e = elim (no_err 51 e) [ ]

-- where nothing is taken the channel is left
take_left : (m : Meaning) (c : ℕ) (r : Result (Option ℤ) ℕ) → ((z : ℤ) → r ≡ Ok (Some z) → ⊥) → take_answer m c ≡ r → take_after m c c ≡ m c
take_left m c r none = go (ltb c channels) (m c).waiting refl
  where
    go : (b : Bool) (zs : List ℤ) → zs ≡ (m c).waiting → cond b (Ok (oldest zs)) (Err 51) ≡ r → cond b (λ k. cond (eqb k c) (holding (m c) (newer zs)) (m k)) m c ≡ m c
    go true [] w e = here m c _ ∙ ap (holding (m c)) w
    go true (y ∷ zs) w e = elim (none y (sym e)) [ ]
    go false zs w e = refl

-- a run conserves samples
pub run_conserves : (acts : List Action) (outs : List Answered) (m m' : Meaning) (c : ℕ) → Ran m c acts outs m' → Conserved m c acts outs m'
run_conserves [] [] m m' c e = ap (λ n. (n c).waiting) (sym e) ∙ sym (append-nil (m c).waiting)
run_conserves [] (o ∷ outs) m m' c r = elim r [ ]
run_conserves (a ∷ acts) [] m m' c r = elim r [ ]
run_conserves (Feed v ∷ acts) (Ok Fed ∷ outs) m m' c r =
    run_conserves acts outs (feed_after m c v) m' c r.1
    ∙ ap (λ ch. ch.waiting ++ map ch.reading (accepted acts outs)) (feed_fed m c v r.0)
    ∙ append_assoc (m c).waiting ((m c).reading v ∷ []) (map (m c).reading (accepted acts outs))
run_conserves (Feed v ∷ acts) (Ok (Taken o) ∷ outs) m m' c r = elim r.0 [ ]
run_conserves (Feed v ∷ acts) (Err e ∷ outs) m m' c r =
    run_conserves acts outs (feed_after m c v) m' c r.1
    ∙ ap (λ ch. ch.waiting ++ map ch.reading (accepted acts outs)) (feed_refused m c v (number_of e) r.0)
run_conserves (Take ∷ acts) (Ok Fed ∷ outs) m m' c r = elim r.0 [ ]
run_conserves (Take ∷ acts) (Ok (Taken (Some z)) ∷ outs) m m' c r =
    ap (λ zs. z ∷ zs)
    (run_conserves acts outs (take_after m c) m' c r.1
    ∙ ap (λ ch. ch.waiting ++ map ch.reading (accepted acts outs)) (take_taken m c z r.0).1)
    ∙ ap (λ zs. zs ++ map (m c).reading (accepted acts outs)) (sym (take_taken m c z r.0).0)
run_conserves (Take ∷ acts) (Ok (Taken None) ∷ outs) m m' c r =
    run_conserves acts outs (take_after m c) m' c r.1
    ∙ ap (λ ch. ch.waiting ++ map ch.reading (accepted acts outs)) (take_left m c (Ok None) (λ z e. let n : ◌≡◌ {A = ℕ} 0 1 = cc in never n) r.0)
run_conserves (Take ∷ acts) (Err e ∷ outs) m m' c r =
    run_conserves acts outs (take_after m c) m' c r.1
    ∙ ap (λ ch. ch.waiting ++ map ch.reading (accepted acts outs)) (take_left m c (Err (number_of e)) (λ z h. no_err (number_of e) h) r.0)

-- the next action of a list, with its outcome written beside it
pub ran_next : (acts : List Action) (outs : List Answered) (m m₁ m₂ : Meaning) (c i : ℕ) (d : Action) (o : Answered) → i < length acts → i < length outs → Ran m c (take i acts) (take i outs) m₁ → Does m₁ c (get_or acts i d) o → m₂ ≡ done m₁ c (get_or acts i d) → Ran m c (take (i + 1) acts) (take (i + 1) (set outs i o)) m₂
ran_next acts outs m m₁ m₂ c i d o p q r does after =
    let P : List Action → Type 0 = λ xs. Ran m c xs (take (i + 1) (set outs i o)) m₂ in
    let Q : List Answered → Type 0 = λ xs. Ran m c (take i acts ++ get_or acts i d ∷ []) xs m₂ in
    let R : Meaning → Type 0 = λ n. Ran m c (take i acts ++ get_or acts i d ∷ []) (take i outs ++ o ∷ []) n in
    subst P (sym (take_more acts i d p)) (subst Q (sym (take_more_set outs i o q)) (subst R (sym after) (ran_more (take i acts) (take i outs) m m₁ c (get_or acts i d) o r does)))

-- what lies past the next outcome
pub past_next : (outs first : List Answered) (i : ℕ) (o : Answered) → drop i outs ≡ drop i first → drop (i + 1) (set outs i o) ≡ drop (i + 1) first
past_next outs first i o e = drop-set-lt (i + 1) outs i o (omega arith) ∙ sym (drop-drop 1 i outs) ∙ ap (drop 1) e ∙ drop-drop 1 i first
