-- The machine of the table with a trail of what it has done, and how its runs compose.
use Rattle.std.proofs.Common.{◌≡◌, ℕ, suc, ◌≤◌, cond, eqb, ltb, List, [], ◌∷◌, ◌++◌, length, get_or, pos, Some, suc-le-suc, le_trans, le_refl, arith}
use Rattle.ports.specs.Events.{Event}
use Rattle.instructions.specs.State.{State as Memory}
use Rattle.instructions.specs.Steps.{View, gone, did, halted, step}
use Rattle.instructions.specs.declared.answers.Outcome.{Outcome as Answer}
use Rattle.semantics.specs.Program.{Program}
use Rattle.semantics.specs.State.{State, Tick, round, activation, event, Outcome, Res, done, stopped, out, bind}
use Rattle.agreement.specs.Claims.{outcome, spare}

-- an executed instruction that goes to the same or a lower index, opens an activation or closes one; or that is an event
pub data Mark : Type 0 where
  turned : Mark
  passed : Event → Mark

-- a board, and what it has done, the newest first
pub record Traced : Type 0 where
  pub view : View
  pub trail : List Mark

abbrev pub marks : Memory → Memory → List Mark
marks c d = cond (ltb c.pc d.pc) (cond (eqb (length c.callers) (length d.callers)) [] (turned ∷ [])) (turned ∷ [])

-- global words from the W-th up stay as they are
abbrev pub Keeps : ℕ → Traced → Traced → Type 0
Keeps W m m₁ = (w : ℕ) → W ≤ w → get_or m₁.view.state.globals w (pos 0) ≡ get_or m.view.state.globals w (pos 0)

-- an instruction is executed, which stores no global word from the W-th up
pub data Goes (W : ℕ) (m m₁ : Traced) : Type 0 where
  executes : step m.view ≡ gone m₁.view → m₁.trail ≡ marks m.view.state m₁.view.state ++ m.trail → Keeps W m m₁ → Goes W m m₁
  passes : {e : Event} → step m.view ≡ did e m₁.view → m₁.trail ≡ passed e ∷ (marks m.view.state m₁.view.state ++ m.trail) → Keeps W m m₁ → Goes W m m₁

pub data Steps (W : ℕ) : Traced → Traced → Type 0 where
  here : {m : Traced} → Steps W m m
  go : {m m₁ m₂ : Traced} → Goes W m m₁ → Steps W m₁ m₂ → Steps W m m₂

abbrev pub len : {W : ℕ} {m m₁ : Traced} → Steps W m m₁ → ℕ
len here = 0
len (go e s) = suc (len s)

-- marks against ticks, with a credit of turns: a round pays for one, an activation for two
pub data Thin : ℕ → List Mark → List Tick → Type 0 where
  th_nil : Thin 0 [] []
  th_event : {k : ℕ} {m : List Mark} {r : List Tick} {e : Event} → Thin k m r → Thin k (passed e ∷ m) (event e ∷ r)
  th_round : {k : ℕ} {m : List Mark} {r : List Tick} → Thin k m r → Thin (suc k) m (round ∷ r)
  th_open : {k : ℕ} {m : List Mark} {r : List Tick} → Thin k m r → Thin (suc (suc k)) m (activation ∷ r)
  th_turn : {k : ℕ} {m : List Mark} {r : List Tick} → Thin (suc k) m r → Thin k (turned ∷ m) r
  th_lose : {k : ℕ} {m : List Mark} {r : List Tick} → Thin (suc k) m r → Thin k m r

-- a board that executes nothing more, where the meaning has the outcome o
pub record Final (P : Program) (o : Outcome) (σ : State) (m : Traced) : Type 0 where
  pub credit : ℕ
  pub thin : Thin credit m.trail σ.trace
  pub globals : m.view.state.globals ≡ σ.globals ++ spare P
  pub answer : Answer
  pub halts : step m.view ≡ halted answer m.view
  pub shows : outcome answer ≡ Some o

-- what the machine does from m on, where the meaning comes to a result: X is what is free where it lands
pub data After {A X : Type 0} (P : Program) (n : ℕ) (G : A → State → X → Type 0) (L : A → State → X → Traced) (m : Traced) : Res A → Type 0 where
  lands : {a : A} {σ : State} {x : X} → G a σ x → Steps (length P.words) m (L a σ x) → After P n G L m (done a σ)
  stops : {o : Outcome} {σ : State} {m₁ : Traced} → Final P o σ m₁ → Steps (length P.words) m m₁ → After P n G L m (stopped o σ)
  goes_on : {σ : State} {j : ℕ} {m₁ : Traced} → Thin j m₁.trail σ.trace → (s : Steps (length P.words) m m₁) → n ≤ len s → After P n G L m (out σ)

pub join : {W : ℕ} {m m₁ m₂ : Traced} → Steps W m m₁ → Steps W m₁ m₂ → Steps W m m₂
join here t = t
join (go e s) t = go e (join s t)

pub len_join : {W : ℕ} {m m₁ m₂ : Traced} (s : Steps W m m₁) (t : Steps W m₁ m₂) → len t ≤ len (join s t)
unfolding join
len_join here t = le_refl _
len_join (go e s) t = let h = len_join s t in omega arith

module _ {A X : Type 0} {P : Program} {n : ℕ} {G : A → State → X → Type 0} {L : A → State → X → Traced} where
  pub prepend : {m m₁ : Traced} {r : Res A} → Steps (length P.words) m m₁ → After P n G L m₁ r → After P n G L m r
  prepend s (lands {x} g t) = lands {x = x} g (join s t)
  prepend s (stops f t) = stops f (join s t)
  prepend s (goes_on th t l) = goes_on th (join s t) (le_trans l (len_join s t))

  -- an instruction more
  pub step_in : {m m₁ : Traced} {r : Res A} → Goes (length P.words) m m₁ → After P n G L m₁ r → After P n G L m r
  step_in e a = prepend (go e here) a

  -- an instruction that is paid for by a unit of fuel
  pub pay : {m m₁ : Traced} {r : Res A} → Goes (length P.words) m m₁ → After P n G L m₁ r → After P (suc n) G L m r
  pay e (lands {x} g t) = lands {x = x} g (go e t)
  pay e (stops f t) = stops f (go e t)
  pay e (goes_on th t l) = goes_on th (go e t) (suc-le-suc l)

-- another way to say where it lands, with some instructions more
pub onto : {A X Y : Type 0} {P : Program} {n : ℕ} {G : A → State → X → Type 0} {G₁ : A → State → Y → Type 0} {L : A → State → X → Traced} {L₁ : A → State → Y → Traced} {m : Traced} {r : Res A}
    → After P n G L m r → ((a : A) (σ : State) (x : X) → G a σ x → (y : Y) × (G₁ a σ y × Steps (length P.words) (L a σ x) (L₁ a σ y))) → After P n G₁ L₁ m r
onto (lands {a} {σ} {x} g s) f = let y = f a σ x g in lands {x = y.0} y.1.0 (join s y.1.1)
onto (stops g s) f = stops g s
onto (goes_on th s l) f = goes_on th s l

-- one part, and then another
pub bind_l : {A B X Y : Type 0} {P : Program} {n : ℕ} {G : A → State → X → Type 0} {G₁ : B → State → Y → Type 0} {L : A → State → X → Traced} {L₁ : B → State → Y → Traced} {m : Traced} {r : Res A} {κ : A → State → Res B}
    → After P n G L m r → ((a : A) (σ : State) (x : X) → G a σ x → After P n G₁ L₁ (L a σ x) (κ a σ)) → After P n G₁ L₁ m (bind r κ)
unfolding bind
bind_l (lands {a} {σ} {x} g s) f = prepend s (f a σ x g)
bind_l (stops g s) f = stops g s
bind_l (goes_on th s l) f = goes_on th s l
