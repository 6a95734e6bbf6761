-- Instructions at work, by what the table says of each.
use Rattle.std.proofs.Common.{◌≡◌, ℕ, suc, ◌+◌, ◌<◌, ◌≤◌, Bool, true, false, cond, eqb, ltb, List, [], ◌∷◌, ◌++◌, length, get_or, set, ℤ, pos, negsuc, ◌-ℤ◌, Some, None, refl, ap, ◌∙◌, le_refl, add-one, arith}
use Rattle.std.proofs.lemmas.List.{get_or-set_other}
use Rattle.std.proofs.lemmas.Bool.{lt-ltb, le-leb, eq-eqb, le-ltb}
use Rattle.ports.specs.Channels.{Meaning}
use Rattle.instructions.specs.State.{State as Memory, Caller, became}
use Rattle.instructions.specs.Numbers.{asks}
use Rattle.instructions.specs.Moves.{ok, fail, pull, push, operand, variable, store_variable, global, store_global, make_variables}
use Rattle.instructions.specs.Table.{obeyed, indexed}
use Rattle.instructions.specs.Values.{signed, natural}
use Rattle.instructions.specs.Steps.{View, gone, step, met, none, effect, effect_by, settled}
use Rattle.instructions.specs.declared.answers.Fault.TheVariants.{Trap as Trapping}
use Rattle.instructions.specs.declared.answers.Status.TheVariants.{Running, Trapped}
use Rattle.instructions.specs.declared.answers.Trap.{Trap}
use Rattle.instructions.specs.declared.answers.Trap.TheVariants.{Index as IndexTrap, Channel as ChannelTrap, Element as ElementTrap, NoResult as NoResultTrap}
use Rattle.instructions.specs.declared.instruction.Instruction.{Instruction}
use Rattle.instructions.specs.declared.operation.Operation.TheVariants as op
use Rattle.semantics.specs.State.{zeros}
use Rattle.semantics.specs.Values.{fails, is_element, is_channel, counted}
use Rattle.agreement.specs.Generator.{at_place}
use Rattle.agreement.proofs.Traced.{Traced, Mark, turned, Goes, executes}

-- the instruction at p
pub record At (c : List Instruction) (p : ℕ) (i : Instruction) : Type 0 where
  pub inside : p < length c
  pub is : get_or c p none ≡ i

-- a memory that is running
abbrev pub memory : List ℤ → List ℤ → List ℤ → List Caller → ℕ → Memory
memory gs vs ops cs p = record { globals = gs; words = record { variables = vs; operands = ops }; callers = cs; pc = p; status = Running }

abbrev pub seen : List Instruction → Memory → Meaning → View
seen c s m = record { code = c; state = s; port = m }

abbrev pub traced : List Instruction → Memory → Meaning → List Mark → Traced
traced c s m t = record { view = seen c s m; trail = t }

-- what the table says of an instruction that leaves the port alone: it is carried out
pub record Obeys (i : Instruction) (s s₁ : Memory) : Type 0 where
  pub alone : asks i.operation ≡ None
  pub does : obeyed i.operation i.operand s ≡ ok tt s₁

-- or it traps
pub record Fails (i : Instruction) (x : Trap) (s s₁ : Memory) : Type 0 where
  pub alone : asks i.operation ≡ None
  pub does : obeyed i.operation i.operand s ≡ fail (Trapping x) s₁

pub fetches : (c : List Instruction) (i : Instruction) (gs vs ops : List ℤ) (cs : List Caller) (p : ℕ) (m : Meaning) → At c p i
    → step (seen c (memory gs vs ops cs p) m) ≡ met (effect i (memory gs vs ops cs p)) (seen c (memory gs vs ops cs p) m)
unfolding step
fetches c i gs vs ops cs p m h = rw (lt-ltb p (length c) h.inside, h.is)

obeying : (c : List Instruction) (i : Instruction) (gs vs ops : List ℤ) (cs : List Caller) (p : ℕ) (m : Meaning) (s : Memory) → At c p i → Obeys i (memory gs vs ops cs (suc p)) s
    → step (seen c (memory gs vs ops cs p) m) ≡ gone (seen c s m)
obeying c i gs vs ops cs p m s h o = fetches c i gs vs ops cs p m h ∙ ap (λ a. met (effect_by a i (memory gs vs ops cs p)) (seen c (memory gs vs ops cs p) m)) o.alone ∙ ap (λ q. met (settled (obeyed i.operation i.operand (memory gs vs ops cs q)).result i.place (obeyed i.operation i.operand (memory gs vs ops cs q)).state) (seen c (memory gs vs ops cs p) m)) (add-one p) ∙ ap (λ d. met (settled d.result i.place d.state) (seen c (memory gs vs ops cs p) m)) o.does

failing_step : (c : List Instruction) (i : Instruction) (gs vs ops : List ℤ) (cs : List Caller) (p : ℕ) (m : Meaning) (x : Trap) (s : Memory) → At c p i → Fails i x (memory gs vs ops cs (suc p)) s
    → step (seen c (memory gs vs ops cs p) m) ≡ gone (seen c (became (Trapped x i.place) s) m)
failing_step c i gs vs ops cs p m x s h o = fetches c i gs vs ops cs p m h ∙ ap (λ a. met (effect_by a i (memory gs vs ops cs p)) (seen c (memory gs vs ops cs p) m)) o.alone ∙ ap (λ q. met (settled (obeyed i.operation i.operand (memory gs vs ops cs q)).result i.place (obeyed i.operation i.operand (memory gs vs ops cs q)).state) (seen c (memory gs vs ops cs p) m)) (add-one p) ∙ ap (λ d. met (settled d.result i.place d.state) (seen c (memory gs vs ops cs p) m)) o.does

pub same_depth : (n : ℕ) → eqb n n ≡ true
same_depth n = eq-eqb n n refl

module _ {c : List Instruction} {i : Instruction} {cs : List Caller} {p q : ℕ} {m : Meaning} {t : List Mark} {gs vs ops vs₁ ops₁ : List ℤ} {W : ℕ} where
  -- to a higher index
  pub ahead : At c p i → Obeys i (memory gs vs ops cs (suc p)) (memory gs vs₁ ops₁ cs q) → p < q → Goes W (traced c (memory gs vs ops cs p) m t) (traced c (memory gs vs₁ ops₁ cs q) m t)
  ahead h o l = executes (obeying c i gs vs ops cs p m (memory gs vs₁ ops₁ cs q) h o) (rw (lt-ltb p q l, same_depth (length cs))) (λ w h. refl)

  -- to the same or a lower index
  pub back : At c p i → Obeys i (memory gs vs ops cs (suc p)) (memory gs vs₁ ops₁ cs q) → q ≤ p → Goes W (traced c (memory gs vs ops cs p) m t) (traced c (memory gs vs₁ ops₁ cs q) m (turned ∷ t))
  back h o l = executes (obeying c i gs vs ops cs p m (memory gs vs₁ ops₁ cs q) h o) (rw (le-ltb p q l)) (λ w h. refl)

-- to the next index
pub next : {c : List Instruction} {i : Instruction} {cs : List Caller} {p : ℕ} {m : Meaning} {t : List Mark} {gs vs ops vs₁ ops₁ : List ℤ} {W : ℕ}
    → At c p i → Obeys i (memory gs vs ops cs (suc p)) (memory gs vs₁ ops₁ cs (suc p)) → Goes W (traced c (memory gs vs ops cs p) m t) (traced c (memory gs vs₁ ops₁ cs (suc p)) m t)
next {p} h o = ahead h o (le_refl (suc p))

-- to the next index, with a global word stored
pub next_storing : {c : List Instruction} {i : Instruction} {cs : List Caller} {p : ℕ} {m : Meaning} {t : List Mark} {vs ops ops₁ : List ℤ} {W : ℕ} (gs : List ℤ) (w : ℕ) (x : ℤ) → w < W
    → At c p i → Obeys i (memory gs vs ops cs (suc p)) (memory (set gs w x) vs ops₁ cs (suc p)) → Goes W (traced c (memory gs vs ops cs p) m t) (traced c (memory (set gs w x) vs ops₁ cs (suc p)) m t)
next_storing {c} {i} {cs} {p} {m} {t} {vs} {ops} {ops₁} {W} gs w x l h o =
    executes (obeying c i gs vs ops cs p m (memory (set gs w x) vs ops₁ cs (suc p)) h o) (rw (lt-ltb p (suc p) (le_refl (suc p)), same_depth (length cs)))
    (λ j k. get_or-set_other gs w j x (pos 0) (λ e. let e₁ : j ≡ w = e in omega arith))

-- a word more has room
module _ {gs vs ops : List ℤ} {cs : List Caller} {p : ℕ} (room : length vs + length ops < 256) where
  pub pushes : (x : ℤ) → push x (memory gs vs ops cs p) ≡ ok tt (memory gs vs (x ∷ ops) cs p)
  unfolding push
  pushes x = rw (lt-ltb (length vs + length ops) 256 room)

  pub obeys_integer : {n pl : ℕ} → Obeys (at_place pl op.Integer n) (memory gs vs ops cs p) (memory gs vs (signed n ∷ ops) cs p)
  obeys_integer {n} = record { alone = refl; does = pushes (signed n) }

  pub obeys_set : {n pl : ℕ} → Obeys (at_place pl op.Set n) (memory gs vs ops cs p) (memory gs vs (pos n ∷ ops) cs p)
  obeys_set {n} = record { alone = refl; does = pushes (pos n) }

  pub obeys_global : {w pl : ℕ} → w < 1024 → Obeys (at_place pl op.Global w) (memory gs vs ops cs p) (memory gs vs (get_or gs w (pos 0) ∷ ops) cs p)
  unfolding global
  obeys_global {w} l = record { alone = refl; does = rw (lt-ltb w 1024 l) (pushes (get_or gs w (pos 0))) }

  pub obeys_local : {w pl : ℕ} → w < length vs → Obeys (at_place pl op.Local w) (memory gs vs ops cs p) (memory gs vs (get_or vs w (pos 0) ∷ ops) cs p)
  unfolding variable
  obeys_local {w} l = record { alone = refl; does = rw (lt-ltb w (length vs) l) (pushes (get_or vs w (pos 0))) }

-- a trap
pub traps : {c : List Instruction} {i : Instruction} {cs : List Caller} {p : ℕ} {m : Meaning} {t : List Mark} {gs vs ops vs₁ ops₁ : List ℤ} {x : Trap} {W : ℕ}
    → At c p i → Fails i x (memory gs vs ops cs (suc p)) (memory gs vs₁ ops₁ cs (suc p))
    → Goes W (traced c (memory gs vs ops cs p) m t) (traced c (became (Trapped x i.place) (memory gs vs₁ ops₁ cs (suc p))) m t)
traps {c} {i} {cs} {p} {m} {t} {gs} {vs} {ops} {vs₁} {ops₁} {x} h o =
    executes (failing_step c i gs vs ops cs p m x (memory gs vs₁ ops₁ cs (suc p)) h o) (rw (lt-ltb p (suc p) (le_refl (suc p)), same_depth (length cs))) (λ w h. refl)

module _ {gs vs ops : List ℤ} {cs : List Caller} {p : ℕ} where
  pub obeys_store_global : {w pl : ℕ} {x : ℤ} → w < 1024 → Obeys (at_place pl op.StoreGlobal w) (memory gs vs (x ∷ ops) cs p) (memory (set gs w x) vs ops cs p)
  unfolding pull store_global
  obeys_store_global {w} l = record { alone = refl; does = rw (lt-ltb w 1024 l) }

  pub obeys_store_local : {w pl : ℕ} {x : ℤ} → w < length vs → Obeys (at_place pl op.StoreLocal w) (memory gs vs (x ∷ ops) cs p) (memory gs (set vs w x) ops cs p)
  unfolding pull store_variable
  obeys_store_local {w} l = record { alone = refl; does = rw (lt-ltb w (length vs) l) }

  pub obeys_store_global_element : {w pl k : ℕ} {x : ℤ} → w + k < 1024 → Obeys (at_place pl op.StoreGlobalElement w) (memory gs vs (x ∷ pos k ∷ ops) cs p) (memory (set gs (w + k) x) vs ops cs p)
  unfolding pull store_global
  obeys_store_global_element {w} {k} l = record { alone = refl; does = rw (lt-ltb (w + k) 1024 l) }

  pub obeys_store_local_element : {w pl k : ℕ} {x : ℤ} → w + k < length vs → Obeys (at_place pl op.StoreLocalElement w) (memory gs vs (x ∷ pos k ∷ ops) cs p) (memory gs (set vs (w + k) x) ops cs p)
  unfolding pull store_variable
  obeys_store_local_element {w} {k} l = record { alone = refl; does = rw (lt-ltb (w + k) (length vs) l) }

  pub obeys_jump : {n pl : ℕ} → Obeys (at_place pl op.Jump n) (memory gs vs ops cs p) (memory gs vs ops cs n)
  obeys_jump = record { alone = refl; does = refl }

  pub obeys_jump_if : {n pl : ℕ} {x : ℤ} → fails x ≡ false → Obeys (at_place pl op.JumpIf n) (memory gs vs (x ∷ ops) cs p) (memory gs vs ops cs n)
  unfolding pull
  obeys_jump_if e = record { alone = refl; does = rw e }

  pub obeys_stay_if : {n pl : ℕ} {x : ℤ} → fails x ≡ true → Obeys (at_place pl op.JumpIf n) (memory gs vs (x ∷ ops) cs p) (memory gs vs ops cs p)
  unfolding pull
  obeys_stay_if e = record { alone = refl; does = rw e }

  pub obeys_jump_unless : {n pl : ℕ} {x : ℤ} → fails x ≡ true → Obeys (at_place pl op.JumpUnless n) (memory gs vs (x ∷ ops) cs p) (memory gs vs ops cs n)
  unfolding pull
  obeys_jump_unless e = record { alone = refl; does = rw e }

  pub obeys_stay_unless : {n pl : ℕ} {x : ℤ} → fails x ≡ false → Obeys (at_place pl op.JumpUnless n) (memory gs vs (x ∷ ops) cs p) (memory gs vs ops cs p)
  unfolding pull
  obeys_stay_unless e = record { alone = refl; does = rw e }

  pub obeys_element : {pl n : ℕ} {x : ℤ} → is_element x ≡ true → Obeys (at_place pl op.Element n) (memory gs vs (x ∷ ops) cs p) (memory gs vs (x ∷ ops) cs p)
  unfolding operand
  obeys_element e = record { alone = refl; does = rw (lt-ltb 0 (suc (length ops)) (omega arith), e) }

  pub fails_element : {pl n : ℕ} {x : ℤ} → is_element x ≡ false → Fails (at_place pl op.Element n) ElementTrap (memory gs vs (x ∷ ops) cs p) (memory gs vs (x ∷ ops) cs p)
  unfolding operand
  fails_element e = record { alone = refl; does = rw (lt-ltb 0 (suc (length ops)) (omega arith), e) }

  pub obeys_channel : {pl n : ℕ} {x : ℤ} → is_channel x ≡ true → Obeys (at_place pl op.Channel n) (memory gs vs (x ∷ ops) cs p) (memory gs vs (x ∷ ops) cs p)
  unfolding operand
  obeys_channel e = record { alone = refl; does = rw (lt-ltb 0 (suc (length ops)) (omega arith), e) }

  pub fails_channel : {pl n : ℕ} {x : ℤ} → is_channel x ≡ false → Fails (at_place pl op.Channel n) ChannelTrap (memory gs vs (x ∷ ops) cs p) (memory gs vs (x ∷ ops) cs p)
  unfolding operand
  fails_channel e = record { alone = refl; does = rw (lt-ltb 0 (suc (length ops)) (omega arith), e) }

  pub fails_no_result : {pl n : ℕ} → Fails (at_place pl op.NoResult n) NoResultTrap (memory gs vs ops cs p) (memory gs vs ops cs p)
  fails_no_result = record { alone = refl; does = refl }

pub obeys_enter : {gs vs : List ℤ} {cs : List Caller} {p n pl : ℕ} → length vs + 0 + n ≤ 256 → Obeys (at_place pl op.Enter n) (memory gs vs [] cs p) (memory gs (vs ++ zeros n) [] cs p)
unfolding make_variables
obeys_enter {vs} {n} l = record { alone = refl; does = rw (le-leb (length vs + 0 + n) 256 l) }

-- with room for a word more
module _ {gs vs ops : List ℤ} {cs : List Caller} {p : ℕ} (room : length vs + length ops < 256) where
  pub obeys_global_element : {w pl k : ℕ} → w + k < 1024 → Obeys (at_place pl op.GlobalElement w) (memory gs vs (pos k ∷ ops) cs p) (memory gs vs (get_or gs (w + k) (pos 0) ∷ ops) cs p)
  unfolding pull global
  obeys_global_element {w} {pl} {k} l = record { alone = refl; does = rw (lt-ltb (w + k) 1024 l) (pushes room (get_or gs (w + k) (pos 0))) }

  pub obeys_local_element : {w pl k : ℕ} → w + k < length vs → Obeys (at_place pl op.LocalElement w) (memory gs vs (pos k ∷ ops) cs p) (memory gs vs (get_or vs (w + k) (pos 0) ∷ ops) cs p)
  unfolding pull variable
  obeys_local_element {w} {pl} {k} l = record { alone = refl; does = rw (lt-ltb (w + k) (length vs) l) (pushes room (get_or vs (w + k) (pos 0))) }

  pub obeys_index : {n pl k : ℕ} (i low : ℤ) → counted (i -ℤ low) n ≡ Some k → Obeys (at_place pl op.Index n) (memory gs vs (low ∷ i ∷ ops) cs p) (memory gs vs (pos k ∷ ops) cs p)
  unfolding pull
  obeys_index {n} {pl} {k} i low e = record { alone = refl; does = by_sign (i -ℤ low) e }
    where
      by_test : (j : ℕ) (b : Bool) → cond b (Some j) None ≡ Some k → cond b (push (pos j) (memory gs vs ops cs p)) (fail (Trapping IndexTrap) (memory gs vs ops cs p)) ≡ ok tt (memory gs vs (pos k ∷ ops) cs p)
      by_test j true q = let e₁ : j ≡ k = cc in rw (← e₁) (pushes room (pos j))
      by_test j false q = absurd (let z : ◌≡◌ {A = ℕ} 0 1 = cc in omega arith)

      by_sign : (z : ℤ) → counted z n ≡ Some k → indexed (natural z) (memory gs vs ops cs p) (λ j c. cond (ltb j n) (push (pos j) c) (fail (Trapping IndexTrap) c)) ≡ ok tt (memory gs vs (pos k ∷ ops) cs p)
      by_sign (pos j) q = by_test j (ltb j n) q
      by_sign (negsuc j) q = absurd (let z : ◌≡◌ {A = ℕ} 0 1 = cc in omega arith)

module _ {gs vs ops : List ℤ} {cs : List Caller} {p : ℕ} where
  pub fails_index : {n pl : ℕ} (i low : ℤ) → counted (i -ℤ low) n ≡ None → Fails (at_place pl op.Index n) IndexTrap (memory gs vs (low ∷ i ∷ ops) cs p) (memory gs vs ops cs p)
  unfolding pull
  fails_index {n} {pl} i low e = record { alone = refl; does = by_sign (i -ℤ low) e }
    where
      by_test : (j : ℕ) (b : Bool) → cond b (Some j) None ≡ None → cond b (push (pos j) (memory gs vs ops cs p)) (fail (Trapping IndexTrap) (memory gs vs ops cs p)) ≡ fail (Trapping IndexTrap) (memory gs vs ops cs p)
      by_test j true q = absurd (let z : ◌≡◌ {A = ℕ} 0 1 = cc in omega arith)
      by_test j false q = refl

      by_sign : (z : ℤ) → counted z n ≡ None → indexed (natural z) (memory gs vs ops cs p) (λ j c. cond (ltb j n) (push (pos j) c) (fail (Trapping IndexTrap) c)) ≡ fail (Trapping IndexTrap) (memory gs vs ops cs p)
      by_sign (pos j) q = by_test j (ltb j n) q
      by_sign (negsuc j) q = refl
