-- Instructions that meet the port, and those that open and close activations.
use Rattle.std.proofs.Common.{◌≡◌, ℕ, suc, ◌+◌, ◌*◌, ◌<◌, ◌≤◌, Bool, true, false, cond, eqb, ltb, List, [], ◌∷◌, ◌++◌, reverse, length, take, drop, ℤ, pos, negsuc, nat_abs, Some, None, Ok, Err, refl, ap, ◌∙◌, le_refl, add-one, arith}
use Rattle.std.proofs.lemmas.Bool.{lt-ltb, le-leb, eqb-true}
use Rattle.std.proofs.lemmas.Nat.{div-mul-add, mod-mul-add}
use Rattle.std.proofs.lemmas.Int.{ints}
use Rattle.ports.specs.Calls.{oldest, take_after, set_answer, set_after}
use Rattle.ports.specs.Channels.{Meaning}
use Rattle.ports.specs.Events.{took, set_to}
use Rattle.integer.specs.Ends.{integer, within}
use Rattle.instructions.specs.State.{Caller, became}
use Rattle.instructions.specs.Moves.{pull, push, operand, replace, open_activation, close_activation}
use Rattle.instructions.specs.Steps.{gone, did, halted, step, met, effect, took_or_waits, set_or_not}
use Rattle.instructions.specs.declared.answers.Outcome.TheVariants as answer
use Rattle.instructions.specs.declared.answers.Status.TheVariants.{Ended}
use Rattle.instructions.specs.declared.answers.Trap.TheVariants.{Activations}
use Rattle.instructions.specs.declared.instruction.Instruction.{Instruction}
use Rattle.instructions.specs.declared.operation.Operation.TheVariants as op
use Rattle.semantics.specs.Values.{is_channel}
use Rattle.agreement.specs.Generator.{at_place}
use Rattle.agreement.proofs.Traced.{Mark, turned, passed, Goes, executes, passes}
use Rattle.agreement.proofs.Executing.{At, memory, seen, traced, fetches, same_depth, Fails}

-- a channel's number is below 16
pub channel_below : (x : ℤ) → is_channel x ≡ true → nat_abs x < 16
channel_below (pos n) e = grind (arith, ints)
channel_below (negsuc n) e = absurd (let z : ◌≡◌ {A = ℕ} 0 1 = cc in omega arith)

module _ (c : List Instruction) (cs : List Caller) (p pl : ℕ) (m : Meaning) (gs vs ops : List ℤ) (x : ℤ) (h : At c p (at_place pl op.Take 0)) (e : is_channel x ≡ true) where
  to_take : step (seen c (memory gs vs (x ∷ ops) cs p) m) ≡ took_or_waits (nat_abs x) pl (Ok (oldest (m (nat_abs x)).waiting)) (seen c (memory gs vs (x ∷ ops) cs p) m)
  unfolding operand
  to_take = fetches c (at_place pl op.Take 0) gs vs (x ∷ ops) cs p m h ∙ rw (lt-ltb 0 (suc (length ops)) (omega arith), e, lt-ltb (nat_abs x) 16 (channel_below x e))

  -- no sample is there
  pub awaits : oldest (m (nat_abs x)).waiting ≡ None → step (seen c (memory gs vs (x ∷ ops) cs p) m) ≡ halted (answer.Waits (nat_abs x) pl) (seen c (memory gs vs (x ∷ ops) cs p) m)
  awaits f = to_take ∙ ap (λ o. took_or_waits (nat_abs x) pl (Ok o) (seen c (memory gs vs (x ∷ ops) cs p) m)) f

module _ {c : List Instruction} {cs : List Caller} {p pl : ℕ} {m : Meaning} {t : List Mark} {gs vs ops : List ℤ} {x : ℤ} {W : ℕ} where
  -- a sample is received
  pub receives : {z : ℤ} → At c p (at_place pl op.Take 0) → is_channel x ≡ true → oldest (m (nat_abs x)).waiting ≡ Some z
      → Goes W (traced c (memory gs vs (x ∷ ops) cs p) m t) (traced c (memory gs vs (z ∷ ops) cs (suc p)) (take_after m (nat_abs x)) (passed (took (nat_abs x) z) ∷ t))
  unfolding replace
  receives {z} h e f =
      passes (to_take c cs p pl m gs vs ops x h e ∙ ap (λ o. took_or_waits (nat_abs x) pl (Ok o) (seen c (memory gs vs (x ∷ ops) cs p) m)) f
      ∙ ap (λ q. did (took (nat_abs x) z) (seen c (memory gs vs (z ∷ ops) cs q) (take_after m (nat_abs x)))) (add-one p))
      (rw (lt-ltb p (suc p) (le_refl (suc p)), same_depth (length cs))) (λ w h. refl)

  -- a channel is set
  pub sets_to : {y : ℤ} → At c p (at_place pl op.Put 0) → is_channel x ≡ true → within integer y ≡ true
      → Goes W (traced c (memory gs vs (y ∷ x ∷ ops) cs p) m t) (traced c (memory gs vs ops cs (suc p)) (set_after m (nat_abs x) y) (passed (set_to (nat_abs x) y) ∷ t))
  unfolding pull
  sets_to {y} h e f =
      passes (fetches c (at_place pl op.Put 0) gs vs (y ∷ x ∷ ops) cs p m h ∙ to_set
      ∙ ap (λ b. set_or_not (nat_abs x) y (memory gs vs ops cs (p + 1)) (cond b (Ok tt) (Err 51)) (seen c (memory gs vs (y ∷ x ∷ ops) cs p) m)) (lt-ltb (nat_abs x) 16 (channel_below x e))
      ∙ ap (λ q. did (set_to (nat_abs x) y) (seen c (memory gs vs ops cs q) (set_after m (nat_abs x) y))) (add-one p))
      (rw (lt-ltb p (suc p) (le_refl (suc p)), same_depth (length cs))) (λ w h. refl)
    where
      to_set : met (effect (at_place pl op.Put 0) (memory gs vs (y ∷ x ∷ ops) cs p)) (seen c (memory gs vs (y ∷ x ∷ ops) cs p) m) ≡ set_or_not (nat_abs x) y (memory gs vs ops cs (p + 1)) (set_answer (nat_abs x)) (seen c (memory gs vs (y ∷ x ∷ ops) cs p) m)
      to_set = rw (e, f)

-- a caller's record
abbrev pub caller : ℕ → List ℤ → List ℤ → Caller
caller r vs ops = record { resume = r; words = record { variables = vs; operands = ops } }

never_same : (n : ℕ) → eqb n (suc n) ≡ false
never_same n = by_test (eqb n (suc n)) (eqb-true n (suc n))
  where
    by_test : (b : Bool) → (b ≡ true → n ≡ suc n) → b ≡ false
    by_test true h = absurd (let e : n ≡ suc n = h refl in omega arith)
    by_test false h = refl

never_same' : (n : ℕ) → eqb (suc n) n ≡ false
never_same' n = by_test (eqb (suc n) n) (eqb-true (suc n) n)
  where
    by_test : (b : Bool) → (b ≡ true → suc n ≡ n) → b ≡ false
    by_test true h = absurd (let e : suc n ≡ n = h refl in omega arith)
    by_test false h = refl

turn_either : (b : Bool) (t : List Mark) → turned ∷ t ≡ cond b (turned ∷ []) (turned ∷ []) ++ t
turn_either true t = refl
turn_either false t = refl

-- a change in the number of activations is a turn
opened_mark : (n p q : ℕ) (t : List Mark) → turned ∷ t ≡ cond (ltb p q) (cond (eqb n (suc n)) [] (turned ∷ [])) (turned ∷ []) ++ t
opened_mark n p q t = rw (never_same n) (turn_either (ltb p q) t)

closed_mark : (n p q : ℕ) (t : List Mark) → turned ∷ t ≡ cond (ltb p q) (cond (eqb (suc n) n) [] (turned ∷ [])) (turned ∷ []) ++ t
closed_mark n p q t = rw (never_same' n) (turn_either (ltb p q) t)

module _ {c : List Instruction} {cs : List Caller} {p pl : ℕ} {m : Meaning} {t : List Mark} {gs vs ops : List ℤ} {W : ℕ} where
  -- an activation is opened
  pub calls : {n q : ℕ} → At c p (at_place pl op.Call (n * 4096 + q)) → q < 4096 → n ≤ length ops → length cs < 32
      → Goes W (traced c (memory gs vs ops cs p) m t) (traced c (memory gs (reverse (take n ops)) [] (caller (suc p) vs (drop n ops) ∷ cs) q) m (turned ∷ t))
  unfolding open_activation
  calls {n} {q} h l a d =
      executes (fetches c (at_place pl op.Call (n * 4096 + q)) gs vs ops cs p m h
      ∙ (rw (div-mul-add n 4096 q l, mod-mul-add n 4096 q l, le-leb n (length ops) a, lt-ltb (length cs) 32 d) refl)
      ∙ ap (λ r. gone (seen c (memory gs (reverse (take n ops)) [] (caller r vs (drop n ops) ∷ cs) q) m)) (add-one p))
      (opened_mark (length cs) p q t) (λ w h. refl)

  -- an activation is closed
  pub closes : {r : ℕ} {us os : List ℤ} → At c p (at_place pl op.Return 0) → Goes W (traced c (memory gs vs ops (caller r us os ∷ cs) p) m t) (traced c (memory gs us os cs r) m (turned ∷ t))
  unfolding close_activation
  closes {r} {us} {os} h = executes (fetches c (at_place pl op.Return 0) gs vs ops (caller r us os ∷ cs) p m h) (closed_mark (length cs) p r t) (λ w h. refl)

  -- with a result
  pub closes_with : {r : ℕ} {us os : List ℤ} {x : ℤ} → At c p (at_place pl op.ReturnValue 0) → length us + length os < 256
      → Goes W (traced c (memory gs vs (x ∷ ops) (caller r us os ∷ cs) p) m t) (traced c (memory gs us (x ∷ os) cs r) m (turned ∷ t))
  unfolding pull close_activation push
  closes_with {r} {us} {os} {x} h room = executes (fetches c (at_place pl op.ReturnValue 0) gs vs (x ∷ ops) (caller r us os ∷ cs) p m h ∙ rw (lt-ltb (length us + length os) 256 room)) (closed_mark (length cs) p r t) (λ w h. refl)

  -- the end
  pub ends_run : At c p (at_place pl op.End 0) → Goes W (traced c (memory gs vs ops cs p) m t) (traced c (became Ended (memory gs vs ops cs (suc p))) m t)
  ends_run h =
      executes (fetches c (at_place pl op.End 0) gs vs ops cs p m h ∙ ap (λ q. gone (seen c (became Ended (memory gs vs ops cs q)) m)) (add-one p))
      (rw (lt-ltb p (suc p) (le_refl (suc p)), same_depth (length cs))) (λ w h. refl)

-- there are 32 activations open
pub refuses : {cs : List Caller} {p pl : ℕ} {gs vs ops : List ℤ} {n q : ℕ} → q < 4096 → n ≤ length ops → ltb (length cs) 32 ≡ false → Fails (at_place pl op.Call (n * 4096 + q)) Activations (memory gs vs ops cs p) (memory gs vs ops cs p)
unfolding open_activation
refuses {cs} {p} {pl} {gs} {vs} {ops} {n} {q} l a d = record { alone = refl; does = rw (div-mul-add n 4096 q l, mod-mul-add n 4096 q l, le-leb n (length ops) a, d) }
