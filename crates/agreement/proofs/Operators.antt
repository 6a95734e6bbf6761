-- Operators at work: the table's operation answers what the operator means.
use Rattle.std.proofs.Common.{◌≡◌, ℕ, suc, ◌+◌, ◌<◌, true, List, ◌∷◌, length, ℤ, Some, None, Option, refl, ap, ◌∙◌, arith}
use Rattle.std.proofs.lemmas.Bool.{lt-ltb}
use Rattle.instructions.specs.State.{Caller}
use Rattle.instructions.specs.Moves.{ok, fail, pull, push, operand}
use Rattle.instructions.specs.Table.{answer}
use Rattle.instructions.specs.Values.{goes_on, following}
use Rattle.instructions.specs.declared.answers.Fault.TheVariants.{Trap as Trapping}
use Rattle.instructions.specs.declared.answers.Trap.{Trap}
use Rattle.instructions.specs.declared.answers.Trap.TheVariants.{Range, Divisor, Element as ElementTrap}
use Rattle.instructions.specs.declared.operation.Operation.TheVariants as op
use Rattle.semantics.specs.Program.{Unary, negate, complement, absolute, odd, Binary, add, subtract, multiply, divide, modulo, union, difference, intersection, equal, unequal, less, at_most, greater, at_least, include, exclude}
use Rattle.semantics.specs.Values.{truth, unary_answer, binary_answer, updated, is_element, contained}
use Rattle.agreement.specs.Generator.{at_place, unary_operation, binary_operation}
use Rattle.agreement.proofs.Executing.{memory, Obeys, Fails, pushes}

-- the trap of an operator without an answer
abbrev pub binary_fault : Binary → Trap
binary_fault add = Range
binary_fault subtract = Range
binary_fault multiply = Range
binary_fault divide = Divisor
binary_fault modulo = Divisor
binary_fault union = Range
binary_fault difference = Range
binary_fault intersection = Range
binary_fault equal = Range
binary_fault unequal = Range
binary_fault less = Range
binary_fault at_most = Range
binary_fault greater = Range
binary_fault at_least = Range

unsome : {A : Type 0} {x y : A} → Some x ≡ Some y → x ≡ y
unsome e = cc

never : {A X : Type 0} {x : A} → Some x ≡ None → X
never e = absurd (let z : ◌≡◌ {A = ℕ} 0 1 = cc in omega arith)

module _ {gs vs ops : List ℤ} {cs : List Caller} {p : ℕ} (room : length vs + length ops < 256) where
  -- an answer is left
  answers : (x : Trap) (o : Option ℤ) (v : ℤ) → o ≡ Some v → answer x o (memory gs vs ops cs p) ≡ ok tt (memory gs vs (v ∷ ops) cs p)
  answers x o v e = ap (λ o. answer x o (memory gs vs ops cs p)) e ∙ pushes room v

  leaves : (u v : ℤ) → Some u ≡ Some v → push u (memory gs vs ops cs p) ≡ ok tt (memory gs vs (v ∷ ops) cs p)
  leaves u v e = pushes room u ∙ ap (λ x. ok tt (memory gs vs (x ∷ ops) cs p)) (unsome e)

  pub obeys_unary : {pl : ℕ} (o : Unary) (x v : ℤ) → unary_answer o x ≡ Some v → Obeys (at_place pl (unary_operation o) 0) (memory gs vs (x ∷ ops) cs p) (memory gs vs (v ∷ ops) cs p)
  unfolding unary_answer pull
  obeys_unary negate x v e = record { alone = refl; does = answers Range _ v e }
  obeys_unary complement x v e = record { alone = refl; does = leaves _ v e }
  obeys_unary absolute x v e = record { alone = refl; does = answers Range _ v e }
  obeys_unary odd x v e = record { alone = refl; does = leaves _ v e }

  pub obeys_binary : {pl : ℕ} (o : Binary) (x y v : ℤ) → binary_answer o x y ≡ Some v → Obeys (at_place pl (binary_operation o) 0) (memory gs vs (y ∷ x ∷ ops) cs p) (memory gs vs (v ∷ ops) cs p)
  unfolding binary_answer pull
  obeys_binary add x y v e = record { alone = refl; does = answers Range _ v e }
  obeys_binary subtract x y v e = record { alone = refl; does = answers Range _ v e }
  obeys_binary multiply x y v e = record { alone = refl; does = answers Range _ v e }
  obeys_binary divide x y v e = record { alone = refl; does = answers Divisor _ v e }
  obeys_binary modulo x y v e = record { alone = refl; does = answers Divisor _ v e }
  obeys_binary union x y v e = record { alone = refl; does = leaves _ v e }
  obeys_binary difference x y v e = record { alone = refl; does = leaves _ v e }
  obeys_binary intersection x y v e = record { alone = refl; does = leaves _ v e }
  obeys_binary equal x y v e = record { alone = refl; does = leaves _ v e }
  obeys_binary unequal x y v e = record { alone = refl; does = leaves _ v e }
  obeys_binary less x y v e = record { alone = refl; does = leaves _ v e }
  obeys_binary at_most x y v e = record { alone = refl; does = leaves _ v e }
  obeys_binary greater x y v e = record { alone = refl; does = leaves _ v e }
  obeys_binary at_least x y v e = record { alone = refl; does = leaves _ v e }

  pub obeys_in : {pl : ℕ} (x s : ℤ) → is_element x ≡ true → Obeys (at_place pl op.In 0) (memory gs vs (s ∷ x ∷ ops) cs p) (memory gs vs (contained x s ∷ ops) cs p)
  unfolding pull
  obeys_in x s e = record { alone = refl; does = answers ElementTrap _ (contained x s) (rw e) }

  pub obeys_include : {pl : ℕ} (s k v : ℤ) → updated include s k ≡ Some v → Obeys (at_place pl op.Include 0) (memory gs vs (s ∷ k ∷ ops) cs p) (memory gs vs (v ∷ ops) cs p)
  unfolding updated pull
  obeys_include s k v e = record { alone = refl; does = answers ElementTrap _ v e }

  pub obeys_exclude : {pl : ℕ} (s k v : ℤ) → updated exclude s k ≡ Some v → Obeys (at_place pl op.Exclude 0) (memory gs vs (s ∷ k ∷ ops) cs p) (memory gs vs (v ∷ ops) cs p)
  unfolding updated pull
  obeys_exclude s k v e = record { alone = refl; does = answers ElementTrap _ v e }

-- a trap, where there is no answer
module _ {gs vs ops : List ℤ} {cs : List Caller} {p : ℕ} where
  no_answer : (x : Trap) (o : Option ℤ) → o ≡ None → answer x o (memory gs vs ops cs p) ≡ fail (Trapping x) (memory gs vs ops cs p)
  no_answer x o e = ap (λ o. answer x o (memory gs vs ops cs p)) e

  pub fails_unary : {pl : ℕ} (o : Unary) (x : ℤ) → unary_answer o x ≡ None → Fails (at_place pl (unary_operation o) 0) Range (memory gs vs (x ∷ ops) cs p) (memory gs vs ops cs p)
  unfolding unary_answer pull
  fails_unary negate x e = record { alone = refl; does = no_answer Range _ e }
  fails_unary complement x e = never e
  fails_unary absolute x e = record { alone = refl; does = no_answer Range _ e }
  fails_unary odd x e = never e

  pub fails_binary : {pl : ℕ} (o : Binary) (x y : ℤ) → binary_answer o x y ≡ None → Fails (at_place pl (binary_operation o) 0) (binary_fault o) (memory gs vs (y ∷ x ∷ ops) cs p) (memory gs vs ops cs p)
  unfolding binary_answer pull
  fails_binary add x y e = record { alone = refl; does = no_answer Range _ e }
  fails_binary subtract x y e = record { alone = refl; does = no_answer Range _ e }
  fails_binary multiply x y e = record { alone = refl; does = no_answer Range _ e }
  fails_binary divide x y e = record { alone = refl; does = no_answer Divisor _ e }
  fails_binary modulo x y e = record { alone = refl; does = no_answer Divisor _ e }
  fails_binary union x y e = never e
  fails_binary difference x y e = never e
  fails_binary intersection x y e = never e
  fails_binary equal x y e = never e
  fails_binary unequal x y e = never e
  fails_binary less x y e = never e
  fails_binary at_most x y e = never e
  fails_binary greater x y e = never e
  fails_binary at_least x y e = never e

  pub fails_include : {pl : ℕ} (s k : ℤ) → updated include s k ≡ None → Fails (at_place pl op.Include 0) ElementTrap (memory gs vs (s ∷ k ∷ ops) cs p) (memory gs vs ops cs p)
  unfolding updated pull
  fails_include s k e = record { alone = refl; does = no_answer ElementTrap _ e }

  pub fails_exclude : {pl : ℕ} (s k : ℤ) → updated exclude s k ≡ None → Fails (at_place pl op.Exclude 0) ElementTrap (memory gs vs (s ∷ k ∷ ops) cs p) (memory gs vs ops cs p)
  unfolding updated pull
  fails_exclude s k e = record { alone = refl; does = no_answer ElementTrap _ e }

-- words brought up
module _ {gs vs ops : List ℤ} {cs : List Caller} {p : ℕ} where
  pub obeys_copy : {pl : ℕ} {x y : ℤ} → length vs + length (x ∷ y ∷ ops) < 256 → Obeys (at_place pl op.Copy 1) (memory gs vs (x ∷ y ∷ ops) cs p) (memory gs vs (y ∷ x ∷ y ∷ ops) cs p)
  unfolding operand
  obeys_copy {pl} {x} {y} room = record { alone = refl; does = rw (lt-ltb 1 (suc (suc (length ops))) (omega arith)) (pushes room y) }

  pub obeys_swap : {pl : ℕ} {x y : ℤ} → length vs + length (x ∷ ops) < 256 → Obeys (at_place pl op.Swap 0) (memory gs vs (y ∷ x ∷ ops) cs p) (memory gs vs (x ∷ y ∷ ops) cs p)
  unfolding pull push
  obeys_swap {pl} {x} {y} room =
      let low : length vs + length ops < 256 = omega arith in
      record { alone = refl; does = rw (lt-ltb (length vs + length ops) 256 low, lt-ltb (length vs + suc (length ops)) 256 room) }

  -- a FOR's step: whether it goes on, and its next term
  pub obeys_advance : {pl : ℕ} {t l s : ℤ} → length vs + length (t ∷ ops) < 256 → Obeys (at_place pl op.Advance 0) (memory gs vs (s ∷ l ∷ t ∷ ops) cs p) (memory gs vs (following t l s ∷ truth (goes_on t l s) ∷ ops) cs p)
  unfolding pull push
  obeys_advance {pl} {t} {l} {s} room =
      let low : length vs + length ops < 256 = omega arith in
      record { alone = refl; does = rw (lt-ltb (length vs + length ops) 256 low, lt-ltb (length vs + suc (length ops)) 256 room) }
