-- What operators answer has the type that they give.
use Rattle.std.proofs.Common.{◌≡◌, ℕ, Bool, true, false, cond, not, ℤ, pos, ◌+ℤ◌, ◌-ℤ◌, ◌*ℤ◌, neg_ℤ, nat_abs, ◌≤ℤ◌, Some, None, Option, refl, subst, inl, inr, arith}
use lib.Signed.{le_z, lt_z}
use Rattle.std.specs.Int.{int_div_euclid}
use Rattle.std.proofs.lemmas.Int.{ints}
use Rattle.integer.specs.Division.{divided, paired}
use Rattle.integer.specs.Ends.{integer, Within, within, kept}
use Rattle.integer.specs.Sets.{elements, word, if_element}
use Rattle.integer.proofs.Between.{within_tested}
use Rattle.integer.proofs.Euclid as euclid
use Rattle.integer.proofs.Words.{word_set}
use Rattle.semantics.specs.Program.{BasicType, INTEGER, BOOLEAN, BITSET, Unary, negate, complement, absolute, odd, Binary, add, subtract, multiply, divide, modulo, union, difference, intersection, equal, unequal, less, at_most, greater, at_least, Update, increase, decrease, include, exclude}
use Rattle.semantics.specs.Values.{Value, truth, same, fails, quotient, remainder, is_one, unary_answer, binary_answer, updated}
use Rattle.semantics.specs.WellFormed.{unary_takes, unary_gives, Takes, binary_gives, changes}

-- an answer, if there is one, has a property
pub data Answers (Q : ℤ → Type 0) : Option ℤ → Type 0 where
  some_answer : {x : ℤ} → Q x → Answers Q (Some x)
  no_answer : Answers Q None

pub truth_value : (b : Bool) → Value BOOLEAN (truth b)
truth_value true = inr refl
truth_value false = inl refl

pub word_value : (f : ℕ → Bool) → Value BITSET (word f)
word_value f = (word_set f).set

kept_value : (z : ℤ) → Answers (Value INTEGER) (kept integer z)
kept_value z = go (within integer z) (within_tested integer z).0
  where
    go : (b : Bool) → (b ≡ true → Within integer z) → Answers (Value INTEGER) (cond b (Some z) None)
    go true h = some_answer (h refl)
    go false h = no_answer

-- the pair of a division
divided_values : (x y : ℤ) → Value INTEGER x → Value INTEGER y → Answers (Value INTEGER) (quotient (divided x y)) × Answers (Value INTEGER) (remainder (divided x y))
divided_values x y hx hy = go (le_z (pos 1) y) refl
  where
    go : (b : Bool) → le_z (pos 1) y ≡ b → Answers (Value INTEGER) (quotient (cond b (Some (paired x y (int_div_euclid x y))) None)) × Answers (Value INTEGER) (remainder (cond b (Some (paired x y (int_div_euclid x y))) None))
    go true e = let l : pos 1 ≤ℤ y = grind (arith, ints) in let w = euclid.within integer x y (paired x y (int_div_euclid x y)) (grind (arith, ints), grind (arith, ints)) hx hy (euclid.paired_divides x y l) in (some_answer w.0, some_answer w.1)
    go false e = (no_answer, no_answer)

element_value : (k : ℤ) (f : ℕ → Bool) → Answers (Value BITSET) (if_element k (word f))
element_value k f = go (within elements k)
  where
    go : (b : Bool) → Answers (Value BITSET) (cond b (Some (word f)) None)
    go true = some_answer (word_value f)
    go false = no_answer

pub unary_value : (o : Unary) (x : ℤ) → Value (unary_takes o) x → Answers (Value (unary_gives o)) (unary_answer o x)
unfolding unary_answer
unary_value negate x h = kept_value (neg_ℤ x)
unary_value complement x h = some_answer (truth_value (fails x))
unary_value absolute x h = kept_value (pos (nat_abs x))
unary_value odd x h = some_answer (truth_value (is_one (remainder (divided x (pos 2)))))

pub binary_value : (o : Binary) (υ : BasicType) (x y : ℤ) → Takes o υ → Value υ x → Value υ y → Answers (Value (binary_gives o)) (binary_answer o x y)
unfolding binary_answer
binary_value add υ x y t h k = kept_value (x +ℤ y)
binary_value subtract υ x y t h k = kept_value (x -ℤ y)
binary_value multiply υ x y t h k = kept_value (x *ℤ y)
binary_value divide υ x y t h k = (divided_values x y (subst (λ τ. Value τ x) t h) (subst (λ τ. Value τ y) t k)).0
binary_value modulo υ x y t h k = (divided_values x y (subst (λ τ. Value τ x) t h) (subst (λ τ. Value τ y) t k)).1
binary_value union υ x y t h k = some_answer (word_value _)
binary_value difference υ x y t h k = some_answer (word_value _)
binary_value intersection υ x y t h k = some_answer (word_value _)
binary_value equal υ x y t h k = some_answer (truth_value (same x y))
binary_value unequal υ x y t h k = some_answer (truth_value (not (same x y)))
binary_value less υ x y t h k = some_answer (truth_value (lt_z x y))
binary_value at_most υ x y t h k = some_answer (truth_value (le_z x y))
binary_value greater υ x y t h k = some_answer (truth_value (lt_z y x))
binary_value at_least υ x y t h k = some_answer (truth_value (le_z y x))

pub update_value : (o : Update) (x k : ℤ) → Answers (Value (changes o)) (updated o x k)
unfolding updated
update_value increase x k = kept_value (x +ℤ k)
update_value decrease x k = kept_value (x -ℤ k)
update_value include x k = element_value k _
update_value exclude x k = element_value k _
