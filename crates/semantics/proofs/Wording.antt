-- Words with values of their types.
use Rattle.std.proofs.Common.{◌≡◌, ℕ, zero, suc, ◌+◌, ◌<◌, Bool, true, false, cond, ltb, List, [], ◌∷◌, ◌++◌, length, get_or, take, drop, set, replicate, ℤ, pos, negsuc, ◌-ℤ◌, Some, None, refl, ap, subst, inl, suc-add, zero-add, arith, take-append-drop}
use mathlib.Core.Option.{some}
use lib.ListN.{get_elem?}
use Rattle.std.proofs.lemmas.Int.{ints}
use Rattle.std.proofs.lemmas.Bool.{ltb-true}
use Rattle.semantics.specs.Program.{BasicType, INTEGER, BOOLEAN, BITSET, Array}
use Rattle.semantics.specs.Values.{Value, counted, position}
use Rattle.semantics.specs.State.{zeros}
use Rattle.semantics.specs.Laws.{Valued}

-- 0, FALSE or {}
pub zero_value : (τ : BasicType) → Value τ (pos 0)
zero_value INTEGER = (grind (arith, ints), grind (arith, ints))
zero_value BOOLEAN = inl refl
zero_value BITSET = (grind (arith, ints), grind (arith, ints))

pub zeros_valued : (τs : List BasicType) → Valued τs (zeros (length τs))
zeros_valued [] = tt
zeros_valued (τ ∷ τs) = (zero_value τ, zeros_valued τs)

pub valued_at : (τs : List BasicType) (xs : List ℤ) (w : ℕ) (τ : BasicType) → get_elem? τs w ≡ some τ → Valued τs xs → Value τ (get_or xs w (pos 0))
valued_at [] xs w τ e h = absurd (let z : ◌≡◌ {A = ℕ} 0 1 = cc in omega arith)
valued_at (υ ∷ τs) [] w τ e h = absurd h
valued_at (υ ∷ τs) (x ∷ xs) zero τ e h = let q : υ ≡ τ = cc in subst (λ ρ. Value ρ x) q h.0
valued_at (υ ∷ τs) (x ∷ xs) (suc w) τ e h = valued_at τs xs w τ e h.1

pub valued_set : (τs : List BasicType) (xs : List ℤ) (w : ℕ) (τ : BasicType) (y : ℤ) → get_elem? τs w ≡ some τ → Value τ y → Valued τs xs → Valued τs (set xs w y)
valued_set [] xs w τ y e v h = absurd (let z : ◌≡◌ {A = ℕ} 0 1 = cc in omega arith)
valued_set (υ ∷ τs) [] w τ y e v h = absurd h
valued_set (υ ∷ τs) (x ∷ xs) zero τ y e v h = let q : τ ≡ υ = cc in (subst (λ ρ. Value ρ y) q v, h.1)
valued_set (υ ∷ τs) (x ∷ xs) (suc w) τ y e v h = (h.0, valued_set τs xs w τ y e v h.1)

append_valued : (τs υs : List BasicType) (xs ys : List ℤ) → Valued τs xs → Valued υs ys → Valued (τs ++ υs) (xs ++ ys)
append_valued [] υs [] ys h k = k
append_valued [] υs (x ∷ xs) ys h k = absurd h
append_valued (τ ∷ τs) υs [] ys h k = absurd h
append_valued (τ ∷ τs) υs (x ∷ xs) ys h k = (h.0, append_valued τs υs xs ys h.1 k)

-- the words of an activation that is opened: its arguments, then zeros
pub opened_valued : (n : ℕ) (τs : List BasicType) (xs : List ℤ) → Valued (take n τs) xs → Valued τs (xs ++ zeros (length (drop n τs)))
opened_valued n τs xs h = subst (λ υs. Valued υs (xs ++ zeros (length (drop n τs)))) (take-append-drop n τs) (append_valued (take n τs) (drop n τs) xs _ h (zeros_valued (drop n τs)))

-- the type of an element of an array
front_typed : (τs : List BasicType) (n k : ℕ) (τ : BasicType) → take n τs ≡ replicate n τ → k < n → get_elem? τs k ≡ some τ
front_typed τs zero k τ e h = absurd (omega arith)
front_typed [] (suc n) k τ e h = absurd (let z : ◌≡◌ {A = ℕ} 0 1 = cc in omega arith)
front_typed (υ ∷ τs) (suc n) zero τ e h = let q : υ ≡ τ = cc in ap some q
front_typed (υ ∷ τs) (suc n) (suc k) τ e h = let q : take n τs ≡ replicate n τ = cc in front_typed τs n k τ q (omega arith)

pub element_typed : (τs : List BasicType) (b n k : ℕ) (τ : BasicType) → take n (drop b τs) ≡ replicate n τ → k < n → get_elem? τs (b + k) ≡ some τ
element_typed τs zero n k τ e h = rw zero-add (front_typed τs n k τ e h)
element_typed [] (suc b) n k τ e h = absurd (let z : ◌≡◌ {A = ℕ} 0 1 = cc (front_typed [] n k τ e h) in omega arith)
element_typed (υ ∷ τs) (suc b) n k τ e h = rw suc-add (element_typed τs b n k τ e h)

-- an index that names an element names one of the array
pub position_below : (a : Array) (i : ℤ) (k : ℕ) → position a i ≡ Some k → k < a.size
unfolding position
position_below a i k e = go (i -ℤ a.low) e
  where
    here : (j : ℕ) (b : Bool) → (b ≡ true → j < a.size) → cond b (Some j) None ≡ Some k → k < a.size
    here j true h q = let r : j ≡ k = cc in subst (λ i. i < a.size) r (h refl)
    here j false h q = absurd (let z : ◌≡◌ {A = ℕ} 0 1 = cc in omega arith)

    go : (z : ℤ) → counted z a.size ≡ Some k → k < a.size
    go (pos j) q = here j (ltb j a.size) (ltb-true j a.size) q
    go (negsuc j) q = absurd (let z : ◌≡◌ {A = ℕ} 0 1 = cc in omega arith)
