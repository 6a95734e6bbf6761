-- The law of division: the pair satisfies it, nothing else does, and the pair stays between the ends of its operands.
use Rattle.std.proofs.Common.{◌≡◌, ℕ, ◌+◌, ◌-◌, ◌*◌, ◌/◌, ◌%◌, ◌<◌, ◌≤◌, ℤ, pos, negsuc, ◌*ℤ◌, ◌≤ℤ◌, sym, refl, ap, ◌∙◌, ap₂, mod-lt, suc-mul, mul_comm, add-mul, le-mul_of_pos_right, arith}
use native.Mathlib.Nat.{div-add-mod}
use borrow.Author.Differences.{up, down}
use Rattle.std.specs.Int.{int_div_euclid, int_rem_euclid}
use Rattle.std.proofs.lemmas.Nat.{div-mul-add, mod-mul-add}
use Rattle.std.proofs.lemmas.Int.{ints}
use Rattle.integer.specs.Division.{paired, Divides, PairIsUnique, PairIsWithin, ExamplesHold}
use Rattle.integer.specs.Ends.{Ends, Within}

-- what the two divisions of the library answer satisfies it
pub euclid_divides : (x y q r : ℤ) → pos 1 ≤ℤ y → q ≡ int_div_euclid x y → r ≡ int_rem_euclid x y → Divides x y (q, r)
euclid_divides (pos a) (pos b) q r h e f =
    let p : 0 < b = omega (arith, ints) in
    let d = div-add-mod a b in
    let c = mul_comm b (a / b) in
    let l = mod-lt a p in
    rw (e, f) (omega (arith, ints), omega (arith, ints), omega (arith, ints))
euclid_divides (negsuc a) (pos b) q r h e f =
    let p : 0 < b = omega (arith, ints) in
    let d = div-add-mod a b in
    let c = mul_comm b (a / b) in
    let l = mod-lt a p in
    let s = suc-mul (a / b) b in
    rw (e, f) (omega (arith, ints), omega (arith, ints), omega (arith, ints))
euclid_divides (pos a) (negsuc b) q r h e f = absurd (omega (arith, ints))
euclid_divides (negsuc a) (negsuc b) q r h e f = absurd (omega (arith, ints))

pub paired_divides : (x y : ℤ) → pos 1 ≤ℤ y → Divides x y (paired x y (int_div_euclid x y))
paired_divides x y h =
    let d = euclid_divides x y _ _ h refl refl in
    (omega (arith, ints), omega (arith, ints), omega (arith, ints))

-- a natural is divided in one way only
same_ℕ : (m n y r s : ℕ) → r < y → s < y → m * y + r ≡ n * y + s → (m ≡ n) × (r ≡ s)
same_ℕ m n y r s f g e = (
  sym (div-mul-add m y r f) ∙ ap (λ t. t / y) e ∙ div-mul-add n y s g,
  sym (mod-mul-add m y r f) ∙ ap (λ t. t % y) e ∙ mod-mul-add n y s g,
)

-- a product with a natural, by the parts of its other factor
times : (q : ℤ) (y : ℕ) → up (q *ℤ pos y) + down q * y ≡ down (q *ℤ pos y) + up q * y
times (pos n) y = omega arith
times (negsuc n) y = omega (arith, ints, suc-mul n y)

unique_pos : (x q t r s : ℤ) (y : ℕ) → Divides x (pos y) (q, r) → Divides x (pos y) (t, s) → (q ≡ t) × (r ≡ s)
unique_pos x q t r s y h k =
    let e : (up q + down t) * y + (up r - down r) ≡ (up t + down q) * y + (up s - down s) =
    omega (arith, ints, times q y, times t y, add-mul (up q) (down t) y, add-mul (up t) (down q) y) in
    let m = same_ℕ _ _ y _ _ (omega (arith, ints)) (omega (arith, ints)) e in
    (omega (arith, ints, m.0), omega (arith, ints, m.1))

pub unique : PairIsUnique
unique x (pos y) p s h k =
    let m = unique_pos x p.0 s.0 p.1 s.1 y h k in
    ap₂ (λ a b. (a, b)) m.0 m.1
unique x (negsuc y) p s h k = absurd (omega (arith, ints))

within_pos : (e : Ends) (x q r : ℤ) (y : ℕ) → Within e (pos 0) → Within e x → Within e (pos y) → Divides x (pos y) (q, r) → Within e q × Within e r
within_pos e x (pos q) r y z f g h =
    let l : q ≤ q * y = le-mul_of_pos_right q (omega (arith, ints)) in
    ((omega (arith, ints), omega (arith, ints)), (omega (arith, ints), omega (arith, ints)))
within_pos e x (negsuc q) r y z f g h =
    let l : q ≤ q * y = le-mul_of_pos_right q (omega (arith, ints)) in
    let m = suc-mul q y in
    ((omega (arith, ints), omega (arith, ints)), (omega (arith, ints), omega (arith, ints)))

pub within : PairIsWithin
within e x (pos y) p z f g h = within_pos e x p.0 p.1 y z f g h
within e x (negsuc y) p z f g h = absurd (omega (arith, ints))

pub examples_hold : ExamplesHold
examples_hold = refl
