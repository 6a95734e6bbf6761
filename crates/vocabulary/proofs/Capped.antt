-- A number's value held at a top, digit by digit.
use Rattle.std.proofs.Common.{◌≡◌, ℕ, ◌+◌, ◌*◌, ◌<◌, ◌≤◌, min, true, false, cond, ltb, ◌⊎◌, List, [], ◌∷◌, length, get_or, drop, Some, None, Option, sym, refl, ap, ◌∙◌, inl, inr, mul-le-mul_left, mul-one, arith, le-ltb, lt-ltb}
use Rattle.std.specs.Option.{option_map}
use Rattle.std.proofs.lemmas.List.{at_drop_more, at_drop_all}
use Rattle.vocabulary.specs.Numbers.{digit_value, digits_value}

abbrev pub held : ℕ → Option ℕ → Option ℕ
held top v = option_map (λ n. min n top) v

-- two numbers alike up to the top are equal, or both reach it
alike : (top x y : ℕ) → min x top ≡ min y top → (x ≡ y) ⊎ ((top ≤ x) × (top ≤ y))
alike top x y e = grind arith

-- one digit more keeps two values alike up to the top
same_digit : (top base x y d : ℕ) → 1 ≤ base → min x top ≡ min y top → min (x * base + d) top ≡ min (y * base + d) top
same_digit top base x y d h e =
    elim (alike top x y e) [
      | inl same ↦ rw same refl
      | inr both ↦
          let p : x ≤ x * base = rw mul-one at (mul-le-mul_left x h) in
          let q : y ≤ y * base = rw mul-one at (mul-le-mul_left y h) in
          omega arith
    ]

-- what is read behind two values that are alike up to the top is alike up to the top
pub same_digits : (top base : ℕ) → 1 ≤ base → (cs : List ℕ) (x y : ℕ) → min x top ≡ min y top → held top (digits_value base x cs) ≡ held top (digits_value base y cs)
same_digits top base h [] x y e = ap Some e
same_digits top base h (c ∷ cs) x y e =
    elim (ltb (digit_value c) base) as (λ b. held top (cond b (digits_value base (x * base + digit_value c) cs) None) ≡ held top (cond b (digits_value base (y * base + digit_value c) cs) None))
    [ true ↦ same_digits top base h cs _ _ (same_digit top base x y (digit_value c) h e) | false ↦ refl ]

-- a digit of the base at index i
pub digit_more : (top base before : ℕ) (s : List ℕ) (i now d : ℕ) → 1 ≤ base → i < length s → d ≡ digit_value (get_or s i 0) → d < base → now ≡ min (before * base + d) top → held top (digits_value base now (drop (i + 1) s)) ≡ held top (digits_value base before (drop i s))
digit_more top base before s i now d h l e k n =
    let yes : ltb (digit_value (get_or s i 0)) base ≡ true = rw e at (lt-ltb d base k) in
    let same : min now top ≡ min (before * base + digit_value (get_or s i 0)) top = rw (← e, n) (omega arith) in
    same_digits top base h (drop (i + 1) s) now _ same ∙ sym (ap (held top) (at_drop_more (digits_value base before) s i 0 l ∙ rw yes refl))

-- a byte at index i that is no digit of the base
pub digit_none : (top base before : ℕ) (s : List ℕ) (i d : ℕ) → i < length s → d ≡ digit_value (get_or s i 0) → base ≤ d → held top (digits_value base before (drop i s)) ≡ None
digit_none top base before s i d l e k =
    let no_digit : ltb (digit_value (get_or s i 0)) base ≡ false = rw e at (le-ltb d base k) in
    let none : digits_value base before (drop i s) ≡ None = at_drop_more (digits_value base before) s i 0 l ∙ rw no_digit refl in
    ap (held top) none

-- no byte is left
pub digit_all : (top base before : ℕ) (s : List ℕ) (i : ℕ) → length s ≤ i → before ≤ top → held top (digits_value base before (drop i s)) ≡ Some before
digit_all top base before s i l k =
    ap (held top) (at_drop_all (digits_value base before) s i l) ∙ ap Some (omega arith)
