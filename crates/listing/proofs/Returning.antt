-- Reading what was written.
use Rattle.std.proofs.Common.{◌≡◌, ℕ, ◌+◌, ◌*◌, ◌/◌, ◌%◌, ◌^◌, ◌<◌, ◌≤◌, Bool, true, false, cond, not, ◌&&◌, eqb, ltb, List, [], ◌∷◌, ◌++◌, map, length, get_or, take, drop, Some, None, decimal, sym, refl, ap, ◌∙◌, subst, ap₂, inl, inr, arith}
use Rattle.std.specs.Str.{bytes_eq}
use Rattle.std.proofs.lemmas.Fmt.{decimal_by_steps, decimal_nonempty}
use Rattle.std.proofs.lemmas.List.{take_at, drop_at, drop-drop, get_or-map}
use Rattle.std.proofs.lemmas.List.Folds.{list_all_at}
use Rattle.std.specs.List.{list_all}
use Rattle.std.proofs.lemmas.Bool.{lt-ltb, ne_eqb, le-leb, cond-true, cond-false, and_parts, ltb-true, cases_lt, cases_Bool, le-ltb, true≢false}
use Rattle.vocabulary.specs.Numbers.{digit_value, digits_value}
use Rattle.instructions.specs.declared.operation.Operation.{Operation}
use Rattle.instructions.specs.declared.operation.Operation.TheVariants.{End, Other}
use Rattle.instructions.specs.Numbers.{table, number_of, operation_of}
use Rattle.names.specs.Names.{spelt, named}
use Rattle.listing.specs.Lines.{blank, first_word, behind, below, number, unlisted, operation_by, operation, assembled, operation_text, written, ReadsBack}

-- a word without a blank
abbrev Clear : List ℕ → Type 0
Clear [] = Unit {0}
Clear (c ∷ cs) = (eqb c 32 ≡ false) × Clear cs

clear_both : (xs ys : List ℕ) → Clear xs → Clear ys → Clear (xs ++ ys)
clear_both [] ys p q = q
clear_both (x ∷ xs) ys p q = (p.0, clear_both xs ys p.1 q)

-- the first blank stands behind a word without one
blank_at : (w rest : List ℕ) → Clear w → blank (w ++ (32 ∷ rest)) ≡ length w
blank_at [] rest h = refl
blank_at (c ∷ cs) rest h = ap (λ b. cond (not b) (1 + blank (cs ++ (32 ∷ rest))) 0) h.0 ∙ (let e = blank_at cs rest h.1 in omega arith)

first_at : (w rest : List ℕ) → Clear w → first_word (w ++ (32 ∷ rest)) ≡ w
first_at w rest h = ap (λ k. take k (w ++ (32 ∷ rest))) (blank_at w rest h) ∙ take_at w (32 ∷ rest) (length w) refl

behind_at : (w rest : List ℕ) → Clear w → behind (w ++ (32 ∷ rest)) ≡ rest
behind_at w rest h =
    ap (λ k. drop (k + 1) (w ++ (32 ∷ rest))) (blank_at w rest h)
    ∙ sym (drop-drop 1 (length w) (w ++ (32 ∷ rest)))
    ∙ ap (drop 1) (drop_at w (32 ∷ rest) (length w) refl)

-- the digits of a number, whatever they come to
small : (n : ℕ) → n < 65536 → n < 2 ^ 64
small n h = omega arith

digit_is : (d : ℕ) → d < 10 → digit_value (48 + d) ≡ d
digit_is d h = grind arith

one_more : (xs : List ℕ) (b m d : ℕ) → d < 10 → digits_value 10 b xs ≡ Some m → digits_value 10 b (xs ++ ((48 + d) ∷ [])) ≡ Some (m * 10 + d)
one_more [] b m d h e =
    let q : b ≡ m = cc in
    cond-true _ _ _ (ap (λ k. ltb k 10) (digit_is d h) ∙ lt-ltb d 10 h) ∙ ap Some (ap₂ (λ x y. x * 10 + y) q (digit_is d h))
one_more (x ∷ xs) b m d h e = by_digit (one_more xs (b * 10 + digit_value x) m d h) (ltb (digit_value x) 10) e
  where
    by_digit : (digits_value 10 (b * 10 + digit_value x) xs ≡ Some m → digits_value 10 (b * 10 + digit_value x) (xs ++ ((48 + d) ∷ [])) ≡ Some (m * 10 + d)) → (t : Bool) → cond t (digits_value 10 (b * 10 + digit_value x) xs) None ≡ Some m → cond t (digits_value 10 (b * 10 + digit_value x) (xs ++ ((48 + d) ∷ []))) None ≡ Some (m * 10 + d)
    by_digit ih true e = ih e
    by_digit ih false e = absurd (let z : ◌≡◌ {A = ℕ} 0 1 = cc in omega arith)

digits_decimal : (n : ℕ) → n < 2 ^ 64 → digits_value 10 0 (decimal n) ≡ Some n
digits_decimal = decimal_by_steps (λ n ds. digits_value 10 0 ds ≡ Some n)
    (λ n h. one_more [] 0 0 n h refl ∙ ap Some (let e : 0 * 10 + n ≡ n = omega arith in e))
    (λ n ds h e. one_more ds 0 (n / 10) (n % 10) (omega arith) e ∙ ap Some (let q : n / 10 * 10 + n % 10 ≡ n = omega arith in q))

clear_decimal : (n : ℕ) → n < 2 ^ 64 → Clear (decimal n)
clear_decimal = decimal_by_steps (λ n ds. Clear ds)
    (λ n h. (ne_eqb (48 + n) 32 (λ e. omega arith), tt))
    (λ n ds h p. clear_both ds ((48 + n % 10) ∷ []) p (ne_eqb (48 + n % 10) 32 (λ e. omega arith), tt))

number_decimal : (n : ℕ) → n < 65536 → number (decimal n) ≡ Some n
number_decimal n h =
    let some = decimal_nonempty n (small n h) in
    cond-false _ _ _ (ne_eqb (length (decimal n)) 0 (λ e. omega arith)) ∙ ap (below 65536) (digits_decimal n (small n h)) ∙ cond-true _ _ _ (lt-ltb n 65536 h)

-- names begin with a letter, and numbers do not
abbrev lettered : List ℕ → Bool
lettered [] = false
lettered (c ∷ cs) = ltb 64 c

abbrev all_lettered : List Operation → Bool
all_lettered os = list_all (λ o. lettered (spelt o)) os

abbrev DigitFirst : List ℕ → Type 0
DigitFirst [] = ⊥
DigitFirst (c ∷ cs) = c < 65

digit_first : (n : ℕ) → n < 2 ^ 64 → DigitFirst (decimal n)
digit_first = decimal_by_steps (λ n ds. DigitFirst ds) (λ n h. omega arith) (λ n ds h p. longer ds (48 + n % 10) p)
  where
    longer : (ds : List ℕ) (d : ℕ) → DigitFirst ds → DigitFirst (ds ++ (d ∷ []))
    longer [] d p = absurd p
    longer (c ∷ cs) d p = p

differs : (xs ys : List ℕ) → lettered xs ≡ true → DigitFirst ys → bytes_eq xs ys ≡ false
differs [] ys l d = absurd (let z : ◌≡◌ {A = ℕ} 0 1 = cc in omega arith)
differs (x ∷ xs) [] l d = absurd d
differs (x ∷ xs) (y ∷ ys) l d = let h = ltb-true 64 x l in ap (λ b. b && bytes_eq xs ys) (ne_eqb x y (λ e. omega arith))

no_name : (os : List Operation) (ys : List ℕ) → all_lettered os ≡ true → DigitFirst ys → named os ys ≡ None
no_name [] ys l d = refl
no_name (o ∷ os) ys l d =
    let p = and_parts (lettered (spelt o)) (all_lettered os) l in
    cond-false _ _ _ (differs (spelt o) ys p.0 d) ∙ no_name os ys p.1 d

-- a number that the table does not have
other_back : (k : ℕ) → 48 ≤ k → k < 256 → operation (decimal k) ≡ Some (Other k)
other_back k l h =
    let s : k < 65536 = omega arith in
    ap (λ o. operation_by o (decimal k)) (no_name table (decimal k) refl (digit_first k (small k s)))
    ∙ ap unlisted (number_decimal k s)
    ∙ cond-true _ _ _ (ap₂ ◌&&◌ (le-leb 48 k l) (lt-ltb k 256 h))

-- an operation's text has no blank, and is read back
pub record TextBack (o : Operation) : Type 0 where
  pub clear : Clear (operation_text o)
  pub back : operation (operation_text o) ≡ Some o

-- so it is for every operation of the table, by computation
abbrev clear : List ℕ → Bool
clear [] = true
clear (c ∷ cs) = not (eqb c 32) && clear cs

not_true : (b : Bool) → not b ≡ true → b ≡ false
not_true true e = sym e
not_true false e = refl

clear_is : (w : List ℕ) → clear w ≡ true → Clear w
clear_is [] e = tt
clear_is (c ∷ cs) e =
    let p = and_parts (not (eqb c 32)) (clear cs) e in
    (not_true (eqb c 32) p.0, clear_is cs p.1)

table_clear : list_all (λ o. clear (operation_text o)) table ≡ true
table_clear = refl

table_back : map (λ o. operation (operation_text o)) table ≡ map Some table
table_back = refl

text_listed : (k : ℕ) → k < 48 → TextBack (get_or table k End)
text_listed k h =
    let all : clear (operation_text (get_or table k End)) ≡ true =
    elim (cases_Bool (clear (operation_text (get_or table k End)))) [
      | inl e ↦ e
      | inr e ↦ absurd (true≢false (sym table_clear ∙ list_all_at (λ o. clear (operation_text o)) table k End h e))
    ] in
    record {
      clear = clear_is (operation_text (get_or table k End)) all;
      back = sym (get_or-map (λ o. operation (operation_text o)) table k End None h) ∙ ap (λ xs. get_or xs k None) table_back ∙ get_or-map Some table k End None h;
    }

text_back : (o : Operation) → number_of o < 256 → operation_of (number_of o) ≡ o → TextBack o
text_back o h p =
    let k = number_of o in
    elim (cases_lt k 48) [
      | inl l ↦ subst TextBack (sym (cond-true (ltb k 48) (get_or table k End) (Other k) (lt-ltb k 48 l)) ∙ p) (text_listed k l)
      | inr l ↦ subst TextBack (sym (cond-false (ltb k 48) (get_or table k End) (Other k) (le-ltb k 48 l)) ∙ p) (record { clear = clear_decimal k (small k (omega arith)); back = other_back k l h })
    ]

pub reads_back : ReadsBack
reads_back n i hn hx hp ho po =
    let t = text_back i.operation ho po in
    let x = decimal i.operand ++ (32 ∷ decimal i.place) in
    let o = operation_text i.operation ++ (32 ∷ x) in
    let cn = clear_decimal n (small n hn) in
    let cx = clear_decimal i.operand (small i.operand hx) in
    let b1 : behind (written n i) ≡ o = behind_at (decimal n) o cn in
    let b2 : behind (behind (written n i)) ≡ x = ap behind b1 ∙ behind_at (operation_text i.operation) x t.clear in
    let b3 : behind (behind (behind (written n i))) ≡ decimal i.place = ap behind b2 ∙ behind_at (decimal i.operand) (decimal i.place) cx in
    let r1 : number (first_word (written n i)) ≡ Some n = ap number (first_at (decimal n) o cn) ∙ number_decimal n hn in
    let r2 : operation (first_word (behind (written n i))) ≡ Some i.operation = ap operation (ap first_word b1 ∙ first_at (operation_text i.operation) x t.clear) ∙ t.back in
    let r3 : number (first_word (behind (behind (written n i)))) ≡ Some i.operand = ap number (ap first_word b2 ∙ first_at (decimal i.operand) (decimal i.place) cx) ∙ number_decimal i.operand hx in
    let r4 : number (behind (behind (behind (written n i)))) ≡ Some i.place = ap number b3 ∙ number_decimal i.place hp in
    ap₂ (λ a b. assembled a b (number (first_word (behind (behind (written n i))))) (number (behind (behind (behind (written n i)))))) r1 r2
    ∙ ap₂ (λ a b. assembled (Some n) (Some i.operation) a b) r3 r4
