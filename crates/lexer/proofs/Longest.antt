-- The symbol in front of bytes is the longest word, number or sign that they begin with.
use Rattle.std.proofs.Common.{◌≡◌, ℕ, zero, suc, ◌+◌, ◌-◌, ◌<◌, ◌≤◌, Bool, true, false, cond, ◌&&◌, eqb, leb, ◌⊎◌, List, [], ◌∷◌, length, get_or, take, ℤ, pos, Some, None, Ok, Err, Option, Result, sym, refl, ap, ◌∙◌, inl, inr, one-add, arith, leb→le}
use lib.Signed.{le_z_yes}
use Rattle.std.proofs.lemmas.Bool.{and_parts, or_cases, or_left, or_right, eqb-true, cases_Bool, cases_lt, both_ways, le-leb, cond-true, cond-false}
use Rattle.std.proofs.lemmas.Bool.Decides.{nat_tests}
use Rattle.faults.specs.declared.kind.FaultKind.{FaultKind}
use Rattle.faults.specs.declared.kind.FaultKind.TheVariants.{NumberTooLarge, StrayByte}
use Rattle.integer.specs.Ends.{integer, Within}
use Rattle.vocabulary.specs.declared.tag.Tag.{Tag}
use Rattle.vocabulary.specs.declared.tag.Tag.TheVariants.{Number}
use Rattle.vocabulary.specs.Characters.{letter, digit, alphanumeric, separator, run}
use Rattle.vocabulary.specs.Tags.{word_tag}
use Rattle.vocabulary.specs.Numbers.{number_value, judged}
use Rattle.vocabulary.specs.Signs.{single, double, sign_tag, wide, narrow, sign_of}
use Rattle.lexer.specs.Scan.{front_of, numbered, signed}
use Rattle.lexer.specs.Reading.{all_alphanumeric, only, symbol_tag}
use Rattle.lexer.proofs.Fronts.{some_same, none_some, ok_same, err_ok}

-- a run lies in the bytes, has only letters and digits, and is the longest such
pub run_within : (cs : List ℕ) → run cs ≤ length cs
run_within [] = omega arith
run_within (c ∷ cs) =
    let ih = run_within cs in
    elim (alphanumeric c) as (λ b. cond b (1 + run cs) 0 ≤ suc (length cs)) [ true ↦ omega arith | false ↦ omega arith ]

run_more : (c : ℕ) (cs : List ℕ) → alphanumeric c ≡ true → run (c ∷ cs) ≡ suc (run cs)
run_more c cs e = rw (e, one-add (run cs)) refl

run_none : (c : ℕ) (cs : List ℕ) → alphanumeric c ≡ false → run (c ∷ cs) ≡ 0
run_none c cs e = rw e refl

pub run_all : (cs : List ℕ) → all_alphanumeric (take (run cs) cs) ≡ true
run_all [] = refl
run_all (c ∷ cs) =
    elim (cases_Bool (alphanumeric c)) [
      | inl e ↦ rw (run_more c cs e) (rw e (run_all cs))
      | inr e ↦ rw (run_none c cs e) refl
    ]

pub run_most : (cs : List ℕ) (n : ℕ) → n ≤ length cs → all_alphanumeric (take n cs) ≡ true → n ≤ run cs
run_most cs zero h e = omega arith
run_most [] (suc n) h e = omega arith
run_most (c ∷ cs) (suc n) h e =
    let p = and_parts (alphanumeric c) (all_alphanumeric (take n cs)) e in
    let ih = run_most cs n (omega arith) p.1 in
    rw (run_more c cs p.0) (omega arith)

pub run_over : (cs : List ℕ) (n : ℕ) → run cs < n → n ≤ length cs → all_alphanumeric (take n cs) ≡ false
run_over cs n h k =
    elim (cases_Bool (all_alphanumeric (take n cs))) [
      | inl e ↦ absurd (omega (arith, run_most cs n k e))
      | inr e ↦ e
    ]

-- the symbol in front of bytes: its tag and its length
pub record Longest (xs : List ℕ) (tag : Tag) (n : ℕ) : Type 0 where
  pub within : n ≤ length xs
  pub tagged : symbol_tag (take n xs) ≡ Some tag
  pub longest : (m : ℕ) → n < m → m ≤ length xs → symbol_tag (take m xs) ≡ None
  pub valued : digit (get_or (take n xs) 0 0) ≡ true → (v : ℕ) × (number_value (take n xs) ≡ Some v) × Within integer (pos v)

only_some : (b : Bool) (tag t : Tag) → only b tag ≡ Some t → (b ≡ true) × (tag ≡ t)
only_some true tag t e = (refl, some_same e)
only_some false tag t e = absurd (none_some t e)

-- words and numbers: the first byte says that any run of letters and digits is one, with a tag by its text
module _ (tagBy : List ℕ → Tag) (c : ℕ) (cs : List ℕ) (so : (ks : List ℕ) → symbol_tag (c ∷ ks) ≡ only (all_alphanumeric ks) (tagBy (c ∷ ks))) where
  pub run_tagged : symbol_tag (c ∷ take (run cs) cs) ≡ Some (tagBy (c ∷ take (run cs) cs))
  run_tagged = so (take (run cs) cs) ∙ rw (run_all cs) refl

  run_longest : (m : ℕ) → suc (run cs) < m → m ≤ suc (length cs) → symbol_tag (take m (c ∷ cs)) ≡ None
  run_longest zero h k = absurd (omega arith)
  run_longest (suc m) h k = so (take m cs) ∙ rw (run_over cs m (omega arith) (omega arith)) refl

  run_only : (tag : Tag) (n : ℕ) → Longest (c ∷ cs) tag n → (n ≡ suc (run cs)) × (tag ≡ tagBy (c ∷ take (run cs) cs))
  run_only tag zero l = absurd (none_some tag l.tagged)
  run_only tag (suc m) l =
      let o = only_some _ _ tag (sym (so (take m cs)) ∙ l.tagged) in
      let most = run_most cs m (omega (arith, l.within)) o.0 in
      elim (cases_lt m (run cs)) [
        | inl h ↦ absurd (none_some _ (sym (l.longest (suc (run cs)) (omega arith) (omega (arith, run_within cs))) ∙ run_tagged))
        | inr h ↦
            let same : m ≡ run cs = omega arith in
            (ap suc same, sym o.1 ∙ ap (λ k. tagBy (c ∷ take k cs)) same)
      ]

-- the classes of a first byte
pub letter_no_digit : (c : ℕ) → letter c ≡ true → digit c ≡ true → ⊥
letter_no_digit c e k =
    let d = and_parts (leb 48 c) (leb c 57) k in
    elim (or_cases (leb 65 c && leb c 90) (leb 97 c && leb c 122) e) [
      | inl l ↦ let p = and_parts (leb 65 c) (leb c 90) l in grind (arith, nat_tests)
      | inr l ↦ let p = and_parts (leb 97 c) (leb c 122) l in grind (arith, nat_tests)
    ]

pub tag_word : (c : ℕ) → letter c ≡ true → (ks : List ℕ) → symbol_tag (c ∷ ks) ≡ only (all_alphanumeric ks) (word_tag (c ∷ ks))
tag_word c e ks = rw e refl

pub tag_number : (c : ℕ) → letter c ≡ false → digit c ≡ true → (ks : List ℕ) → symbol_tag (c ∷ ks) ≡ only (all_alphanumeric ks) Number
tag_number c l e ks = rw (l, e) refl

tag_sign : (c : ℕ) → letter c ≡ false → digit c ≡ false → (ks : List ℕ) → symbol_tag (c ∷ ks) ≡ sign_tag (c ∷ ks)
tag_sign c l e ks = rw (l, e) refl

pub front_word : (c : ℕ) (cs : List ℕ) → letter c ≡ true → front_of (c ∷ cs) ≡ Ok (word_tag (c ∷ take (run cs) cs), suc (run cs))
front_word c cs e =
    let more = run_more c cs (or_left (letter c) (digit c) e) in
    cond-true (letter c) _ _ e ∙ ap {B = Result (Tag × ℕ) FaultKind} (λ r. Ok (word_tag (take r (c ∷ cs)), r)) more

pub front_number : (c : ℕ) (cs : List ℕ) → letter c ≡ false → digit c ≡ true → front_of (c ∷ cs) ≡ numbered (suc (run cs)) (judged (number_value (c ∷ take (run cs) cs)))
front_number c cs l e =
    let more = run_more c cs (or_right (letter c) (digit c) e) in
    cond-false (letter c) _ _ l ∙ cond-true (digit c) _ _ e ∙ ap (λ r. numbered r (judged (number_value (take r (c ∷ cs))))) more

pub front_sign : (c : ℕ) (cs : List ℕ) → letter c ≡ false → digit c ≡ false → front_of (c ∷ cs) ≡ signed (sign_of (c ∷ cs))
front_sign c cs l e = cond-false (letter c) _ _ l ∙ cond-false (digit c) _ _ e

-- a number is accepted exactly if it stands for an INTEGER
pub low_within : (n : ℕ) → leb n 32767 ≡ true → Within integer (pos n)
low_within n e = (le_z_yes tt, le_z_yes (rw e tt))

judged_by : (b : Bool) (n : ℕ) (z : ℤ) → leb n 32767 ≡ b → cond b (Ok (pos n)) (Err NumberTooLarge) ≡ Ok z → Within integer (pos n)
judged_by true n z e k = low_within n e
judged_by false n z e k = absurd (err_ok z k)

judged_value : (o : Option ℕ) (z : ℤ) → judged o ≡ Ok z → (v : ℕ) × (o ≡ Some v) × Within integer (pos v)
judged_value None z e = absurd (err_ok z e)
judged_value (Some n) z e = (n, refl, judged_by (leb n 32767) n z refl e)

value_judged : (n : ℕ) → Within integer (pos n) → judged (Some n) ≡ Ok (pos n)
value_judged n w = rw (le-leb n 32767 (leb→le n 32767 w.1.le)) refl

numbered_ok : (n : ℕ) (r : Result ℤ FaultKind) (p : Tag × ℕ) → numbered n r ≡ Ok p → (z : ℤ) × (r ≡ Ok z) × ((Number, n) ≡ p)
numbered_ok n (Ok z) p e = (z, refl, ok_same e)
numbered_ok n (Err k) p e = absurd (err_ok p e)

word_longest : (c : ℕ) (cs : List ℕ) → letter c ≡ true → (p : Tag × ℕ) → front_of (c ∷ cs) ≡ Ok p → Longest (c ∷ cs) p.0 p.1
word_longest c cs e p f =
    rw (← ok_same (sym (front_word c cs e) ∙ f))
    record { within = omega (arith, run_within cs); tagged = run_tagged word_tag c cs (tag_word c e); longest = run_longest word_tag c cs (tag_word c e); valued = λ d. absurd (letter_no_digit c e d) }

number_longest : (c : ℕ) (cs : List ℕ) → letter c ≡ false → digit c ≡ true → (p : Tag × ℕ) → front_of (c ∷ cs) ≡ Ok p → Longest (c ∷ cs) p.0 p.1
number_longest c cs l e p f =
    let n = numbered_ok _ _ p (sym (front_number c cs l e) ∙ f) in
    rw (← n.2)
    record { within = omega (arith, run_within cs); tagged = run_tagged (λ _. Number) c cs (tag_number c l e); longest = run_longest (λ _. Number) c cs (tag_number c l e); valued = λ d. judged_value _ n.0 n.1 }

longest_word : (c : ℕ) (cs : List ℕ) → letter c ≡ true → (tag : Tag) (n : ℕ) → Longest (c ∷ cs) tag n → front_of (c ∷ cs) ≡ Ok (tag, n)
longest_word c cs e tag n l =
    let o = run_only word_tag c cs (tag_word c e) tag n l in
    rw (o.0, o.1) (front_word c cs e)

longest_number : (c : ℕ) (cs : List ℕ) → letter c ≡ false → digit c ≡ true → (tag : Tag) (n : ℕ) → Longest (c ∷ cs) tag n → front_of (c ∷ cs) ≡ Ok (tag, n)
longest_number c cs k e tag n l =
    let o = run_only (λ _. Number) c cs (tag_number c k e) tag n l in
    let text : take n (c ∷ cs) ≡ c ∷ take (run cs) cs = ap (λ m. take m (c ∷ cs)) o.0 in
    let v = l.valued (rw text e) in
    let value : number_value (c ∷ take (run cs) cs) ≡ Some v.0 = ap number_value (sym text) ∙ v.1 in
    front_number c cs k e ∙ rw (value, value_judged v.0 v.2, o.0, o.1) refl

-- signs have one byte or two
narrow_some : (o : Option Tag) (p : Tag × ℕ) → narrow o ≡ Some p → (o ≡ Some p.0) × (p.1 ≡ 1)
narrow_some (Some tag) p e = let q = some_same e in (ap (λ r. Some r.0) q, ap (λ r. r.1) (sym q))
narrow_some None p e = absurd (none_some p e)

wide_some : (o : Option Tag) (other : Option (Tag × ℕ)) (p : Tag × ℕ) → wide o other ≡ Some p → ((o ≡ Some p.0) × (p.1 ≡ 2)) ⊎ ((o ≡ None) × (other ≡ Some p))
wide_some (Some tag) other p e = let q = some_same e in inl (ap (λ r. Some r.0) q, ap (λ r. r.1) (sym q))
wide_some None other p e = inr (refl, e)

three_none : (a b : ℕ) (cs : List ℕ) (m : ℕ) → 2 < m → m ≤ length (a ∷ (b ∷ cs)) → sign_tag (take m (a ∷ (b ∷ cs))) ≡ None
three_none a b [] m h k = absurd (omega arith)
three_none a b (c ∷ cs) m h k = let n : m ≡ suc (suc (suc (m - 3))) = omega arith in rw n refl

-- the longest sign in front of bytes
record LongestSign (xs : List ℕ) (tag : Tag) (n : ℕ) : Type 0 where
  pub within : n ≤ length xs
  pub tagged : sign_tag (take n xs) ≡ Some tag
  pub longest : (m : ℕ) → n < m → m ≤ length xs → sign_tag (take m xs) ≡ None

one_sign : (a b : ℕ) (cs : List ℕ) (p : Tag × ℕ) → double a b ≡ None → (single a ≡ Some p.0) × (p.1 ≡ 1) → LongestSign (a ∷ (b ∷ cs)) p.0 p.1
one_sign a b cs p d s =
    rw s.1 record {
      within = omega arith;
      tagged = s.0;
      longest = λ m h k.
          elim (cases_lt 2 m) [ inl g ↦ three_none a b cs m g k | inr g ↦ let n : m ≡ 2 = omega arith in rw n d ];
    }

two_sign : (a b : ℕ) (cs : List ℕ) (p : Tag × ℕ) → (double a b ≡ Some p.0) × (p.1 ≡ 2) → LongestSign (a ∷ (b ∷ cs)) p.0 p.1
two_sign a b cs p s =
    rw s.1 record { within = omega arith; tagged = s.0; longest = three_none a b cs }

sign_longest : (a : ℕ) (cs : List ℕ) (p : Tag × ℕ) → sign_of (a ∷ cs) ≡ Some p → LongestSign (a ∷ cs) p.0 p.1
sign_longest a [] p e =
    let s = narrow_some (single a) p e in
    rw s.1 record { within = omega arith; tagged = s.0; longest = λ m h k. absurd (omega arith) }
sign_longest a (b ∷ cs) p e =
    elim (wide_some (double a b) (narrow (single a)) p e) [
      | inl s ↦ two_sign a b cs p s
      | inr s ↦ one_sign a b cs p s.0 (narrow_some (single a) p s.1)
    ]

longest_sign : (a : ℕ) (cs : List ℕ) (tag : Tag) (n : ℕ) → LongestSign (a ∷ cs) tag n → sign_of (a ∷ cs) ≡ Some (tag, n)
longest_sign a [] tag zero l = absurd (none_some tag l.tagged)
longest_sign a [] tag (suc zero) l = rw l.tagged refl
longest_sign a [] tag (suc (suc n)) l = absurd (omega (arith, l.within))
longest_sign a (b ∷ cs) tag zero l = absurd (none_some tag l.tagged)
longest_sign a (b ∷ cs) tag (suc zero) l = rw (l.longest 2 (omega arith) (omega arith), l.tagged) refl
longest_sign a (b ∷ cs) tag (suc (suc zero)) l = rw l.tagged refl
longest_sign a (b ∷ cs) tag (suc (suc (suc n))) l =
    absurd (none_some tag (sym (three_none a b cs (suc (suc (suc n))) (omega arith) l.within) ∙ l.tagged))

-- at a byte that is no letter and no digit there is a sign or nothing
module _ (c : ℕ) (cs : List ℕ) (l : letter c ≡ false) (d : digit c ≡ false) where
  pub sign_taken : (n : ℕ) → symbol_tag (take n (c ∷ cs)) ≡ sign_tag (take n (c ∷ cs))
  sign_taken zero = refl
  sign_taken (suc n) = tag_sign c l d (take n cs)

  sign_no_digit : (n : ℕ) → digit (get_or (take n (c ∷ cs)) 0 0) ≡ false
  sign_no_digit zero = refl
  sign_no_digit (suc n) = d

  longest_of_sign : (tag : Tag) (n : ℕ) → LongestSign (c ∷ cs) tag n → Longest (c ∷ cs) tag n
  longest_of_sign tag n s =
      record { within = s.within; tagged = sign_taken n ∙ s.tagged; longest = λ m h k. sign_taken m ∙ s.longest m h k; valued = λ e. absurd (both_ways _ (sign_no_digit n) e) }

  sign_of_longest : (tag : Tag) (n : ℕ) → Longest (c ∷ cs) tag n → LongestSign (c ∷ cs) tag n
  sign_of_longest tag n s =
      record { within = s.within; tagged = sym (sign_taken n) ∙ s.tagged; longest = λ m h k. sym (sign_taken m) ∙ s.longest m h k }

  signed_longest : (o : Option (Tag × ℕ)) (p : Tag × ℕ) → sign_of (c ∷ cs) ≡ o → signed o ≡ Ok p → Longest (c ∷ cs) p.0 p.1
  signed_longest (Some q) p e f = longest_of_sign _ _ (sign_longest c cs p (e ∙ ap Some (ok_same f)))
  signed_longest None p e f = absurd (err_ok p f)

-- the front of bytes is their longest symbol
pub front_longest : (xs : List ℕ) (p : Tag × ℕ) → 0 < length xs → front_of xs ≡ Ok p → Longest xs p.0 p.1
front_longest [] p h f = absurd (omega arith)
front_longest (c ∷ cs) p h f =
    elim (cases_Bool (letter c)) [
      | inl l ↦ word_longest c cs l p f
      | inr l ↦
          elim (cases_Bool (digit c)) [
            | inl d ↦ number_longest c cs l d p f
            | inr d ↦ signed_longest c cs l d (sign_of (c ∷ cs)) p refl (sym (front_sign c cs l d) ∙ f)
          ]
    ]

-- and their longest symbol is their front
pub longest_front : (xs : List ℕ) (tag : Tag) (n : ℕ) → Longest xs tag n → front_of xs ≡ Ok (tag, n)
longest_front [] tag zero s = absurd (none_some tag s.tagged)
longest_front [] tag (suc n) s = absurd (none_some tag s.tagged)
longest_front (c ∷ cs) tag n s =
    elim (cases_Bool (letter c)) [
      | inl l ↦ longest_word c cs l tag n s
      | inr l ↦
          elim (cases_Bool (digit c)) [
            | inl d ↦ longest_number c cs l d tag n s
            | inr d ↦ front_sign c cs l d ∙ ap signed (longest_sign c cs tag n (sign_of_longest c cs l d tag n s))
          ]
    ]

-- a separator is one of four bytes, and no symbol begins with it
pub separator_is : (P : ℕ → Type 0) (c : ℕ) → separator c ≡ true → P 32 → P 9 → P 10 → P 13 → P c
separator_is P c e p q r s =
    elim (or_cases (eqb c 32) _ e) [
      | inl h ↦ rw (eqb-true c 32 h) p
      | inr e ↦
          elim (or_cases (eqb c 9) _ e) [
            | inl h ↦ rw (eqb-true c 9 h) q
            | inr e ↦
                elim (or_cases (eqb c 10) _ e) [
                  | inl h ↦ rw (eqb-true c 10 h) r
                  | inr h ↦ rw (eqb-true c 13 h) s
                ]
          ]
    ]

separator_stray : (c : ℕ) (cs : List ℕ) → separator c ≡ true → front_of (c ∷ cs) ≡ Err StrayByte
separator_stray c [] e = separator_is (λ c. front_of (c ∷ []) ≡ Err StrayByte) c e refl refl refl refl
separator_stray c (b ∷ cs) e = separator_is (λ c. front_of (c ∷ (b ∷ cs)) ≡ Err StrayByte) c e refl refl refl refl

pub longest_apart : (xs : List ℕ) (tag : Tag) (n : ℕ) → Longest xs tag n → separator (get_or xs 0 0) ≡ false
longest_apart [] tag n s = refl
longest_apart (c ∷ cs) tag n s =
    elim (cases_Bool (separator c)) [
      | inl e ↦ absurd (err_ok _ (sym (separator_stray c cs e) ∙ longest_front (c ∷ cs) tag n s))
      | inr e ↦ e
    ]
