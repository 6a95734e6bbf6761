-- Bytes that begin no symbol, and what is wrong with them.
use Rattle.std.proofs.Common.{◌≡◌, ℕ, zero, suc, ◌<◌, ◌≤◌, Bool, true, false, cond, eqb, leb, ◌⊎◌, List, [], ◌∷◌, length, get_or, take, drop, ℤ, pos, Some, None, Ok, Err, Option, Result, sym, refl, ap, ◌∙◌, inl, inr, arith, leb→le}
use Rattle.std.proofs.lemmas.List.{length-take, length-take-le}
use Rattle.std.proofs.lemmas.Bool.{false≢true, both_ways, cases_Bool, cases_lt, and_from, and_parts, and_left, and_right, or_right, leb-false, ne_eqb}
use Rattle.faults.specs.declared.kind.FaultKind.{FaultKind}
use Rattle.faults.specs.declared.kind.FaultKind.TheVariants.{StrayByte, NumberTooLarge, OpenComment}
use Rattle.integer.specs.Ends.{integer, Within}
use Rattle.vocabulary.specs.declared.tag.Tag.{Tag}
use Rattle.vocabulary.specs.declared.tag.Tag.TheVariants.{Number}
use Rattle.vocabulary.specs.Characters.{letter, digit, alphanumeric, separator, run}
use Rattle.vocabulary.specs.Tags.{word_tag}
use Rattle.vocabulary.specs.Numbers.{number_value, judged}
use Rattle.vocabulary.specs.Signs.{single, double, sign_tag, narrow, wide, sign_of}
use Rattle.lexer.specs.Scan.{front_of, numbered, signed}
use Rattle.lexer.specs.Reading.{opening, Inside, all_alphanumeric, symbol_tag}
use Rattle.lexer.specs.Refusals.{Numeral, Unreadable}
use Rattle.lexer.specs.Refusals.Unreadable.{stray, malformed, large, unclosed}
use Rattle.lexer.proofs.Fronts.{none_some, err_same, err_ok}
use Rattle.lexer.proofs.Walks.{Halts}
use Rattle.lexer.proofs.Longest.{run_within, run_all, run_most, run_over, run_tagged, tag_word, tag_number, front_word, front_number, front_sign, sign_taken, separator_is, letter_no_digit, low_within}

-- the run that begins with a digit, and it alone, is the longest run of letters and digits there
run_numeral : (c : ℕ) (cs : List ℕ) → digit c ≡ true → Numeral (c ∷ cs) (c ∷ take (run cs) cs)
run_numeral c cs d =
    let size : length (take (run cs) cs) ≡ run cs = length-take-le (run cs) cs (run_within cs) in
    let all : alphanumeric c ≡ true = or_right (letter c) (digit c) d in
    record { front = ap (λ n. c ∷ take n cs) (sym size); first = d; whole = and_from (alphanumeric c) _ all (run_all cs); longest = over size }
  where
    over : length (take (run cs) cs) ≡ run cs → (n : ℕ) → suc (length (take (run cs) cs)) < n → n ≤ suc (length cs) → all_alphanumeric (take n (c ∷ cs)) ≡ false
    over size zero h k = absurd (omega arith)
    over size (suc n) h k = and_right (alphanumeric c) _ (run_over cs n (omega arith) (omega arith))

numeral_first : (xs text : List ℕ) → Numeral xs text → digit (get_or xs 0 0) ≡ true
numeral_first xs [] n = absurd (false≢true n.first)
numeral_first [] (t ∷ ts) n = let z : ◌≡◌ {A = ℕ} 0 1 = cc n.front in absurd (omega arith)
numeral_first (c ∷ cs) (t ∷ ts) n = let same : t ≡ c = cc n.front in rw (← same) n.first

numeral_run : (c : ℕ) (cs text : List ℕ) → Numeral (c ∷ cs) text → text ≡ c ∷ take (run cs) cs
numeral_run c cs [] n = absurd (false≢true n.first)
numeral_run c cs (t ∷ ts) n =
    let part : ts ≡ take (length ts) cs = cc n.front in
    let size : length ts ≤ length cs = omega (arith, ap length part ∙ length-take (length ts) cs) in
    let alone = and_parts (alphanumeric t) (all_alphanumeric ts) n.whole in
    let most = run_most cs (length ts) size (ap all_alphanumeric (sym part) ∙ alone.1) in
    let all = and_from (alphanumeric c) _ (or_right (letter c) (digit c) (numeral_first (c ∷ cs) (t ∷ ts) n)) (run_all cs) in
    elim (cases_lt (length ts) (run cs)) [
      | inl h ↦ absurd (both_ways _ (n.longest (suc (run cs)) (omega arith) (omega (arith, run_within cs))) all)
      | inr h ↦ let same : length ts ≡ run cs = omega arith in n.front ∙ ap (λ k. c ∷ take k cs) same
    ]

-- a number with no value, or with one that is no INTEGER
over_high : (n : ℕ) → leb n 32767 ≡ false → Within integer (pos n) → ⊥
over_high n e w = omega (arith, leb-false n 32767 e, leb→le n 32767 w.1.le)

large_by : {xs text : List ℕ} (b : Bool) (n : ℕ) (k : FaultKind) → leb n 32767 ≡ b → Numeral xs text → number_value text ≡ Some n → cond {A = Result ℤ FaultKind} b (Ok (pos n)) (Err NumberTooLarge) ≡ Err k → Unreadable k xs
large_by true n k e m v q = absurd (err_ok _ (sym q))
large_by false n k e m v q = rw (← err_same q) (large m v (over_high n e))

number_unreadable : {xs : List ℕ} (text : List ℕ) (o : Option ℕ) (k : FaultKind) → number_value text ≡ o → Numeral xs text → judged o ≡ Err k → Unreadable k xs
number_unreadable text None k v m q = rw (← err_same q) (malformed m v)
number_unreadable text (Some n) k v m q = large_by (leb n 32767) n k refl m v q

numbered_err : (n : ℕ) (r : Result ℤ FaultKind) (k : FaultKind) → numbered n r ≡ Err k → r ≡ Err k
numbered_err n (Ok z) k e = absurd (err_ok _ (sym e))
numbered_err n (Err x) k e = ap Err (err_same e)

-- no sign begins there
narrow_none : (o : Option Tag) → narrow o ≡ None → o ≡ None
narrow_none (Some tag) e = absurd (none_some _ (sym e))
narrow_none None e = refl

wide_none : (o : Option Tag) (other : Option (Tag × ℕ)) → wide o other ≡ None → (o ≡ None) × (other ≡ None)
wide_none (Some tag) other e = absurd (none_some _ (sym e))
wide_none None other e = (refl, e)

no_sign_one : (a : ℕ) → single a ≡ None → (n : ℕ) → sign_tag (take n (a ∷ [])) ≡ None
no_sign_one a e zero = refl
no_sign_one a e (suc zero) = e
no_sign_one a e (suc (suc n)) = e

no_sign_two : (a b : ℕ) (cs : List ℕ) → single a ≡ None → double a b ≡ None → (n : ℕ) → sign_tag (take n (a ∷ (b ∷ cs))) ≡ None
no_sign_two a b cs e k zero = refl
no_sign_two a b cs e k (suc zero) = e
no_sign_two a b cs e k (suc (suc zero)) = k
no_sign_two a b [] e k (suc (suc (suc n))) = k
no_sign_two a b (c ∷ cs) e k (suc (suc (suc n))) = refl

no_sign : (a : ℕ) (cs : List ℕ) → sign_of (a ∷ cs) ≡ None → (n : ℕ) → sign_tag (take n (a ∷ cs)) ≡ None
no_sign a [] e = no_sign_one a (narrow_none (single a) e)
no_sign a (b ∷ cs) e = let w = wide_none (double a b) _ e in no_sign_two a b cs (narrow_none (single a) w.1) w.0

sign_none : (a : ℕ) (cs : List ℕ) → ((n : ℕ) → sign_tag (take n (a ∷ cs)) ≡ None) → sign_of (a ∷ cs) ≡ None
sign_none a [] e = ap narrow (e 1)
sign_none a (b ∷ cs) e = rw (e 2, e 1) refl

signed_err : (o : Option (Tag × ℕ)) (k : FaultKind) → signed o ≡ Err k → (o ≡ None) × (StrayByte ≡ k)
signed_err (Some p) k e = absurd (err_ok p (sym e))
signed_err None k e = (refl, err_same e)

-- where the definition finds no symbol, the bytes are unreadable
pub front_unreadable : (xs : List ℕ) (k : FaultKind) → Halts xs → front_of xs ≡ Err k → Unreadable k xs
front_unreadable [] k h f = absurd (err_ok _ (sym f))
front_unreadable (c ∷ cs) k h f =
    elim (cases_Bool (letter c)) [
      | inl l ↦ absurd (err_ok _ (sym f ∙ front_word c cs l))
      | inr l ↦
          elim (cases_Bool (digit c)) [
            | inl d ↦
                number_unreadable (c ∷ take (run cs) cs) _ k refl (run_numeral c cs d) (numbered_err _ _ k (sym (front_number c cs l d) ∙ f))
            | inr d ↦
                let some : 0 < suc (length cs) = omega arith in
                let o = signed_err _ k (sym (front_sign c cs l d) ∙ f) in
                rw (← o.1) (stray {xs = c ∷ cs} some (λ n. sign_taken c cs l d n ∙ no_sign c cs o.0 n) h.1 h.0)
          ]
    ]

-- a digit is no separator and opens no comment
digit_no_separator : (c : ℕ) → digit c ≡ true → separator c ≡ false
digit_no_separator c d =
    elim (cases_Bool (separator c)) [
      | inl e ↦ absurd (separator_is (λ c. digit c ≡ true → ⊥) c e false≢true false≢true false≢true false≢true d)
      | inr e ↦ e
    ]

digit_halts : (xs : List ℕ) → digit (get_or xs 0 0) ≡ true → Halts xs
digit_halts [] d = (refl, refl)
digit_halts (c ∷ []) d = (refl, digit_no_separator c d)
digit_halts (c ∷ (b ∷ cs)) d =
    (and_left (eqb c 40) _ (ne_eqb c 40 (λ z. false≢true (rw z at d))), digit_no_separator c d)

-- at unreadable bytes that open no comment the definition finds no symbol
stray_front : (xs : List ℕ) → 0 < length xs → ((n : ℕ) → symbol_tag (take n xs) ≡ None) → front_of xs ≡ Err StrayByte
stray_front [] h u = absurd (omega arith)
stray_front (c ∷ cs) h u =
    elim (cases_Bool (letter c)) [
      | inl l ↦ absurd (none_some _ (sym (u (suc (run cs))) ∙ run_tagged word_tag c cs (tag_word c l)))
      | inr l ↦
          elim (cases_Bool (digit c)) [
            | inl d ↦ absurd (none_some _ (sym (u (suc (run cs))) ∙ run_tagged (λ _. Number) c cs (tag_number c l d)))
            | inr d ↦ front_sign c cs l d ∙ ap signed (sign_none c cs (λ n. sym (sign_taken c cs l d n) ∙ u n))
          ]
    ]

number_front : (xs text : List ℕ) (k : FaultKind) → Numeral xs text → judged (number_value text) ≡ Err k → front_of xs ≡ Err k
number_front [] text k n j = absurd (false≢true (numeral_first [] text n))
number_front (c ∷ cs) text k n j =
    let d = numeral_first (c ∷ cs) text n in
    elim (cases_Bool (letter c)) [
      | inl l ↦ absurd (letter_no_digit c l d)
      | inr l ↦ front_number c cs l d ∙ ap (λ t. numbered (suc (run cs)) (judged (number_value t))) (sym (numeral_run c cs text n)) ∙ ap (numbered (suc (run cs))) j
    ]

outside_judged : (n : ℕ) → (Within integer (pos n) → ⊥) → judged (Some n) ≡ Err NumberTooLarge
outside_judged n out =
    elim (cases_Bool (leb n 32767)) [
      | inl e ↦ absurd (out (low_within n e))
      | inr e ↦ rw e refl
    ]

pub unreadable_front : {k : FaultKind} {xs : List ℕ} → Unreadable k xs → ((k ≡ OpenComment) × (opening xs ≡ true) × ((n : ℕ) → Inside 1 (take n (drop 2 xs)) → ⊥)) ⊎ (Halts xs × (front_of xs ≡ Err k))
unreadable_front (stray {xs} h u s o) = inr ((o, s), stray_front xs h u)
unreadable_front (malformed {xs} {text} n v) = inr (digit_halts xs (numeral_first xs text n), number_front xs text _ n (ap judged v))
unreadable_front (large {xs} {text} {n} m v out) =
    inr (digit_halts xs (numeral_first xs text m), number_front xs text _ m (ap judged v ∙ outside_judged n out))
unreadable_front (unclosed o n) = inl (refl, o, n)
