-- Words taken, left, read and stored, in terms of a memory's fields.
use Rattle.std.proofs.Common.{◌≡◌, ℕ, zero, suc, ◌+◌, ◌-◌, ◌<◌, ◌≤◌, true, cond, ltb, leb, List, [], ◌∷◌, ◌++◌, reverse, length, get_or, slice_get, take, drop, set, replicate, ℤ, pos, ok_or, sym, refl, ap, ◌∙◌, ap₂, inl, inr, add-one, arith, length-drop, append_assoc}
use Rattle.std.proofs.lemmas.List.{get_or-set_same, length-take-le, length-replicate, drop-set-add, drop-drop, take-set-le, drop-take, drop-append-le}
use Rattle.std.proofs.lemmas.Option.{slice_get-get_or, slice_get_past}
use Rattle.std.proofs.lemmas.Slice.{take-put_mid, take-put_mid_below}
use Rattle.std.proofs.lemmas.Bool.{lt-ltb, le-ltb, le-leb, lt-leb, cond-true, cond-false, cases_lt}
use borrow.Rule.Slice.PartMut.{put_mid}
use Rattle.instructions.specs.declared.answers.Fault.{Fault}
use Rattle.instructions.specs.declared.answers.Fault.TheVariants.{Broken, Trap}
use Rattle.instructions.specs.declared.answers.Trap.TheVariants.{Activations}
use Rattle.instructions.specs.State.{State, size, operating}
use Rattle.instructions.specs.Moves.{ok, fail, pulled, pull, push, operand, replaced, replace, variable, store_variable, global, store_global, open_activation, close_activation, closed, make_variables}
use Rattle.memory.specs.declared.activation.Activation.{Activation}
use Rattle.memory.specs.declared.store.Memory.TheInside.{Inside}
use Rattle.memory.specs.Seen.{down, caller_of, callers_of, seen, Sound}
use Rattle.memory.specs.Nested.{blank}
use Rattle.memory.proofs.Rows.{callers_later, drop_down, take_down, reverse_down, take_both, length_callers, length_down, words_same, callers_same, down_set, down_last, get_or_down}

-- a word of a list, or a failure where there is none
word_is : (xs : List ℤ) (e : Fault) (i : ℕ) (c : State) → cond (ltb i (length xs)) (ok (get_or xs i (pos 0)) c) (fail e c) ≡ record { result = ok_or (slice_get xs i) e; state = c }
word_is xs e i c =
    elim (cases_lt i (length xs)) [
      | inl h ↦ cond-true _ _ _ (lt-ltb i (length xs) h) ∙ ap (λ o. record { result = ok_or o e; state = c }) (sym (slice_get-get_or xs i (pos 0) h))
      | inr h ↦ cond-false _ _ _ (le-ltb i (length xs) h) ∙ ap (λ o. record { result = ok_or o e; state = c }) (sym (slice_get_past xs i h))
    ]

pub global_is : (e : Fault) (i : ℕ) (c : State) → length c.globals ≡ 1024 → global e i c ≡ record { result = ok_or (slice_get c.globals i) e; state = c }
unfolding global
global_is e i c l = ap (λ n. cond (ltb i n) (ok (get_or c.globals i (pos 0)) c) (fail e c)) (sym l) ∙ word_is c.globals e i c

pub variable_is : (e : Fault) (i : ℕ) (c : State) → variable e i c ≡ record { result = ok_or (slice_get c.words.variables i) e; state = c }
unfolding variable
variable_is e i c = word_is c.words.variables e i c

module _ (m : Inside) where
  pub pull_none : m.operands ≡ 0 → pull (seen m) ≡ fail Broken (seen m)
  unfolding pull
  pull_none e = rw e refl

  pub pull_some : (y : ℤ) → 0 < m.operands → y ≡ get_or m.words (m.base + m.variables + (m.operands - 1)) (pos 0) → pull (seen m) ≡ ok y (seen (record m { operands = m.operands - 1 }))
  unfolding pull
  pull_some y h e = ap (λ xs. pulled xs (seen m)) (down_last m.words (m.base + m.variables) m.operands h) ∙ ap (λ z. ok z (seen (record m { operands = m.operands - 1 }))) (sym e)

  pub operand_there : (n : ℕ) (y : ℤ) → n < m.operands → y ≡ get_or m.words (m.base + m.variables + (m.operands - 1 - n)) (pos 0) → operand n (seen m) ≡ ok y (seen m)
  unfolding operand
  operand_there n y h e =
      cond-true _ _ _ (ap (ltb n) (length_down m.words (m.base + m.variables) m.operands) ∙ lt-ltb n m.operands h)
      ∙ ap (λ x. ok x (seen m)) (get_or_down m.words (m.base + m.variables) m.operands n h ∙ sym e)

  pub operand_absent : (n : ℕ) → m.operands ≤ n → operand n (seen m) ≡ fail Broken (seen m)
  unfolding operand
  operand_absent n h = cond-false _ _ _ (ap (ltb n) (length_down m.words (m.base + m.variables) m.operands) ∙ le-ltb n m.operands h)

  pub replace_none : (z : ℤ) → m.operands ≡ 0 → seen m ≡ replace z (seen m)
  unfolding replace
  replace_none z e = rw e refl

  pub store_global_there : (e : Fault) (i : ℕ) (x y : ℤ) → y ≡ x → i < 1024 → store_global e i x (seen m) ≡ ok tt (seen (record m { globals = set m.globals i y }))
  unfolding store_global
  store_global_there e i x y q h = cond-true _ _ _ (lt-ltb i 1024 h) ∙ ap (λ z. ok tt (seen (record m { globals = set m.globals i z }))) (sym q)

  pub store_global_absent : (e : Fault) (i : ℕ) (x : ℤ) → 1024 ≤ i → store_global e i x (seen m) ≡ fail e (seen m)
  unfolding store_global
  store_global_absent e i x h = cond-false _ _ _ (le-ltb i 1024 h)

  pub open_short : (k t : ℕ) → m.operands < k → open_activation k t (seen m) ≡ fail Broken (seen m)
  unfolding open_activation
  open_short k t h = cond-false _ _ _ (ap (leb k) (length_down m.words (m.base + m.variables) m.operands) ∙ lt-leb k m.operands h)

  enough : (k : ℕ) → k ≤ m.operands → leb k (length (down m.words (m.base + m.variables) m.operands)) ≡ true
  enough k h = ap (leb k) (length_down m.words (m.base + m.variables) m.operands) ∙ le-leb k m.operands h

  pub open_deep : (cs : List Activation) (k t : ℕ) → cs ≡ m.callers → k ≤ m.operands → 32 ≤ m.depth → open_activation k t (seen m) ≡ fail (Trap Activations) (seen (record m { callers = cs }))
  unfolding open_activation
  open_deep cs k t q h l = cond-true _ _ _ (enough k h) ∙ cond-false _ _ _ (ap (λ n. ltb n 32) (length_callers m.words m.callers m.depth) ∙ le-ltb m.depth 32 l) ∙ ap (λ c. fail (Trap Activations) (seen (record m { callers = c }))) (sym q)

  -- the record of an activation that keeps its operands but the last k
  abbrev pub suspended : ℕ → Activation
  suspended k = record { resume = m.pc; base = m.base; variables = m.variables; operands = m.operands - k }

  pub close_none : (cs : List Activation) → cs ≡ m.callers → m.depth ≡ 0 → close_activation (seen m) ≡ fail Broken (seen (record m { callers = cs }))
  unfolding close_activation
  close_none cs q e = ap (λ n. closed (callers_of m.words m.callers n) (seen m)) e ∙ ap (λ k. fail Broken (seen (record m { callers = k }))) (sym q)

  pub close_some : (cs : List Activation) (a : Activation) → cs ≡ m.callers → 0 < m.depth → a ≡ get_or m.callers (m.depth - 1) blank
      → close_activation (seen m) ≡ ok tt (seen (record m { callers = cs; depth = m.depth - 1; base = a.base; variables = a.variables; operands = a.operands; pc = a.resume }))
  unfolding close_activation
  close_some cs a q h e =
      ap (λ ks. closed ks (seen m)) (last m.depth h)
      ∙ ap₂ (λ k x. ok tt (seen (record m { callers = k; depth = m.depth - 1; base = x.base; variables = x.variables; operands = x.operands; pc = x.resume }))) (sym q) (sym e)
    where
      last : (n : ℕ) → 0 < n → callers_of m.words m.callers n ≡ caller_of m.words (get_or m.callers (n - 1) blank) ∷ callers_of m.words m.callers (n - 1)
      last zero h = absurd (omega arith)
      last (suc n) h = let q : suc n - 1 ≡ n = omega arith in rw q refl

-- a memory whose words have room
module _ (m : Inside) (s : Sound m) (l : length m.words ≡ 8448) where
  inside : m.base + m.variables + m.operands ≤ length m.words
  inside = omega arith

  length_variables : length (take m.variables (drop m.base m.words)) ≡ m.variables
  length_variables = length-take-le m.variables (drop m.base m.words) (omega (arith, length-drop m.base m.words))

  sized : size (seen m).words ≡ m.variables + m.operands
  sized = ap₂ ◌+◌ length_variables (length_down m.words (m.base + m.variables) m.operands)

  -- writes at k or above leave the waiting activations
  waiting : (ws : List ℤ) (k : ℕ) → m.base ≤ k → take k ws ≡ take k m.words → callers_of ws m.callers m.depth ≡ callers_of m.words m.callers m.depth
  waiting ws k h e = callers_same ws m.words m.callers m.depth m.base k e h s.ordered

  pub push_full : (x : ℤ) → 256 ≤ m.variables + m.operands → push x (seen m) ≡ fail Broken (seen m)
  unfolding push
  push_full x h = cond-false _ _ _ (ap (λ n. ltb n 256) sized ∙ le-ltb (m.variables + m.operands) 256 h)

  pub push_room : (x y : ℤ) → y ≡ x → m.variables + m.operands < 256
      → push x (seen m) ≡ ok tt (seen (record m { words = set m.words (m.base + m.variables + m.operands) y; operands = m.operands + 1 }))
  unfolding push
  push_room x y e h =
      let j = m.base + m.variables + m.operands in
      let ws = set m.words j x in
      let below : m.base ≤ j = omega arith in
      let long : j < length m.words = omega arith in
      let q : take j ws ≡ take j m.words = take-set-le j m.words j x (omega arith) in
      let w = words_same ws m.words j m.base m.variables m.operands q (omega arith) in
      let os : down ws (m.base + m.variables) (m.operands + 1) ≡ x ∷ down m.words (m.base + m.variables) m.operands =
      rw add-one (ap₂ ◌∷◌ (get_or-set_same m.words j x (pos 0) long) (ap (λ v. v.operands) w)) in
      cond-true _ _ _ (ap (λ k. ltb k 256) sized ∙ lt-ltb (m.variables + m.operands) 256 h)
      ∙ ap (ok tt) (sym (ap₂ (λ v k. record { globals = m.globals; words = v; callers = k; pc = m.pc; status = m.status }) (ap₂ (λ p q. record { variables = p; operands = q }) (ap (λ v. v.variables) w) os) (waiting ws j below q)))
      ∙ ap (λ z. ok tt (seen (record m { words = set m.words j z; operands = m.operands + 1 }))) (sym e)

  pub replace_some : (z y : ℤ) → y ≡ z → 0 < m.operands → seen (record m { words = set m.words (m.base + m.variables + (m.operands - 1)) y }) ≡ replace z (seen m)
  unfolding replace
  replace_some z y e h =
      let j = m.base + m.variables + (m.operands - 1) in
      let ws = set m.words j z in
      let below : m.base ≤ j = omega arith in
      let long : j < length m.words = omega arith in
      let q : take j ws ≡ take j m.words = take-set-le j m.words j z (omega arith) in
      let w = words_same ws m.words j m.base m.variables (m.operands - 1) q (omega arith) in
      let os : down ws (m.base + m.variables) m.operands ≡ z ∷ down m.words (m.base + m.variables) (m.operands - 1) =
      down_last ws (m.base + m.variables) m.operands h ∙ ap₂ ◌∷◌ (get_or-set_same m.words j z (pos 0) long) (ap (λ v. v.operands) w) in
      ap (λ x. seen (record m { words = set m.words j x })) e
      ∙ ap₂ (λ v k. record { globals = m.globals; words = v; callers = k; pc = m.pc; status = m.status }) (ap₂ (λ p q. record { variables = p; operands = q }) (ap (λ v. v.variables) w) os) (waiting ws j below q)
      ∙ ap (λ xs. operating (replaced z xs) (seen m)) (sym (down_last m.words (m.base + m.variables) m.operands h))

  take_set : (n i : ℕ) (x : ℤ) (xs : List ℤ) → take n (set xs i x) ≡ set (take n xs) i x
  take_set zero i x xs = refl
  take_set (suc n) i x [] = refl
  take_set (suc n) zero x (y ∷ ys) = refl
  take_set (suc n) (suc i) x (y ∷ ys) = ap (λ r. y ∷ r) (take_set n i x ys)

  pub store_there : (e : Fault) (i : ℕ) (x y : ℤ) → y ≡ x → i < m.variables → store_variable e i x (seen m) ≡ ok tt (seen (record m { words = set m.words (m.base + i) y }))
  unfolding store_variable
  store_there e i x y q h =
      let j = m.base + i in
      let ws = set m.words j x in
      let below : m.base ≤ m.base = omega arith in
      let vs : take m.variables (drop m.base ws) ≡ set (take m.variables (drop m.base m.words)) i x = ap (take m.variables) (drop-set-add m.base m.words i x) ∙ take_set m.variables i x (drop m.base m.words) in
      let os : down ws (m.base + m.variables) m.operands ≡ down m.words (m.base + m.variables) m.operands = down_set m.words (m.base + m.variables) m.operands j x (inl (omega arith)) in
      cond-true _ _ _ (ap (ltb i) length_variables ∙ lt-ltb i m.variables h)
      ∙ ap (ok tt) (sym (ap₂ (λ v k. record { globals = m.globals; words = v; callers = k; pc = m.pc; status = m.status }) (ap₂ (λ p q. record { variables = p; operands = q }) vs os) (waiting ws m.base below (take-set-le m.base m.words j x (omega arith)))))
      ∙ ap (λ z. ok tt (seen (record m { words = set m.words j z }))) (sym q)

  pub store_absent : (e : Fault) (i : ℕ) (x : ℤ) → m.variables ≤ i → store_variable e i x (seen m) ≡ fail e (seen m)
  unfolding store_variable
  store_absent e i x h = cond-false _ _ _ (ap (ltb i) length_variables ∙ le-ltb i m.variables h)

  pub open_there : (cs : List Activation) (k t : ℕ) → cs ≡ set m.callers m.depth (suspended m k) → k ≤ m.operands → m.depth < 32 → m.depth < length m.callers
      → open_activation k t (seen m) ≡ ok tt (seen (record m { callers = cs; depth = m.depth + 1; base = m.base + (m.variables + (m.operands - k)); variables = k; operands = 0; pc = t }))
  unfolding open_activation
  open_there cs k t q h d n =
      let from = m.base + m.variables in
      let j : from + (m.operands - k) ≡ m.base + (m.variables + (m.operands - k)) = omega arith in
      let room : from + (m.operands - k) + k ≤ length m.words = omega arith in
      let vs : reverse (take k (down m.words from m.operands)) ≡ take k (drop (m.base + (m.variables + (m.operands - k))) m.words) =
      ap reverse (take_down m.words from m.operands k h) ∙ reverse_down m.words (from + (m.operands - k)) k room ∙ ap (λ i. take k (drop i m.words)) j in
      let ks : record { resume = m.pc; words = record { variables = take m.variables (drop m.base m.words); operands = drop k (down m.words from m.operands) } } ∷ callers_of m.words m.callers m.depth ≡ callers_of m.words (set m.callers m.depth (suspended m k)) (m.depth + 1) =
      rw add-one (ap₂ ◌∷◌
      (ap (λ xs. record { resume = m.pc; words = record { variables = take m.variables (drop m.base m.words); operands = xs } }) (drop_down m.words from m.operands k h) ∙ ap (caller_of m.words) (sym (get_or-set_same m.callers m.depth (suspended m k) blank n)))
      (sym (callers_later m.words m.callers m.depth m.depth (suspended m k) (omega arith)))) in
      cond-true _ _ _ (enough m k h) ∙ cond-true _ _ _ (ap (λ n. ltb n 32) (length_callers m.words m.callers m.depth) ∙ lt-ltb m.depth 32 d)
      ∙ ap₂ (λ x y. ok tt (record { globals = m.globals; words = record { variables = x; operands = [] }; callers = y; pc = t; status = m.status })) vs ks
      ∙ ap (λ c. ok tt (seen (record m { callers = c; depth = m.depth + 1; base = m.base + (m.variables + (m.operands - k)); variables = k; operands = 0; pc = t }))) (sym q)

  pub make_full : (n : ℕ) → 256 < m.variables + m.operands + n → make_variables n (seen m) ≡ fail Broken (seen m)
  unfolding make_variables
  make_full n h = cond-false _ _ _ (ap (λ k. leb (k + n) 256) sized ∙ lt-leb (m.variables + m.operands + n) 256 h)

  -- n zeros are written above all words
  pub make_room : (n k : ℕ) (zs : List ℤ) → zs ≡ replicate k (pos 0) → k ≡ n → m.variables + m.operands + n ≤ 256
      → make_variables n (seen m) ≡ ok tt (seen (record m { words = put_mid (m.base + (m.variables + m.operands)) k m.words zs; variables = m.variables + m.operands + n; operands = 0 }))
  unfolding make_variables
  make_room n k zs e f h =
      let a = m.base + (m.variables + m.operands) in
      let held = m.variables + m.operands in
      let ws = put_mid a k m.words zs in
      let low : a ≤ length m.words = omega arith in
      let q : take a ws ≡ take a m.words = take-put_mid_below a k m.words zs a (omega arith) low in
      let z : length zs ≡ n = ap length e ∙ length-replicate k (pos 0) ∙ f in
      let all : take (m.base + (held + n)) ws ≡ take a m.words ++ zs = take-put_mid a k m.words zs (m.base + (held + n)) (omega arith) low in
      let t : m.base ≤ length (take a m.words) = omega (arith, length-take-le a m.words low) in
      let v : m.variables ≤ length (drop m.base m.words) = omega (arith, length-drop m.base m.words) in
      let os : take held (drop m.base m.words) ≡ take m.variables (drop m.base m.words) ++ reverse (down m.words (m.base + m.variables) m.operands) =
      take_both (drop m.base m.words) m.variables m.operands v
      ∙ ap (λ ys. take m.variables (drop m.base m.words) ++ ys) (ap (take m.operands) (drop-drop m.variables m.base m.words) ∙ sym (reverse_down m.words (m.base + m.variables) m.operands inside)) in
      let vs : take (held + n) (drop m.base ws) ≡ take m.variables (drop m.base m.words) ++ (reverse (down m.words (m.base + m.variables) m.operands) ++ replicate n (pos 0)) =
      sym (drop-take m.base (held + n) ws) ∙ ap (drop m.base) all ∙ drop-append-le m.base (take a m.words) zs t
      ∙ ap₂ ◌++◌ (drop-take m.base held m.words ∙ os) (e ∙ ap (λ i. replicate i (pos 0)) f)
      ∙ append_assoc (take m.variables (drop m.base m.words)) (reverse (down m.words (m.base + m.variables) m.operands)) (replicate n (pos 0)) in
      cond-true _ _ _ (ap (λ i. leb (i + n) 256) sized ∙ le-leb (held + n) 256 h)
      ∙ ap₂ (λ xs ks. ok tt (record { globals = m.globals; words = record { variables = xs; operands = [] }; callers = ks; pc = m.pc; status = m.status })) (sym vs) (sym (waiting ws a (omega arith) q))
