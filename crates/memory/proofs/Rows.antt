-- Words by their indexes: rows that are read from their end, and writes outside of them.
use Rattle.std.proofs.Common.{◌≡◌, ℕ, zero, suc, ◌+◌, ◌-◌, ◌<◌, ◌≤◌, ◌≢◌, ◌⊎◌, List, [], ◌∷◌, ◌++◌, reverse, length, get_or, take, drop, set, ℤ, pos, sym, refl, ap, ◌∙◌, ap₂, inl, inr, add-one, arith, length-drop}
use Rattle.std.proofs.lemmas.List.{get_or-set_other, get_or-drop, get_or-take, take_more, take-take, drop-take, reverse-append}
use Rattle.memory.specs.declared.activation.Activation.{Activation}
use Rattle.memory.specs.Nested.{blank, Nested}
use Rattle.memory.specs.Seen.{down, words_of, caller_of, callers_of}

pub length_down : (ws : List ℤ) (from n : ℕ) → length (down ws from n) ≡ n
length_down ws from zero = refl
length_down ws from (suc n) = ap suc (length_down ws from n)

-- a write outside a row leaves it
pub down_set : (ws : List ℤ) (from n j : ℕ) (x : ℤ) → (j < from) ⊎ (from + n ≤ j) → down (set ws j x) from n ≡ down ws from n
down_set ws from zero j x h = refl
down_set ws from (suc n) j x h =
    let ne : from + n ≢ j = elim h [ inl a ↦ omega arith | inr b ↦ omega arith ] in
    let rest : (j < from) ⊎ (from + n ≤ j) = elim h [ inl a ↦ inl a | inr b ↦ inr (omega arith) ] in
    ap₂ ◌∷◌ (get_or-set_other ws j (from + n) x (pos 0) ne) (down_set ws from n j x rest)

down_take : (ws : List ℤ) (k from n : ℕ) → from + n ≤ k → down (take k ws) from n ≡ down ws from n
down_take ws k from zero h = refl
down_take ws k from (suc n) h = ap₂ ◌∷◌ (get_or-take k ws (from + n) (pos 0) (omega arith)) (down_take ws k from n (omega arith))

-- the words of an activation that ends at or below k are among the first k
words_take : (ws : List ℤ) (k base v o : ℕ) → base + (v + o) ≤ k → words_of (take k ws) base v o ≡ words_of ws base v o
words_take ws k base v o h =
    let e : k ≡ base + (k - base) = omega arith in
    let vs : take v (drop base (take k ws)) ≡ take v (drop base ws) =
    ap (λ j. take v (drop base (take j ws))) e ∙ ap (take v) (drop-take base (k - base) ws) ∙ take-take v (k - base) (drop base ws) (omega arith) in
    ap₂ (λ p q. record { variables = p; operands = q }) vs (down_take ws k (base + v) o (omega arith))

-- a write at k or above leaves such an activation
pub words_same : (ws us : List ℤ) (k base v o : ℕ) → take k ws ≡ take k us → base + (v + o) ≤ k → words_of ws base v o ≡ words_of us base v o
words_same ws us k base v o e h = sym (words_take ws k base v o h) ∙ ap (λ xs. words_of xs base v o) e ∙ words_take us k base v o h

-- and so it leaves waiting activations that all end at or below k
pub callers_same : (ws us : List ℤ) (cs : List Activation) (n above k : ℕ) → take k ws ≡ take k us → above ≤ k → Nested cs n above → callers_of ws cs n ≡ callers_of us cs n
callers_same ws us cs zero above k e l h = refl
callers_same ws us cs (suc n) above k e l h =
    let a = get_or cs n blank in
    let q : a.base + (a.variables + a.operands) ≤ k = omega (arith, h.0) in
    let b : a.base ≤ k = omega arith in
    ap₂ ◌∷◌ (ap (λ w. record { resume = a.resume; words = w }) (words_same ws us k a.base a.variables a.operands e q)) (callers_same ws us cs n a.base k e b h.3)

-- the waiting activations below n do not depend on a record at n or above
pub callers_later : (ws : List ℤ) (cs : List Activation) (n k : ℕ) (a : Activation) → n ≤ k → callers_of ws (set cs k a) n ≡ callers_of ws cs n
callers_later ws cs zero k a h = refl
callers_later ws cs (suc n) k a h =
    let ne : n ≢ k = omega arith in
    let m : n ≤ k = omega arith in
    ap₂ ◌∷◌ (ap (caller_of ws) (get_or-set_other cs k n a blank ne)) (callers_later ws cs n k a m)

pub nested_later : (cs : List Activation) (n k above : ℕ) (a : Activation) → n ≤ k → Nested cs n above → Nested (set cs k a) n above
nested_later cs zero k above a h s = tt
nested_later cs (suc n) k above a h s =
    let ne : n ≢ k = omega arith in
    let m : n ≤ k = omega arith in
    let same : get_or (set cs k a) n blank ≡ get_or cs n blank = get_or-set_other cs k n a blank ne in
    let rest : Nested (set cs k a) n (get_or cs n blank).base = nested_later cs n k (get_or cs n blank).base a m s.3 in
    rw same (s.0, s.1, s.2, rest)

-- the newest of a row that is not empty
pub down_last : (ws : List ℤ) (from n : ℕ) → 0 < n → down ws from n ≡ get_or ws (from + (n - 1)) (pos 0) ∷ down ws from (n - 1)
down_last ws from zero h = absurd (omega arith)
down_last ws from (suc n) h = let e : suc n - 1 ≡ n = omega arith in rw e refl

-- the word that is k below the newest of a row
pub get_or_down : (ws : List ℤ) (from n k : ℕ) → k < n → get_or (down ws from n) k (pos 0) ≡ get_or ws (from + (n - 1 - k)) (pos 0)
get_or_down ws from zero k h = absurd (omega arith)
get_or_down ws from (suc n) zero h = let e : suc n - 1 - 0 ≡ n = omega arith in rw e refl
get_or_down ws from (suc n) (suc k) h = let e : suc n - 1 - suc k ≡ n - 1 - k = omega arith in rw e (get_or_down ws from n k (omega arith))

pub drop_down : (ws : List ℤ) (from n k : ℕ) → k ≤ n → drop k (down ws from n) ≡ down ws from (n - k)
drop_down ws from n zero h = let e : n - 0 ≡ n = omega arith in rw e refl
drop_down ws from zero (suc k) h = absurd (omega arith)
drop_down ws from (suc n) (suc k) h = let e : suc n - suc k ≡ n - k = omega arith in rw e (drop_down ws from n k (omega arith))

pub take_down : (ws : List ℤ) (from n k : ℕ) → k ≤ n → take k (down ws from n) ≡ down ws (from + (n - k)) k
take_down ws from n zero h = refl
take_down ws from zero (suc k) h = absurd (omega arith)
take_down ws from (suc n) (suc k) h =
    let e : suc n - suc k ≡ n - k = omega arith in
    let i : from + n ≡ from + (n - k) + k = omega arith in
    ap₂ ◌∷◌ (ap (λ j. get_or ws j (pos 0)) i) (take_down ws from n k (omega arith)) ∙ ap (λ m. down ws (from + m) (suc k)) (sym e)

-- a row in its own order
pub reverse_down : (ws : List ℤ) (from n : ℕ) → from + n ≤ length ws → reverse (down ws from n) ≡ take n (drop from ws)
reverse_down ws from zero h = refl
reverse_down ws from (suc n) h =
    let l : n < length (drop from ws) = omega (arith, length-drop from ws) in
    let m : from + n ≤ length ws = omega arith in
    reverse-append (get_or ws (from + n) (pos 0) ∷ []) (down ws from n)
    ∙ ap₂ (λ xs y. xs ++ y ∷ []) (reverse_down ws from n m) (sym (get_or-drop from ws n (pos 0)))
    ∙ sym (take_more (drop from ws) n (pos 0) l)
    ∙ ap (λ k. take k (drop from ws)) (add-one n)

-- two rows one after the other
pub take_both : (ws : List ℤ) (m n : ℕ) → m ≤ length ws → take (m + n) ws ≡ take m ws ++ take n (drop m ws)
take_both ws zero n h = ap (λ k. take k ws) (let e : 0 + n ≡ n = omega arith in e)
take_both [] (suc m) n h = absurd (omega arith)
take_both (w ∷ ws) (suc m) n h = let e : suc m + n ≡ suc (m + n) = omega arith in rw e (ap (λ xs. w ∷ xs) (take_both ws m n (omega arith)))

pub length_callers : (ws : List ℤ) (cs : List Activation) (n : ℕ) → length (callers_of ws cs n) ≡ n
length_callers ws cs zero = refl
length_callers ws cs (suc n) = ap suc (length_callers ws cs n)
