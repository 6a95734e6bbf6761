-- The samples of a ring that is fed and taken from.
use Rattle.std.proofs.Common.{◌≡◌, ℕ, suc, ◌+◌, ◌*◌, ◌<◌, ◌≤◌, ◌≢◌, List, [], ◌∷◌, ◌++◌, map, length, get_or, set, ℤ, pos, Some, sym, refl, ap, ◌∙◌, ap₂, arith}
use Rattle.std.proofs.lemmas.List.FromFn.{length-map-range_with_len, get_or-map-range_with_len, map-range_with_len_more}
use Rattle.std.proofs.lemmas.List.{same_lists, get_or-set_same, get_or-set_other}
use Rattle.std.proofs.lemmas.Bool.Decides.{nat_tests}
use Rattle.std.specs.List.{range_with_len}
use Rattle.ports.specs.Calls.{oldest, newer}
use Rattle.ports.specs.Stored.{stored}
use Rattle.queue.specs.Queued.{wrap, place, samples}

-- two rows that agree at each place
row_same : (f g : ℕ → ℤ) (a b n : ℕ) → ((i : ℕ) → i < n → f (a + i) ≡ g (b + i)) → map f (range_with_len a n) ≡ map g (range_with_len b n)
row_same f g a b n same =
    same_lists _ _ (length-map-range_with_len f a n ∙ sym (length-map-range_with_len g b n))
    (λ k d h.
    let l : k < n = omega (arith, length-map-range_with_len f a n) in
    get_or-map-range_with_len f a n k (a + k) d l refl ∙ same k l ∙ sym (get_or-map-range_with_len g b n k (b + k) d l refl))

-- the sample at a place
abbrev at : List ℤ → ℕ → ℤ
at xs p = stored (get_or xs p (pos 0))

pub length_samples : (xs : List ℤ) (d c h n : ℕ) → length (samples xs d c h n) ≡ n
length_samples xs d c h n = length-map-range_with_len (λ i. at xs (place d h i c)) 0 n

pub wrap_below : (d x : ℕ) → x < d + d → 0 < d → wrap d x < d
wrap_below d x h p = grind (arith, nat_tests)

wrap_apart : (d h i n : ℕ) → h ≤ d → i < n → n < d → wrap d (h + i) ≢ wrap d (h + n)
wrap_apart d h i n p q r e = grind (arith, nat_tests)

place_apart : (p q c k : ℕ) → c < 16 → k < 16 → k ≢ c → p * 16 + k ≢ q * 16 + c
place_apart p q c k hc hk ne e = ne (omega arith)

place_apart_slot : (p q c : ℕ) → p ≢ q → p * 16 + c ≢ q * 16 + c
place_apart_slot p q c ne e = ne (omega arith)

-- a sample written at the first free place of its channel comes last
pub samples_fed : (xs : List ℤ) (d c h n : ℕ) (v : ℤ) → c < 16 → h ≤ d → n < d → d * 16 ≤ length xs → samples (set xs (place d h n c) v) d c h (n + 1) ≡ samples xs d c h n ++ stored v ∷ []
samples_fed xs d c h n v hc hh hn fits =
    map-range_with_len_more (λ i. at ys (place d h i c)) 0 n n (omega arith)
    ∙ ap₂ (λ s z. s ++ stored z ∷ []) (row_same _ _ 0 0 n (λ i l. let ne : place d h (0 + i) c ≢ place d h n c = place_apart_slot _ _ c (wrap_apart d h (0 + i) n hh (omega arith) hn) in ap stored (get_or-set_other xs (place d h n c) (place d h (0 + i) c) v (pos 0) ne))) (get_or-set_same xs (place d h n c) v (pos 0) in_memory)
  where
    ys : List ℤ
    ys = set xs (place d h n c) v

    in_memory : place d h n c < length xs
    in_memory = omega (arith, wrap_below d (h + n) (omega arith) (omega arith))

-- and leaves every other channel
pub samples_other : (xs : List ℤ) (d c k h n p : ℕ) (v : ℤ) → c < 16 → k < 16 → k ≢ c → samples (set xs (p * 16 + c) v) d k h n ≡ samples xs d k h n
samples_other xs d c k h n p v hc hk ne = row_same _ _ 0 0 n (λ i l. ap stored (get_or-set_other xs (p * 16 + c) (place d h (0 + i) k) v (pos 0) (place_apart (wrap d (h + (0 + i))) p c k hc hk ne)))

-- one place further on, with one sample fewer, all but the oldest are left
pub samples_took : (xs : List ℤ) (d c h n : ℕ) → h ≤ d → suc n ≤ d → samples xs d c (wrap d (h + 1)) n ≡ newer (samples xs d c h (suc n))
samples_took xs d c h n hh hn = row_same _ _ 0 (0 + 1) n (λ i l. ap (λ w. at xs (w * 16 + c)) (wrap_step i l))
  where
    wrap_step : (i : ℕ) → i < n → wrap d (wrap d (h + 1) + (0 + i)) ≡ wrap d (h + (0 + 1 + i))
    wrap_step i l = grind (arith, nat_tests)

-- the oldest is the first
pub samples_oldest : (xs : List ℤ) (d c h n : ℕ) → oldest (samples xs d c h (suc n)) ≡ Some (at xs (place d h 0 c))
samples_oldest xs d c h n = refl
