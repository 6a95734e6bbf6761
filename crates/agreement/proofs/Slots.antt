-- The two hidden words of a FOR, behind an activation's own words and those of the FORs around it.
use Rattle.std.proofs.Common.{◌≡◌, ℕ, suc, ◌+◌, ◌<◌, List, [], ◌∷◌, ◌++◌, length, get_or, set, ℤ, pos, ap, ◌∙◌, append_assoc, suc-add, arith, length-append}

module _ (ks : List ℤ) (a b : ℤ) (r : List ℤ) where
  pub slots_open : (ks ++ (a ∷ b ∷ [])) ++ r ≡ ks ++ (a ∷ b ∷ r)
  slots_open = append_assoc ks (a ∷ b ∷ []) r

get_behind : (ls ys : List ℤ) (n : ℕ) → get_or (ls ++ ys) (length ls + n) (pos 0) ≡ get_or ys n (pos 0)
get_behind [] ys n = ap (λ i. get_or ys i (pos 0)) (omega arith)
get_behind (l ∷ ls) ys n = rw (suc-add (length ls) n) (get_behind ls ys n)

set_behind : (ls ys : List ℤ) (n : ℕ) (v : ℤ) → set (ls ++ ys) (length ls + n) v ≡ ls ++ set ys n v
set_behind [] ys n v = ap (λ i. set ys i v) (omega arith)
set_behind (l ∷ ls) ys n v = rw (suc-add (length ls) n) (ap {B = List ℤ} (λ s. l ∷ s) (set_behind ls ys n v))

module _ (ls ks : List ℤ) (r : List ℤ) (i n : ℕ) (e : i ≡ length ls + (length ks + n)) where
  get_slot : get_or (ls ++ (ks ++ r)) i (pos 0) ≡ get_or r n (pos 0)
  get_slot = ap (λ j. get_or (ls ++ (ks ++ r)) j (pos 0)) e ∙ get_behind ls (ks ++ r) (length ks + n) ∙ get_behind ks r n

  set_slot : (v : ℤ) → set (ls ++ (ks ++ r)) i v ≡ ls ++ (ks ++ set r n v)
  set_slot v = ap (λ j. set (ls ++ (ks ++ r)) j v) e ∙ set_behind ls (ks ++ r) (length ks + n) v ∙ ap (λ s. ls ++ s) (set_behind ks r n v)

module _ (ls ks : List ℤ) (a b : ℤ) (r : List ℤ) (i : ℕ) (e : i ≡ length ls + length ks) where
  pub first_slot : get_or (ls ++ (ks ++ (a ∷ b ∷ r))) i (pos 0) ≡ a
  first_slot = get_slot ls ks (a ∷ b ∷ r) i 0 (omega arith)

  pub second_slot : get_or (ls ++ (ks ++ (a ∷ b ∷ r))) (suc i) (pos 0) ≡ b
  second_slot = get_slot ls ks (a ∷ b ∷ r) (suc i) 1 (omega arith)

  pub set_first : (v : ℤ) → set (ls ++ (ks ++ (a ∷ b ∷ r))) i v ≡ ls ++ (ks ++ (v ∷ b ∷ r))
  set_first v = set_slot ls ks (a ∷ b ∷ r) i 0 (omega arith) v

  pub set_second : (v : ℤ) → set (ls ++ (ks ++ (a ∷ b ∷ r))) (suc i) v ≡ ls ++ (ks ++ (a ∷ v ∷ r))
  set_second v = set_slot ls ks (a ∷ b ∷ r) (suc i) 1 (omega arith) v

  pub slots_within : suc i < length (ls ++ (ks ++ (a ∷ b ∷ r)))
  slots_within = let x = length-append ls (ks ++ (a ∷ b ∷ r)) in let y = length-append ks (a ∷ b ∷ r) in omega arith
