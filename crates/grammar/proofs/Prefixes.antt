-- Lists that begin alike.
use Rattle.std.proofs.Common.{◌≡◌, ℕ, zero, suc, ◌≤◌, List, [], ◌∷◌, ◌++◌, length, take, drop, sym, refl, ap, ◌∙◌, arith, length-append}
use Rattle.std.proofs.lemmas.List.{length-drop, take_at, take-take, length-take-le}
use Rattle.grammar.specs.Ebnf.{mem}
use Rattle.grammar.proofs.Theory.{Same}

-- what two lists that agree on k + 1 symbols have from k on begins alike
pub same_next : (k : ℕ) (w v : List ℕ) → take (suc k) w ≡ take (suc k) v → Same (drop k w) (drop k v)
same_next zero [] [] e c = refl
same_next zero [] (b ∷ v) e c = let f = ap length e in absurd (omega arith)
same_next zero (a ∷ w) [] e c = let f = ap length e in absurd (omega arith)
same_next zero (a ∷ w) (b ∷ v) e c = let f : a ≡ b = cc in ap (λ x. mem x c) f
same_next (suc k) [] [] e c = refl
same_next (suc k) [] (b ∷ v) e c = let f = ap length e in absurd (omega arith)
same_next (suc k) (a ∷ w) [] e c = let f = ap length e in absurd (omega arith)
same_next (suc k) (a ∷ w) (b ∷ v) e c = let f : take (suc k) w ≡ take (suc k) v = cc in same_next k w v f c

-- and agrees below k too
pub same_before : (j k : ℕ) (w v : List ℕ) → j ≤ k → take k w ≡ take k v → take j w ≡ take j v
same_before j k w v h e = sym (take-take j k w h) ∙ ap (take j) e ∙ take-take j k v h

-- what stands before the part from k on
pub front : (u w : List ℕ) (k : ℕ) → k ≤ length w → w ≡ u ++ drop k w → u ≡ take k w
front u w k h e =
    let l = ap length e ∙ length-append u (drop k w) in
    let m = length-drop k w in
    sym (ap (take k) e ∙ take_at u (drop k w) k (omega arith))

-- the place tells the part
pub drop_place : (w : List ℕ) (j k : ℕ) → j ≤ length w → k ≤ length w → drop j w ≡ drop k w → j ≡ k
drop_place w j k h i e =
    let l = ap length e in
    let m = length-drop j w in
    let n = length-drop k w in
    omega arith

-- a list that begins with the first k of another
pub begun_like : (k : ℕ) (x w v : List ℕ) → k ≤ length w → x ≡ take k w ++ v → take k x ≡ take k w
begun_like k x w v h e = ap (take k) e ∙ take_at (take k w) v k (length-take-le k w h)

pub begun_long : (k : ℕ) (x w v : List ℕ) → k ≤ length w → x ≡ take k w ++ v → k ≤ length x
begun_long k x w v h e =
    let l = ap length e ∙ length-append (take k w) v in
    let m = length-take-le k w h in
    omega arith
