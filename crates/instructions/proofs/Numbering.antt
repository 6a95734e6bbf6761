-- The table has each operation at its number.
use Rattle.std.proofs.Common.{◌≡◌, ℕ, zero, suc, ◌+◌, ◌<◌, Bool, true, false, cond, ltb, List, [], ◌∷◌, map, get_or, sym, refl, ap, ◌∙◌, add-zero, arith}
use Rattle.std.proofs.lemmas.List.{get_or-map}
use Rattle.std.proofs.lemmas.Bool.{ltb-true}
use Rattle.instructions.specs.declared.operation.Operation.TheVariants.{End, Other}
use Rattle.instructions.specs.Laws.{NumbersReturn}
use Rattle.instructions.specs.Numbers.{number_of, table}

-- k numbers from n on
rising : ℕ → ℕ → List ℕ
rising n zero = []
rising n (suc k) = n ∷ rising (suc n) k

get_or_rising : (n k i : ℕ) → i < k → get_or (rising n k) i 0 ≡ n + i
unfolding rising
get_or_rising n zero i h = absurd (omega arith)
get_or_rising n (suc k) zero h = sym (add-zero n)
get_or_rising n (suc k) (suc i) h = get_or_rising (suc n) k i (omega arith) ∙ (let e : suc n + i ≡ n + suc i = omega arith in e)

numbered : map number_of table ≡ rising 0 48
unfolding rising
numbered = refl

pub numbers_return : NumbersReturn
numbers_return n = by_range (ltb n 48) (ltb-true n 48)
  where
    by_range : (b : Bool) → (b ≡ true → n < 48) → number_of (cond b (get_or table n End) (Other n)) ≡ n
    by_range true h = sym (get_or-map number_of table n End 0 (h refl)) ∙ ap (λ xs. get_or xs n 0) numbered ∙ get_or_rising 0 48 n (h refl) ∙ (let e : 0 + n ≡ n = omega arith in e)
    by_range false h = refl
