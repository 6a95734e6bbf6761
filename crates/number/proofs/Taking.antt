-- What a type takes of the number that a word writes is what is read of the word.
use Rattle.std.proofs.Common.{◌≡◌, ℤ, List, ℕ, Ok, Err, Result, subst}
use Rattle.std.specs.Result.{result_ok}
use Rattle.number.specs.Numbers.{Written, written, Reads}

pub taken : {X E : Type 0} (takes : ℤ → Result X E → Type 0) (word : List ℕ) (z : ℤ) (r : Result X E) →
    Written word → z ≡ written word → takes z r → Reads takes word (result_ok r)
taken takes word z (Ok x) writes is t = (writes, subst (λ y. takes y (Ok x)) is t)
taken takes word z (Err e) writes is t = λ _ _. (e, subst (λ y. takes y (Err e)) is t)
