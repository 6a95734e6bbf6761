-- The number of each refusal.
use Rattle.std.specs.Prelude.{ℕ, List, ◌++◌, Ok, Err, codes, decimal, Result}
use Rattle.board.specs.declared.refusal.Refusal.{Refusal}
use Rattle.board.specs.declared.refusal.Refusal.TheVariants.{NoWord}

-- the number that a refusal goes by
abbrev pub number_of : Refusal → ℕ
number_of NoWord = 53

-- an answer, with its refusal as a number
abbrev pub numbered : {X : Type 0} → Result X Refusal → Result X ℕ
numbered (Ok x) = Ok x
numbered (Err e) = Err (number_of e)

-- a refusal as it is shown, by its number
abbrev pub shown : Refusal → List ℕ
shown r = codes "refused " ++ decimal (number_of r)
