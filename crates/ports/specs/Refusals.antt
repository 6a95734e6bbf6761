-- The number of each refusal.
use Rattle.std.specs.Prelude.{ℕ, Ok, Err, Result}
use Rattle.ports.specs.declared.refusal.Refusal.{Refusal}
use Rattle.ports.specs.declared.refusal.Refusal.TheVariants.{NoChannel, Full, FallingBand}

-- the number that a refusal goes by
abbrev pub number_of : Refusal → ℕ
number_of NoChannel = 51
number_of Full = 52
number_of FallingBand = 54

-- an answer, with its refusal as a number
abbrev pub numbered : {X : Type 0} → Result X Refusal → Result X ℕ
numbered (Ok x) = Ok x
numbered (Err e) = Err (number_of e)
