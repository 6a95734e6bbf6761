-- What is told of a call on a port.
use Rattle.std.specs.Prelude.{ℕ, Ok, Err, Result}
use Rattle.script.specs.declared.answer.Answer.{Answer}

-- what the call's value is told as, or why it was refused
abbrev pub told : {X : Type 0} → (X → Answer) → Result X ℕ → Result Answer ℕ
told f (Ok x) = Ok (f x)
told f (Err n) = Err n
