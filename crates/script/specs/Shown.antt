-- How an answer, and what came of a call, are shown.
use Rattle.std.specs.Prelude.{ℕ, List, Some, None, Ok, Err, Option, Result, codes}
use Rattle.std.specs.Fmt.{signed_decimal}
use Rattle.ports.specs.Shown.{shown_seen}
use Rattle.script.specs.declared.answer.Answer.{Answer}
use Rattle.script.specs.declared.answer.Answer.TheVariants.{Done, Fed, Seen, Taken, Unknown}

-- an answer: of a look what it saw, of a take its sample
abbrev pub shown_answer : Answer → List ℕ
shown_answer Done = codes "ok"
shown_answer Fed = codes "fed"
shown_answer (Seen s) = shown_seen s
shown_answer (Taken (Some z)) = signed_decimal z
shown_answer (Taken None) = codes "none"
shown_answer Unknown = codes "unknown command"

-- what came of a call, as its value or the reason of its refusal is shown
abbrev pub shown_told : {T E : Type 0} → (T → Option (List ℕ)) → (E → Option (List ℕ)) → Result T E → Option (List ℕ)
shown_told f g (Ok x) = f x
shown_told f g (Err e) = g e
