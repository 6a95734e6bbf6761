-- How a reply is shown.
use Rattle.std.specs.Prelude.{ℕ, List, Ok, Err}
use Rattle.std.specs.Fmt.{signed_decimal}
use Rattle.board.specs.Refusals as board
use Rattle.instructions.specs.Shown.{shown_run}
use Rattle.ports.specs.Shown.{shown_refusal}
use Rattle.script.specs.Shown.{shown_answer}
use Rattle.console.specs.declared.reply.Reply.{Reply}
use Rattle.console.specs.declared.reply.Reply.TheVariants.{Port, Ran, Word}

-- a reply: what the port answers, what the run came to, or the word; and a refusal by its number
abbrev pub shown_reply : Reply → List ℕ
shown_reply (Port (Ok a)) = shown_answer a
shown_reply (Port (Err e)) = shown_refusal e
shown_reply (Ran r) = shown_run r
shown_reply (Word (Ok z)) = signed_decimal z
shown_reply (Word (Err e)) = board.shown e
