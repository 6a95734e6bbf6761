-- What a board answers to an order of a script, and how it is seen afterwards.
use Rattle.std.specs.Prelude.{◌≡◌, ℕ, Ok, Result}
use Rattle.ports.specs.Calls.{feed_answer, look_answer}
use Rattle.ports.specs.Refusals.{numbered}
use Rattle.instructions.specs.Steps.{View, run}
use Rattle.board.specs.Refusals as board
use Rattle.board.specs.Seen.{tally, ran, fed, peeked}
use Rattle.script.specs.declared.answer.Answer.{Answer}
use Rattle.script.specs.declared.answer.Answer.TheVariants.{Fed, Seen, Unknown}
use Rattle.script.specs.declared.command.Command.{Command}
use Rattle.script.specs.declared.command.Command.TheVariants.{Queue, Latch, Trim, Clip, Feed, Look, Take, Set}
use Rattle.script.specs.Told.{told}
use Rattle.console.specs.declared.order.Order.{Order}
use Rattle.console.specs.declared.order.Order.TheVariants as order
use Rattle.console.specs.declared.reply.Reply.{Reply}
use Rattle.console.specs.declared.reply.Reply.TheVariants.{Port, Ran, Word}

-- the answer to a command for the port: a setting comes too late, and only the board takes and sets
abbrev pub port_reply : View → Command → Result Answer ℕ
port_reply v (Queue l) = Ok Unknown
port_reply v Latch = Ok Unknown
port_reply v (Trim c o) = Ok Unknown
port_reply v (Clip c a b) = Ok Unknown
port_reply v (Feed c x) = told (λ _. Fed) (feed_answer v.port c)
port_reply v (Look c) = told Seen (look_answer v.port c)
port_reply v (Take c) = Ok Unknown
port_reply v (Set c x) = Ok Unknown

-- the board after such a command
abbrev pub port_replied : View → Command → View
port_replied v (Queue l) = v
port_replied v Latch = v
port_replied v (Trim c o) = v
port_replied v (Clip c a b) = v
port_replied v (Feed c x) = fed c x v
port_replied v (Look c) = v
port_replied v (Take c) = v
port_replied v (Set c x) = v

-- the answer of a board to an order, and how it is seen afterwards: a run tells what a run of its budget comes to
abbrev pub Replies : View → Order → Reply → View → Type 0
Replies v (order.Port c) (Port a) w = (numbered a ≡ port_reply v c) × (w ≡ port_replied v c)
Replies v (order.Port c) (Ran r) w = ⊥
Replies v (order.Port c) (Word z) w = ⊥
Replies v (order.Run b) (Port a) w = ⊥
Replies v (order.Run b) (Ran r) w = tally (run b v) ≡ ran r w
Replies v (order.Run b) (Word z) w = ⊥
Replies v (order.Peek i) (Port a) w = ⊥
Replies v (order.Peek i) (Ran r) w = ⊥
Replies v (order.Peek i) (Word z) w = (board.numbered z ≡ peeked v i) × (w ≡ v)
