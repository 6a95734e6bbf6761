-- What a port answers to a command of a script, and what it means afterwards.
use Rattle.std.specs.Prelude.{ℕ, Ok, Result}
use Rattle.ports.specs.Calls.{feed_answer, feed_after, take_answer, take_after, set_answer, set_after, look_answer}
use Rattle.ports.specs.Channels.{Meaning}
use Rattle.script.specs.declared.answer.Answer.{Answer}
use Rattle.script.specs.declared.answer.Answer.TheVariants.{Done, Fed, Seen, Taken, Unknown}
use Rattle.script.specs.declared.command.Command.{Command}
use Rattle.script.specs.declared.command.Command.TheVariants.{Queue, Latch, Trim, Clip, Feed, Look, Take, Set}
use Rattle.script.specs.Told.{told}

-- the answer: a setting comes too late
abbrev pub reply : Meaning → Command → Result Answer ℕ
reply m (Queue l) = Ok Unknown
reply m Latch = Ok Unknown
reply m (Trim c o) = Ok Unknown
reply m (Clip c a b) = Ok Unknown
reply m (Feed c v) = told (λ _. Fed) (feed_answer m c)
reply m (Look c) = told Seen (look_answer m c)
reply m (Take c) = told Taken (take_answer m c)
reply m (Set c v) = told (λ _. Done) (set_answer c)

-- the meaning
abbrev pub replied : Meaning → Command → Meaning
replied m (Queue l) = m
replied m Latch = m
replied m (Trim c o) = m
replied m (Clip c a b) = m
replied m (Feed c v) = feed_after m c v
replied m (Look c) = m
replied m (Take c) = take_after m c
replied m (Set c v) = set_after m c v
