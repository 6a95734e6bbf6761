-- What each call on a port answers, and what the port means after it. A refusal is told by its number.
use Rattle.std.specs.Prelude.{ℕ, Bool, cond, List, [], ◌∷◌, ◌++◌, length, ℤ, Some, None, Ok, Err, Option, Result, ◌==◌, nat_lt}
use Rattle.ports.specs.declared.seen.Seen.{Seen}
use Rattle.ports.specs.Channels.{Channel, Meaning, channels, holding, showing}

-- an answer on a channel that there is; any other is refused as 51
abbrev pub on_channel : {X : Type 0} → ℕ → Result X ℕ → Result X ℕ
on_channel c r = cond (nat_lt c channels) r (Err 51)

-- the meaning with another channel at c, where there is such a channel
abbrev pub changed : Meaning → ℕ → Channel → Meaning
changed m c ch = cond (nat_lt c channels) (λ k. cond (k == c) ch (m k)) m

-- fewer samples wait than the channel is deep
abbrev pub room : Channel → Bool
room ch = nat_lt (length ch.waiting) ch.depth

-- the channel after a feed of v: its reading joins the end, if there is room
abbrev pub fed : Channel → ℤ → Channel
fed ch v = cond (room ch) (holding ch (ch.waiting ++ ch.reading v ∷ [])) ch

-- the oldest sample, or none
abbrev pub oldest : List ℤ → Option ℤ
oldest [] = None
oldest (z ∷ zs) = Some z

-- all samples but the oldest
abbrev pub newer : List ℤ → List ℤ
newer [] = []
newer (z ∷ zs) = zs

-- feed: refused as 52 where there is no room
abbrev pub feed_answer : Meaning → ℕ → Result Unit ℕ
feed_answer m c = on_channel c (cond (room (m c)) (Ok tt) (Err 52))

abbrev pub feed_after : Meaning → ℕ → ℤ → Meaning
feed_after m c v = changed m c (fed (m c) v)

-- take: the oldest sample, which then waits no more
abbrev pub take_answer : Meaning → ℕ → Result (Option ℤ) ℕ
take_answer m c = on_channel c (Ok (oldest (m c).waiting))

abbrev pub take_after : Meaning → ℕ → Meaning
take_after m c = changed m c (holding (m c) (newer (m c).waiting))

-- set: the setting rule of v is last set
abbrev pub set_answer : ℕ → Result Unit ℕ
set_answer c = on_channel c (Ok tt)

abbrev pub set_after : Meaning → ℕ → ℤ → Meaning
set_after m c v = changed m c (showing (m c) ((m c).setting v))

-- look: how many wait, and the value last set
abbrev pub look_answer : Meaning → ℕ → Result Seen ℕ
look_answer m c = on_channel c (Ok (record { waiting = length (m c).waiting; last = (m c).last }))
