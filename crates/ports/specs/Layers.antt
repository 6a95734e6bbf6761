-- Meanings of ports, channel by channel.
use Rattle.std.specs.Prelude.{ℕ, List, [], ℤ, pos}
use Rattle.ports.specs.Channels.{Channel, Meaning}

-- a port over another: each channel of the lower one, altered by a rule of its own
abbrev pub layered : (ℕ → Channel → Channel) → Meaning → Meaning
layered f m k = f k (m k)

-- a channel that reads and sets each value as it is
abbrev pub plain : ℕ → List ℤ → ℤ → Channel
plain d zs z = record { depth = d; reading = λ v. v; setting = λ v. v; waiting = zs; last = z }

-- a port whose channels are plain and d deep, with no sample waiting and 0 last set
abbrev pub blank : ℕ → Meaning
blank d _ = plain d [] (pos 0)
