-- Samples that join a port's channels, whatever their depth.
use Rattle.std.specs.Prelude.{ℕ, List, [], ◌∷◌, ◌++◌, ℤ}
use Rattle.ports.specs.Calls.{changed}
use Rattle.ports.specs.Channels.{Channel, Meaning, holding}

-- an accepted sample
pub record Sample : Type 0 where
  pub channel : ℕ
  pub value : ℤ

-- the channel with one sample more, read by its rule, whatever the depth
abbrev pub longer : ℤ → Channel → Channel
longer z ch = holding ch (ch.waiting ++ ch.reading z ∷ [])

-- the port with one sample more
abbrev pub joined : Sample → Meaning → Meaning
joined s m = changed m s.channel (longer s.value (m s.channel))

-- the port with samples more, the first first
abbrev pub joined_all : List Sample → Meaning → Meaning
joined_all [] m = m
joined_all (s ∷ ss) m = joined_all ss (joined s m)
