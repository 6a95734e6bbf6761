-- Events: what passes through a port from the side of a program.
use Rattle.std.specs.Prelude.{ℕ, List, [], ◌∷◌, ℤ}
use Rattle.ports.specs.Channels.{Meaning}
use Rattle.ports.specs.Calls.{take_after, set_after}

-- a sample taken from a channel, or a value that a channel was set to
pub data Event : Type 0 where
  took : (channel : ℕ) → ℤ → Event
  set_to : (channel : ℕ) → ℤ → Event

-- what an event leaves of a port
abbrev pub left : Event → Meaning → Meaning
left (took c z) m = take_after m c
left (set_to c x) m = set_after m c x

-- what events leave, the first first
abbrev pub left_by : List Event → Meaning → Meaning
left_by [] m = m
left_by (e ∷ es) m = left_by es (left e m)
