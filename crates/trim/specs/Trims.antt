-- What a trim means.
use Rattle.std.specs.Prelude.{List, map, ℤ, pos, ◌-ℤ◌, slice_index_or}
use Rattle.integer.specs.Ends.{integer, held}
use Rattle.ports.specs.Channels.{Channel, Meaning}
use Rattle.ports.specs.Layers.{layered}
use Rattle.ports.specs.Stored.{stored}

-- z less an offset, held at the ends of INTEGER
unfoldable pub less : ℤ → ℤ → ℤ
less o z = held integer (z -ℤ o)

-- a channel whose offset is o: what waits and what is read is less by it
abbrev pub trim_channel : ℤ → Channel → Channel
trim_channel o ch = record { depth = ch.depth; reading = λ v. less o (ch.reading v); setting = ch.setting; waiting = map (less o) ch.waiting; last = ch.last }

-- a port with an offset for each channel
abbrev pub trimmed : List ℤ → Meaning → Meaning
trimmed os = layered (λ k. trim_channel (stored (slice_index_or os k (pos 0))))
