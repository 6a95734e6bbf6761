-- What a queue means: a ring of samples for each channel.
use Rattle.std.specs.Prelude.{ℕ, ◌+◌, ◌-◌, ◌*◌, ◌/◌, ◌≤◌, min, cond, List, map, length, ℤ, pos, nat_lt, slice_index_or}
use Rattle.std.specs.List.{range_with_len}
use Rattle.ports.specs.Channels.{Channel, Meaning}
use Rattle.ports.specs.Law.{deepest}
use Rattle.ports.specs.Layers.{plain}
use Rattle.ports.specs.Stored.{stored}
use Rattle.queue.specs.declared.Ring.{Ring}

-- each channel's share of a memory of l samples: its depth
abbrev pub share : ℕ → ℕ
share l = min (l / 16) deepest

-- x, or what it is past d
abbrev pub wrap : ℕ → ℕ → ℕ
wrap d x = cond (nat_lt x d) x (x - d)

-- where sample i of channel c lies in a memory, if each channel has d places and its oldest sample is at h
abbrev pub place : ℕ → ℕ → ℕ → ℕ → ℕ
place d h i c = wrap d (h + i) * 16 + c

-- the n samples of channel c from place h on, oldest first
abbrev pub samples : List ℤ → ℕ → ℕ → ℕ → ℕ → List ℤ
samples xs d c h n = map (λ i. stored (slice_index_or xs (place d h i c) (pos 0))) (range_with_len 0 n)

-- a ring lies inside the d places of its channel
pub record IsInside (d : ℕ) (r : Ring) : Type 0 where
  pub head : r.head ≤ d
  pub count : r.count ≤ d

-- a ring is a channel d deep
abbrev pub ring_channel : List ℤ → ℕ → ℕ → Ring → Channel
ring_channel xs d c r = plain d (samples xs d c r.head r.count) (stored r.last)

-- a ring that keeps nothing
abbrev pub empty_ring : Ring
empty_ring = record { head = 0; count = 0; last = pos 0 }

-- a queue: a memory, and a ring in it for each channel
abbrev pub queued : List ℤ → List Ring → Meaning
queued xs rings k = ring_channel xs (share (length xs)) k (slice_index_or rings k empty_ring)
