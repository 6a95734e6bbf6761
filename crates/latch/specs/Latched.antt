-- What a latch means.
use Rattle.std.specs.Prelude.{List, [], ◌∷◌, ℤ, pos, Some, None, Option, slice_index_or}
use Rattle.ports.specs.Channels.{Channel, Meaning}
use Rattle.ports.specs.Layers.{plain}
use Rattle.ports.specs.Stored.{stored}
use Rattle.latch.specs.declared.Slot.{Slot}

-- the samples that wait in a slot: one or none
abbrev pub waiting_in : Option ℤ → List ℤ
waiting_in None = []
waiting_in (Some z) = stored z ∷ []

-- a slot is a channel that is one deep
abbrev pub slot_channel : Slot → Channel
slot_channel s = plain 1 (waiting_in s.waiting) (stored s.last)

-- a slot that keeps nothing
abbrev pub empty_slot : Slot
empty_slot = record { waiting = None; last = pos 0 }

-- a latch: a slot for each channel
abbrev pub latched : List Slot → Meaning
latched slots k = slot_channel (slice_index_or slots k empty_slot)
