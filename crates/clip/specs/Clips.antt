-- What a clip means.
use Rattle.std.specs.Prelude.{ℕ, cond, List, ℤ, pos, Ok, Err, Result, int_le, slice_index_or}
use Rattle.integer.specs.Ends.{Ends, clamped}
use Rattle.ports.specs.Channels.{Channel, Meaning}
use Rattle.ports.specs.Calls.{on_channel}
use Rattle.ports.specs.Layers.{layered}
use Rattle.ports.specs.Stored.{stored}

-- the point from low to high that is nearest to z
unfoldable pub nearest : ℤ → ℤ → ℤ → ℤ
nearest low high z = clamped low high z

-- a channel with a band: a value is moved to the nearest point before the lower rule sets it
abbrev pub clip_channel : ℤ → ℤ → Channel → Channel
clip_channel low high ch = record { depth = ch.depth; reading = ch.reading; setting = λ v. ch.setting (nearest low high v); waiting = ch.waiting; last = ch.last }

-- where no channel is, the band of 0 alone
abbrev pub no_band : Ends
no_band = record { low = pos 0; high = pos 0 }

-- a port with a band for each channel
abbrev pub clipped : List Ends → Meaning → Meaning
clipped bands = layered (λ k. clip_channel (stored (slice_index_or bands k no_band).low) (stored (slice_index_or bands k no_band).high))

-- the band from low to high, refused as 54 where low lies above high
abbrev pub judged : ℤ → ℤ → Result Ends ℕ
judged low high = cond (int_le low high) (Ok (record { low = low; high = high })) (Err 54)

-- whether channel c may have the band from low to high: refused as 54 where low lies above high
abbrev pub band_answer : ℕ → ℤ → ℤ → Result Unit ℕ
band_answer c low high = on_channel c (cond (int_le low high) (Ok tt) (Err 54))
