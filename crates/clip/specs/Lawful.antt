-- A clip over a lawful port is lawful.
use Rattle.std.specs.Prelude.{List, ℤ, slice_index_or}
use Rattle.integer.specs.Ends.{Ends}
use Rattle.ports.specs.Channels.{Meaning}
use Rattle.ports.specs.Law.{Integer, Lawful}
use Rattle.ports.specs.Stored.{stored}
use Rattle.ports.proofs.Integers.{clamped_integer, stored_integer}
use Rattle.clip.specs.Clips.{nearest, no_band, clipped}

nearest_integer : (a b z : ℤ) → Integer z → Integer (nearest (stored a) (stored b) z)
unfolding nearest
nearest_integer a b z h = clamped_integer (stored a) (stored b) z (stored_integer a) (stored_integer b) h

-- a clip keeps the law
pub clipped_lawful : (bands : List Ends) (m : Meaning) → Lawful m → Lawful (clipped bands m)
clipped_lawful bands m law k =
    let band = slice_index_or bands k no_band in
    record {
      shallow = (law k).shallow;
      waits = (law k).waits;
      shows = (law k).shows;
      reads = (law k).reads;
      sets = λ v h. (law k).sets _ (nearest_integer band.low band.high v h);
    }
