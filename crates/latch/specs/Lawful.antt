-- A latch keeps the law of ports.
use Rattle.std.specs.Prelude.{List, ℤ, Some, None, Option, slice_index_or}
use Rattle.std.proofs.Common.{lit≤}
use Rattle.std.specs.List.{AllByRecursion}
use Rattle.ports.specs.Law.{Integer, Lawful}
use Rattle.ports.proofs.Integers.{stored_integer}
use Rattle.latch.specs.declared.Slot.{Slot}
use Rattle.latch.specs.Latched.{waiting_in, empty_slot, latched}

waits_integers : (o : Option ℤ) → AllByRecursion Integer (waiting_in o)
waits_integers None = tt
waits_integers (Some z) = (stored_integer z, tt)

-- every channel of a latch is lawful
pub latched_lawful : (slots : List Slot) → Lawful (latched slots)
latched_lawful slots k =
    let s = slice_index_or slots k empty_slot in
    record {
      shallow = lit≤ tt;
      waits = waits_integers s.waiting;
      shows = stored_integer s.last;
      reads = λ v h. h;
      sets = λ v h. h;
    }
