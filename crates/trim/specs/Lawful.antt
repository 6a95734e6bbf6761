-- A trim over a lawful port is lawful.
use Rattle.std.specs.Prelude.{List, ℤ, pos, ◌-ℤ◌, slice_index_or}
use Rattle.std.proofs.ByRecursion.{All-map, All-weaker}
use Rattle.ports.specs.Channels.{Meaning}
use Rattle.ports.specs.Law.{Integer, Lawful}
use Rattle.ports.specs.Stored.{stored}
use Rattle.ports.proofs.Integers.{held_integer}
use Rattle.trim.specs.Trims.{less, trimmed}

less_integer : (o z : ℤ) → Integer (less o z)
unfolding less
less_integer o z = held_integer (z -ℤ o)

-- a trim keeps the law
pub trimmed_lawful : (os : List ℤ) (m : Meaning) → Lawful m → Lawful (trimmed os m)
trimmed_lawful os m law k =
    let o = stored (slice_index_or os k (pos 0)) in
    record {
      shallow = (law k).shallow;
      waits = All-map Integer (less o) (m k).waiting (All-weaker Integer (λ z. Integer (less o z)) (λ z _. less_integer o z) (m k).waiting (law k).waits);
      shows = (law k).shows;
      reads = λ v _. less_integer o ((m k).reading v);
      sets = (law k).sets;
    }
