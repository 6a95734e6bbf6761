-- A queue keeps the law of ports.
use Rattle.std.specs.Prelude.{ℕ, ◌/◌, List, [], ◌∷◌, length, get_or, ℤ, pos, slice_index_or}
use Rattle.std.proofs.Math.Nat.{min-le_right}
use Rattle.std.specs.List.{range_with_len, AllByRecursion}
use Rattle.std.proofs.ByRecursion.{All-map}
use Rattle.ports.specs.Law.{Integer, Lawful, deepest}
use Rattle.ports.specs.Stored.{stored}
use Rattle.ports.proofs.Integers.{stored_integer}
use Rattle.queue.specs.declared.Ring.{Ring}
use Rattle.queue.specs.Queued.{share, place, samples, empty_ring, queued}

each : (P : ℕ → Type 0) → ((n : ℕ) → P n) → (ns : List ℕ) → AllByRecursion P ns
each P h [] = tt
each P h (n ∷ ns) = (h n, each P h ns)

samples_integers : (xs : List ℤ) (d c h n : ℕ) → AllByRecursion Integer (samples xs d c h n)
samples_integers xs d c h n = All-map Integer (λ i. stored (slice_index_or xs (place d h i c) (pos 0))) (range_with_len 0 n) (each _ (λ i. stored_integer _) (range_with_len 0 n))

-- every channel of a queue is lawful
pub queued_lawful : (xs : List ℤ) (rings : List Ring) → Lawful (queued xs rings)
queued_lawful xs rings k =
    let r = get_or rings k empty_ring in
    record {
      shallow = min-le_right (length xs / 16) deepest;
      waits = samples_integers xs (share (length xs)) k r.head r.count;
      shows = stored_integer r.last;
      reads = λ v h. h;
      sets = λ v h. h;
    }
