-- A trim answers and changes as the port below, less its offsets.
use Rattle.std.proofs.Common.{◌≡◌, ℕ, Bool, true, false, cond, ltb, List, [], ◌∷◌, ◌++◌, map, get_or, ℤ, pos, Some, None, Ok, Err, Option, Result, refl, ap}
use lib.ListN.{length-map}
use Rattle.std.proofs.lemmas.List.{map_push}
use Rattle.ports.specs.Channels.{Channel, Meaning, channels, holding}
use Rattle.ports.specs.Calls.{room, fed, oldest, newer, feed_after, take_answer, take_after, set_after, look_answer}
use Rattle.ports.specs.Stored.{stored}
use Rattle.ports.proofs.Layering.{layer_changed}
use Rattle.trim.specs.Trims.{less, trim_channel, trimmed}

fed_trimmed : (o : ℤ) (ch : Channel) (v : ℤ) → trim_channel o (fed ch v) ≡ fed (trim_channel o ch) v
fed_trimmed o ch v = rw (length-map ch.waiting (less o)) (by_room (room ch))
  where
    by_room : (b : Bool) → trim_channel o (cond b (holding ch (ch.waiting ++ ch.reading v ∷ [])) ch) ≡ cond b (holding (trim_channel o ch) (map (less o) ch.waiting ++ less o (ch.reading v) ∷ [])) (trim_channel o ch)
    by_room true = ap (holding (trim_channel o ch)) (map_push (less o) ch.waiting (ch.reading v))
    by_room false = refl

newer_trimmed : (o : ℤ) (zs : List ℤ) → map (less o) (newer zs) ≡ newer (map (less o) zs)
newer_trimmed o [] = refl
newer_trimmed o (z ∷ zs) = refl

-- an answer of the port below, less an offset
abbrev pub lowered : ℤ → Result (Option ℤ) ℕ → Result (Option ℤ) ℕ
lowered o (Ok None) = Ok None
lowered o (Ok (Some z)) = Ok (Some (less o z))
lowered o (Err n) = Err n

module _ (os : List ℤ) (m : Meaning) (c : ℕ) where
  abbrev o : ℤ
  o = stored (get_or os c (pos 0))

  abbrev by : ℕ → Channel → Channel
  by k = trim_channel (stored (get_or os k (pos 0)))

  pub trimmed_fed : (v : ℤ) → trimmed os (feed_after m c v) ≡ feed_after (trimmed os m) c v
  trimmed_fed v = layer_changed by m c (fed (m c) v) (fed (trim_channel o (m c)) v) (fed_trimmed o (m c) v)

  pub trimmed_took : trimmed os (take_after m c) ≡ take_after (trimmed os m) c
  trimmed_took = layer_changed by m c (holding (m c) (newer (m c).waiting)) _ (ap (holding (trim_channel o (m c))) (newer_trimmed o (m c).waiting))

  pub trimmed_set : (v : ℤ) → trimmed os (set_after m c v) ≡ set_after (trimmed os m) c v
  trimmed_set v = layer_changed by m c _ _ refl

  pub trimmed_look : look_answer m c ≡ look_answer (trimmed os m) c
  trimmed_look = rw (length-map (m c).waiting (less o))

  pub trimmed_take : lowered o (take_answer m c) ≡ take_answer (trimmed os m) c
  trimmed_take = go (ltb c channels) (m c).waiting
    where
      go : (b : Bool) (zs : List ℤ) → lowered o (cond b (Ok (oldest zs)) (Err 51)) ≡ cond b (Ok (oldest (map (less o) zs))) (Err 51)
      go true [] = refl
      go true (y ∷ zs) = refl
      go false zs = refl
