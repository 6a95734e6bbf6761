-- A clip answers and changes as the port below, with its own rule for what is set.
use Rattle.std.proofs.Common.{◌≡◌, ℕ, Bool, true, false, cond, List, [], ◌∷◌, ◌++◌, get_or, ℤ, refl}
use Rattle.integer.specs.Ends.{Ends}
use Rattle.ports.specs.Channels.{Channel, Meaning, holding}
use Rattle.ports.specs.Calls.{room, fed, feed_after, take_after, set_after}
use Rattle.ports.specs.Stored.{stored}
use Rattle.ports.proofs.Layering.{layer_changed}
use Rattle.clip.specs.Clips.{nearest, no_band, clip_channel, clipped}

fed_clipped : (low high : ℤ) (ch : Channel) (v : ℤ) → clip_channel low high (fed ch v) ≡ fed (clip_channel low high ch) v
fed_clipped low high ch v = by_room (room ch)
  where
    by_room : (b : Bool) → clip_channel low high (cond b (holding ch (ch.waiting ++ ch.reading v ∷ [])) ch) ≡ cond b (holding (clip_channel low high ch) (ch.waiting ++ ch.reading v ∷ [])) (clip_channel low high ch)
    by_room true = refl
    by_room false = refl

module _ (bands : List Ends) (m : Meaning) (c : ℕ) where
  abbrev by : ℕ → Channel → Channel
  by k = clip_channel (stored (get_or bands k no_band).low) (stored (get_or bands k no_band).high)

  pub clipped_fed : (v : ℤ) → clipped bands (feed_after m c v) ≡ feed_after (clipped bands m) c v
  clipped_fed v = layer_changed by m c (fed (m c) v) (fed (by c (m c)) v) (fed_clipped _ _ (m c) v)

  pub clipped_took : clipped bands (take_after m c) ≡ take_after (clipped bands m) c
  clipped_took = layer_changed by m c _ _ refl

  pub clipped_set : (v : ℤ) → clipped bands (set_after m c (nearest (stored (get_or bands c no_band).low) (stored (get_or bands c no_band).high) v)) ≡ set_after (clipped bands m) c v
  clipped_set v = layer_changed by m c _ _ refl
