-- What a queue answers, and what it means after each call.
use Rattle.std.proofs.Common.{◌≡◌, ℕ, suc, ◌+◌, ◌-◌, ◌<◌, ◌≤◌, ◌≢◌, List, [], ◌∷◌, ◌++◌, length, get_or, set, replicate, ℤ, pos, Some, None, Ok, Err, Result, sym, refl, ap, ◌∙◌, ap₂, inl, inr, arith}
use mathlib.Core.Path.{fun_ext}
use Rattle.std.proofs.lemmas.List.{get_or-set_same, get_or-set_other, get_or_past, length-set}
use Rattle.std.proofs.lemmas.Bool.{cases_lt}
use Rattle.ports.specs.declared.seen.Seen.{Seen}
use Rattle.ports.specs.Channels.{Meaning, channels, holding}
use Rattle.ports.specs.Calls.{changed, fed, oldest, newer, feed_answer, feed_after, take_answer, take_after, set_after, look_answer}
use Rattle.ports.specs.Layers.{plain, blank}
use Rattle.ports.specs.Stored.{stored}
use Rattle.ports.proofs.Changing.{get_or_row, changed_by, answered, fed_room, feed_room, feed_full, fed_full}
use Rattle.ports.proofs.Integers.{stored_same}
use Rattle.ports.proofs.Width.{Fits}
use Rattle.queue.specs.declared.Ring.{Ring}
use Rattle.queue.specs.Queued.{share, wrap, place, samples, IsInside, ring_channel, empty_ring, queued}
use Rattle.queue.proofs.Ringing.{length_samples, samples_fed, samples_other, samples_took, samples_oldest}

pub queued_new : (xs : List ℤ) → queued xs (replicate 16 empty_ring) ≡ blank (share (length xs))
unfolding stored
queued_new xs = fun_ext (λ k. ap (ring_channel xs (share (length xs)) k) (get_or_row 16 k empty_ring))

module _ (xs : List ℤ) (rings : List Ring) (c : ℕ) (hc : c < channels) where
  abbrev d : ℕ
  d = share (length xs)

  abbrev m : Meaning
  m = queued xs rings

  abbrev r : Ring
  r = get_or rings c empty_ring

  abbrev h : ℕ
  h = r.head

  abbrev n : ℕ
  n = r.count

  replaced : (s : Ring) → length rings ≡ 16 → queued xs (set rings c s) ≡ changed m c (ring_channel xs d c s)
  replaced s hl = changed_by m (queued xs (set rings c s)) c (ring_channel xs d c s) hc (ap (ring_channel xs d c) (get_or-set_same rings c s empty_ring (omega arith))) (λ k ne. ap (ring_channel xs d k) (get_or-set_other rings c k s empty_ring ne))

  pub queued_look : Fits r.last → Ok (record { waiting = n; last = r.last }) ≡ look_answer m c
  queued_look fits = sym (answered c _ hc ∙ ap₂ seen (length_samples xs d c h n) (stored_same r.last fits))
    where
      seen : ℕ → ℤ → Result Seen ℕ
      seen a z = Ok (record { waiting = a; last = z })

  pub queued_set : (v : ℤ) → Fits v → length rings ≡ 16 → queued xs (set rings c (record { head = r.head; count = r.count; last = v })) ≡ set_after m c v
  queued_set v fits hl = replaced _ hl ∙ ap (changed m c) (ap (plain d (samples xs d c h n)) (stored_same v fits))

  pub queued_feed_full : d ≤ n → Err 52 ≡ feed_answer m c
  queued_feed_full l = feed_full m c hc (rw (length_samples xs d c h n) l)

  pub queued_fed_full : (v : ℤ) → d ≤ n → m ≡ feed_after m c v
  queued_fed_full v l = fed_full m c hc v (rw (length_samples xs d c h n) l)

  pub queued_feed : n < d → Ok tt ≡ feed_answer m c
  queued_feed l = feed_room m c hc (rw (length_samples xs d c h n) l)

  pub queued_fed : (v : ℤ) → Fits v → length rings ≡ 16 → IsInside d r → n < d → queued (set xs (place d h n c) v) (set rings c (record { head = h; count = n + 1; last = r.last })) ≡ feed_after m c v
  queued_fed v fits hl inside l = ap (λ a. shaped (share a)) (length-set xs (place d h n c) v) ∙ changed_by m (shaped d) c (fed (m c) v) hc (ap (ring_channel ys d c) (get_or-set_same rings c more empty_ring (omega arith)) ∙ here) other
    where
      ys : List ℤ
      ys = set xs (place d h n c) v

      more : Ring
      more = record { head = h; count = n + 1; last = r.last }

      shaped : ℕ → Meaning
      shaped e k = ring_channel ys e k (get_or (set rings c more) k empty_ring)

      here : ring_channel ys d c more ≡ fed (m c) v
      here =
          ap (λ w. plain d w (stored r.last))
          (samples_fed xs d c h n v hc inside.head l (omega arith)
          ∙ ap (λ z. samples xs d c h n ++ z ∷ []) (stored_same v fits))
          ∙ sym (fed_room m c hc v (rw (length_samples xs d c h n) l))

      other_samples : (k : ℕ) (s : Ring) → k ≢ c → (channels ≤ k → s.count ≡ 0) → samples ys d k s.head s.count ≡ samples xs d k s.head s.count
      other_samples k s ne past =
          elim (cases_lt k 16) [
            | inl q ↦ samples_other xs d c k s.head s.count (wrap d (h + n)) v hc q ne
            | inr q ↦ ap (samples ys d k s.head) (past q) ∙ sym (ap (samples xs d k s.head) (past q))
          ]

      other : (k : ℕ) → (k ≡ c → ⊥) → shaped d k ≡ m k
      other k ne =
          ap (ring_channel ys d k) (get_or-set_other rings c k more empty_ring ne)
          ∙ ap (λ w. plain d w (stored (get_or rings k empty_ring).last)) (other_samples k (get_or rings k empty_ring) ne (λ q. ap (λ s. s.count) (get_or_past rings k empty_ring (omega arith))))

  pub queued_none : n ≡ 0 → Ok None ≡ take_answer m c
  queued_none z = sym (answered c _ hc ∙ ap (λ a. Ok (oldest (samples xs d c h a))) z)

  pub queued_left : n ≡ 0 → m ≡ take_after m c
  queued_left z = changed_by m m c (holding (m c) (newer (m c).waiting)) hc (ap (λ a. plain d (samples xs d c h a) (stored r.last)) z ∙ sym (ap (λ a. holding (m c) (newer (samples xs d c h a))) z)) (λ k ne. refl)

  more : 0 < n → suc (n - 1) ≡ n
  more p = omega arith

  pub queued_take : 0 < n → Fits (get_or xs (place d h 0 c) (pos 0)) → Ok (Some (get_or xs (place d h 0 c) (pos 0))) ≡ take_answer m c
  queued_take p fits = sym (answered c _ hc ∙ ap (λ a. Ok (oldest (samples xs d c h a))) (sym (more p)) ∙ ap Ok (samples_oldest xs d c h (n - 1)) ∙ ap (λ z. Ok (Some z)) (stored_same _ fits))

  pub queued_took : length rings ≡ 16 → IsInside d r → 0 < n → queued xs (set rings c (record { head = wrap d (h + 1); count = n - 1; last = r.last })) ≡ take_after m c
  queued_took hl inside p = replaced _ hl ∙ ap (λ w. changed m c (plain d w (stored r.last))) (samples_took xs d c h (n - 1) inside.head (omega (arith, inside.count)) ∙ ap (λ e. newer (samples xs d c h e)) (more p))
