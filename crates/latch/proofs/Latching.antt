-- What a latch answers, and what it means after each call.
use Rattle.std.proofs.Common.{◌≡◌, ℕ, ◌<◌, List, [], ◌∷◌, length, get_or, set, replicate, ℤ, Some, None, Ok, Option, Result, is_some, false, sym, refl, ap, ◌∙◌, ap₂, arith}
use mathlib.Core.Path.{fun_ext}
use mir.Val.{bool_byte}
use Rattle.ports.specs.declared.seen.Seen.{Seen}
use Rattle.ports.specs.Channels.{Channel, Meaning, channels}
use Rattle.ports.specs.Calls.{changed, fed, oldest, feed_after, take_answer, set_after, look_answer}
use Rattle.ports.specs.Layers.{plain, blank}
use Rattle.ports.specs.Stored.{stored}
use Rattle.ports.proofs.Changing.{get_or_row, row_changed, answered}
use Rattle.ports.proofs.Integers.{stored_same}
use Rattle.ports.proofs.Width.{Fits}
use Rattle.latch.specs.declared.Slot.{Slot}
use Rattle.latch.specs.Latched.{waiting_in, slot_channel, empty_slot, latched}

pub latched_new : latched (replicate 16 empty_slot) ≡ blank 1
unfolding stored
latched_new = fun_ext (λ k. ap slot_channel (get_or_row 16 k empty_slot))

module _ (slots : List Slot) (c : ℕ) (hc : c < channels) (hl : length slots ≡ 16) where
  abbrev s : Slot
  s = get_or slots c empty_slot

  abbrev m : Meaning
  m = latched slots

  replaced : (t : Slot) → latched (set slots c t) ≡ changed m c (slot_channel t)
  replaced t = row_changed slot_channel slots empty_slot t c hc (omega arith)

  -- the channel with o waiting
  abbrev with_waiting : Option ℤ → Channel
  with_waiting o = plain 1 (waiting_in o) (stored s.last)

  pub latched_fed : (v : ℤ) → Fits v → s.waiting ≡ None → latched (set slots c (record { waiting = Some v; last = s.last })) ≡ feed_after m c v
  latched_fed v fits none = replaced _ ∙ ap (changed m c) (ap (λ z. plain 1 (z ∷ []) (stored s.last)) (stored_same v fits) ∙ sym (ap (λ o. fed (with_waiting o) v) none))

  pub latched_take : (o : Option ℤ) → s.waiting ≡ o → ((z : ℤ) → o ≡ Some z → Fits z) → Ok o ≡ take_answer m c
  latched_take o is fits = sym (answered c _ hc ∙ ap (λ w. Ok (oldest (waiting_in w))) is ∙ ap Ok (same_sample o fits))
    where
      same_sample : (w : Option ℤ) → ((z : ℤ) → w ≡ Some z → Fits z) → oldest (waiting_in w) ≡ w
      same_sample None f = refl
      same_sample (Some z) f = ap Some (stored_same z (f z refl))

  pub latched_set : (v : ℤ) → Fits v → latched (set slots c (record { waiting = s.waiting; last = v })) ≡ set_after m c v
  latched_set v fits = replaced _ ∙ ap (changed m c) (ap (plain 1 (waiting_in s.waiting)) (stored_same v fits))

  pub latched_look : Fits s.last → (n : ℕ) → n ≡ length (waiting_in s.waiting) → Ok (record { waiting = n; last = s.last }) ≡ look_answer m c
  latched_look fits n e = sym (answered c _ hc ∙ ap₂ seen (sym e) (stored_same s.last fits))
    where
      seen : ℕ → ℤ → Result Seen ℕ
      seen a z = Ok (record { waiting = a; last = z })

-- a test whether a sample waits counts it
pub counted : (o : Option ℤ) → bool_byte (is_some o) ≡ length (waiting_in o)
counted None = refl
counted (Some z) = refl

pub none : (o : Option ℤ) → is_some o ≡ false → o ≡ None
none None e = refl
none (Some z) e = cc
