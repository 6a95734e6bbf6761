-- A sample that joins a channel commutes with what else is done with channels.
use Rattle.std.proofs.Common.{◌≡◌, ℕ, Bool, true, false, cond, ◌&&◌, eqb, ltb, ◌⊎◌, List, [], ◌∷◌, ◌++◌, ℤ, Some, None, sym, refl, ap, ◌∙◌, subst, inl, inr, arith}
use mathlib.Core.Path.{fun_ext}
use Rattle.std.proofs.lemmas.Bool.{eqb-true}
use Rattle.ports.specs.Calls.{changed, oldest, newer, take_after, set_after}
use Rattle.ports.specs.Channels.{Channel, Meaning, channels, holding, showing}
use Rattle.ports.specs.Samples.{Sample, longer, joined}

-- a channel altered by a rule
abbrev on : (Channel → Channel) → ℕ → Meaning → Meaning
on f c m = changed m c (f (m c))

-- k is the channel c, and there is such a channel
abbrev is : ℕ → ℕ → Bool
is k c = ltb c channels && eqb k c

second : (a b : Bool) → (a && b) ≡ true → b ≡ true
second true b e = e
second false true e = refl
second false false e = e

is_true : (k c : ℕ) → is k c ≡ true → k ≡ c
is_true k c e = eqb-true k c (second (ltb c channels) (eqb k c) e)

module _ (f : Channel → Channel) (c : ℕ) (m : Meaning) (k : ℕ) where
  here : (d : Bool) → (d ≡ true → k ≡ c) → cond d (f (m c)) (m k) ≡ cond d (f (m k)) (m k)
  here true e = ap (λ i. f (m i)) (sym (e refl))
  here false e = refl

  range : (b : Bool) → cond b (λ i. cond (eqb i c) (f (m c)) (m i)) m k ≡ cond (b && eqb k c) (f (m k)) (m k)
  range true = here (eqb k c) (eqb-true k c)
  range false = refl

  on_at : on f c m k ≡ cond (is k c) (f (m k)) (m k)
  on_at = range (ltb c channels)

-- two rules that commute where they meet
module _ (f g : Channel → Channel) (c d : ℕ) (m : Meaning) (e : (k : ℕ) → k ≡ d → f (g (m k)) ≡ g (f (m k))) where
  both : (k : ℕ) (a b : Bool) → (b ≡ true → k ≡ d) → cond a (f (cond b (g (m k)) (m k))) (cond b (g (m k)) (m k)) ≡ cond b (g (cond a (f (m k)) (m k))) (cond a (f (m k)) (m k))
  both k true true h = e k (h refl)
  both k true false h = refl
  both k false true h = refl
  both k false false h = refl

  commute : on f c (on g d m) ≡ on g d (on f c m)
  commute = fun_ext λ k.
      on_at f c (on g d m) k ∙ ap (λ x. cond (is k c) (f x) x) (on_at g d m k) ∙ both k (is k c) (is k d) (is_true k d)
      ∙ sym (on_at g d (on f c m) k ∙ ap (λ x. cond (is k d) (g x) x) (on_at f c m k))

-- what waits is taken first
oldest_stays : (ws : List ℤ) (y z : ℤ) → oldest ws ≡ Some z → oldest (ws ++ y ∷ []) ≡ Some z
oldest_stays [] y z e = absurd (let q : ◌≡◌ {A = ℕ} 0 1 = cc in omega arith)
oldest_stays (w ∷ ws) y z e = e

newer_stays : (ws : List ℤ) (y z : ℤ) → oldest ws ≡ Some z → newer ws ++ y ∷ [] ≡ newer (ws ++ y ∷ [])
newer_stays [] y z e = absurd (let q : ◌≡◌ {A = ℕ} 0 1 = cc in omega arith)
newer_stays (w ∷ ws) y z e = refl

module _ (s : Sample) where
  -- a sample that waits is found first
  pub joined_finds : (c : ℕ) (z : ℤ) (m : Meaning) → oldest (m c).waiting ≡ Some z → oldest (joined s m c).waiting ≡ Some z
  joined_finds c z m e = ap (λ ch. oldest ch.waiting) (on_at (longer s.value) s.channel m c) ∙ go (is c s.channel)
    where
      go : (b : Bool) → oldest (cond b (longer s.value (m c)) (m c)).waiting ≡ Some z
      go true = oldest_stays (m c).waiting ((m c).reading s.value) z e
      go false = e

  -- where none waits, one may have joined
  pub joined_lacks : (c : ℕ) (m : Meaning) → oldest (m c).waiting ≡ None → (c ≡ s.channel) ⊎ (oldest (joined s m c).waiting ≡ None)
  joined_lacks c m e = go (is c s.channel) (is_true c s.channel) (ap (λ ch. oldest ch.waiting) (on_at (longer s.value) s.channel m c))
    where
      go : (b : Bool) → (b ≡ true → c ≡ s.channel) → oldest (joined s m c).waiting ≡ oldest (cond b (longer s.value (m c)) (m c)).waiting → (c ≡ s.channel) ⊎ (oldest (joined s m c).waiting ≡ None)
      go true h q = inl (h refl)
      go false h q = inr (q ∙ e)

  -- and is taken first
  pub joined_takes : (c : ℕ) (z : ℤ) (m : Meaning) → oldest (m c).waiting ≡ Some z → joined s (take_after m c) ≡ take_after (joined s m) c
  joined_takes c z m e =
      let Found : ℕ → Type 0 = λ k. oldest (m k).waiting ≡ Some z in
      commute (longer s.value) (λ ch. holding ch (newer ch.waiting)) s.channel c m
      (λ k q. ap (holding (m k)) (newer_stays (m k).waiting ((m k).reading s.value) z (subst Found (sym q) e)))

  -- what is set does not look at what waits
  pub joined_sets : (c : ℕ) (x : ℤ) (m : Meaning) → joined s (set_after m c x) ≡ set_after (joined s m) c x
  joined_sets c x m = commute (longer s.value) (λ ch. showing ch (ch.setting x)) s.channel c m (λ k q. refl)
