-- A change of one channel, seen through a layer, is a change of that channel.
use Rattle.std.proofs.Common.{◌≡◌, ℕ, Bool, true, false, cond, eqb, ltb, refl, ap, ◌∙◌}
use mathlib.Core.Path.{fun_ext}
use Rattle.std.proofs.lemmas.Bool.{eqb-true}
use Rattle.ports.specs.Channels.{Channel, Meaning, channels}
use Rattle.ports.specs.Calls.{changed}
use Rattle.ports.specs.Layers.{layered}

pub layer_changed : (f : ℕ → Channel → Channel) (m : Meaning) (c : ℕ) (x y : Channel) → f c x ≡ y → layered f (changed m c x) ≡ changed (layered f m) c y
layer_changed f m c x y e = by_channel (ltb c channels)
  where
    here : (k : ℕ) (b : Bool) → (b ≡ true → k ≡ c) → f k (cond b x (m k)) ≡ cond b y (f k (m k))
    here k true h = ap (λ j. f j x) (h refl) ∙ e
    here k false h = refl

    by_channel : (b : Bool) → layered f (cond b (λ k. cond (eqb k c) x (m k)) m) ≡ cond b (λ k. cond (eqb k c) y (layered f m k)) (layered f m)
    by_channel true = fun_ext (λ k. here k (eqb k c) (eqb-true k c))
    by_channel false = refl
