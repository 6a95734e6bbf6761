-- The number of a band that is nearest to a given number.
use Rattle.std.specs.Prelude.{◌≡◌, ◌≤◌, ℤ, ◌-ℤ◌, ◌≤ℤ◌, unsigned_abs}
use Rattle.integer.specs.Ends.{Ends, Within, held}

-- the band from a to b
abbrev pub band : ℤ → ℤ → Ends
band a b = record { low = a; high = b }

-- r is the number of the band that is nearest to z
pub record Nearest (e : Ends) (z r : ℤ) : Type 0 where
  -- it lies in the band
  pub inside : Within e r
  -- a number of the band stays, and any other goes to the end on its side
  pub same : Within e z → r ≡ z
  pub below : z ≤ℤ e.low → r ≡ e.low
  pub above : e.high ≤ℤ z → r ≡ e.high
  -- no number of the band is nearer
  pub least : (n : ℤ) → Within e n → unsigned_abs (z -ℤ r) ≤ unsigned_abs (z -ℤ n)

-- between any two ends in order, what is held is nearest
abbrev pub HeldIsNearest : Type 0
HeldIsNearest = (e : Ends) (z : ℤ) → e.low ≤ℤ e.high → Nearest e z (held e z)
