-- INTEGER's two ends, and what lies between two ends.
use Rattle.std.specs.Prelude.{Bool, cond, ◌&&◌, ℤ, pos, negsuc, ◌≤ℤ◌, Some, None, Decides, Option, int_le}

-- the least and the greatest number of a kind of integer
pub record Ends : Type 0 where
  pub low : ℤ
  pub high : ℤ

-- INTEGER: from -32,768 to 32,767
abbrev pub integer : Ends
integer = record { low = negsuc 32767; high = pos 32767 }

-- z lies between the ends
abbrev pub Within : Ends → ℤ → Type 0
Within e z = (e.low ≤ℤ z) × (z ≤ℤ e.high)

-- the test for that
abbrev pub within : Ends → ℤ → Bool
within e z = int_le e.low z && int_le z e.high

-- the test holds of those numbers and no others
abbrev pub WithinIsTested : Type 0
WithinIsTested = (e : Ends) (z : ℤ) → Decides (within e z) (Within e z)

-- z, or none where it lies outside the ends
abbrev pub kept : Ends → ℤ → Option ℤ
kept e z = cond (within e z) (Some z) None

-- the number of the band from low to high that is nearest to z
abbrev pub clamped : ℤ → ℤ → ℤ → ℤ
clamped low high z = cond (int_le z low) low (cond (int_le high z) high z)

-- z held at the ends
abbrev pub held : Ends → ℤ → ℤ
held e z = clamped e.low e.high z
