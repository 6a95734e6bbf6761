-- A port as a script sets it up.
use Rattle.std.specs.Prelude.{◌≡◌, ℕ, List, ℤ}
use Rattle.integer.specs.Ends.{Ends}
use Rattle.clip.specs.Clips.{clipped}
use Rattle.ports.specs.Channels.{Meaning}
use Rattle.ports.specs.Layers.{blank}
use Rattle.trim.specs.Trims.{trimmed}

-- a trim over a clip over a port on which nothing waits and nothing was set
pub record Prepared (m : Meaning) : Type 0 where
  pub depth : ℕ
  pub offsets : List ℤ
  pub bands : List Ends
  pub is : m ≡ trimmed offsets (clipped bands (blank depth))
