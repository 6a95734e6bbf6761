-- The law that every port keeps.
use Rattle.std.specs.Prelude.{ℕ, ◌≤◌, ℤ}
use Rattle.std.specs.List.{AllByRecursion}
use Rattle.integer.specs.Ends.{integer, Within}
use Rattle.ports.specs.Channels.{Channel, Meaning}

-- z is an INTEGER
abbrev pub Integer : ℤ → Type 0
Integer z = Within integer z

-- no channel is deeper
abbrev pub deepest : ℕ
deepest = 4096

-- a channel is at most 4,096 deep, holds INTEGERs, and takes INTEGERs to INTEGERs
pub record LawfulChannel (ch : Channel) : Type 0 where
  pub shallow : ch.depth ≤ deepest
  pub waits : AllByRecursion Integer ch.waiting
  pub shows : Integer ch.last
  pub reads : (v : ℤ) → Integer v → Integer (ch.reading v)
  pub sets : (v : ℤ) → Integer v → Integer (ch.setting v)

-- so is every channel of a port
abbrev pub Lawful : Meaning → Type 0
Lawful m = (c : ℕ) → LawfulChannel (m c)
