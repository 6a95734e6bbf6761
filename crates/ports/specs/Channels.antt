-- What a port means.
use Rattle.std.specs.Prelude.{ℕ, List, ℤ}

-- one channel of a port
pub record Channel : Type 0 where
  -- how many samples may wait
  pub depth : ℕ
  -- what a fed value joins the waiting samples as
  pub reading : ℤ → ℤ
  -- what a set value becomes
  pub setting : ℤ → ℤ
  -- the samples that wait, oldest first
  pub waiting : List ℤ
  -- the value last set
  pub last : ℤ

-- a port means a channel for each number
abbrev pub Meaning : Type 0
Meaning = ℕ → Channel

-- the calls reach the channels below this number
abbrev pub channels : ℕ
channels = 16

-- the channel with other samples waiting
abbrev pub holding : Channel → List ℤ → Channel
holding ch zs = record { depth = ch.depth; reading = ch.reading; setting = ch.setting; waiting = zs; last = ch.last }

-- the channel with another value last set
abbrev pub showing : Channel → ℤ → Channel
showing ch z = record { depth = ch.depth; reading = ch.reading; setting = ch.setting; waiting = ch.waiting; last = z }
