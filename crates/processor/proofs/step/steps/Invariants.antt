use mathlib.Core.Path.{◌≡◌}
use Prim.Native.Nat.{◌-◌}
use Rattle.processor.specs.Shows.{stretched, before}
use Rattle.processor.proofs.step.steps.Given as goal

abbrev pub invariant-loop-turn : goal.invariant-loop-turn
invariant-loop-turn l = stretched l.budget l.code l.initial.m ≡ before l.turn (stretched (l.budget - l.turn) l.code l.m)
