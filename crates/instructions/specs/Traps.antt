-- The number of each trap.
use Rattle.std.specs.Prelude.{ℕ}
use Rattle.instructions.specs.declared.answers.Trap.{Trap}
use Rattle.instructions.specs.declared.answers.Trap.TheVariants.{Range, Divisor, Index, Channel, Element, Activations, NoResult}

-- the number that a trap goes by
abbrev pub trap_number : Trap → ℕ
trap_number Range = 1
trap_number Divisor = 2
trap_number Index = 3
trap_number Channel = 4
trap_number Element = 5
trap_number Activations = 6
trap_number NoResult = 7
