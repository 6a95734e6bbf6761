-- Numbers that a port keeps.
use Rattle.std.specs.Prelude.{ℤ}
use Rattle.integer.specs.Ends.{integer, held}

-- a number that a port keeps, as an INTEGER: it is one already, so this is the number itself
unfoldable pub stored : ℤ → ℤ
stored z = held integer z
