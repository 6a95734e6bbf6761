-- What operations make of the values that they take.
use Rattle.std.specs.Prelude.{ℕ, Bool, false, cond, ◌&&◌, ℤ, pos, negsuc, ◌+ℤ◌, ◌-ℤ◌, Some, None, Option, int_le, nat_lt}
use Rattle.integer.specs.Division.{divided}
use Rattle.integer.specs.Ends.{Ends}

-- the channels of a port
abbrev pub channel_numbers : Ends
channel_numbers = record { low = pos 0; high = pos 15 }

-- FALSE is 0 and TRUE is 1
abbrev pub truth : Bool → ℤ
truth b = cond b (pos 1) (pos 0)

-- an operand as an INTEGER: 65,536 less from 32,768 up
abbrev pub signed : ℕ → ℤ
signed n = cond (nat_lt n 32768) (pos n) (pos n -ℤ pos 65536)

-- x and y are one number
abbrev pub same : ℤ → ℤ → Bool
same x y = int_le x y && int_le y x

-- n where z is the natural number n, or none
abbrev pub natural : ℤ → Option ℕ
natural (pos n) = Some n
natural (negsuc n) = None

-- the quotient of a pair
abbrev pub quotient : Option (ℤ × ℤ) → Option ℤ
quotient (Some p) = Some p.0
quotient None = None

-- the remainder of a pair
abbrev pub remainder : Option (ℤ × ℤ) → Option ℤ
remainder (Some p) = Some p.1
remainder None = None

abbrev pub is_one : Option ℤ → Bool
is_one (Some r) = same r (pos 1)
is_one None = false

-- x is odd: divided by 2 it leaves 1
abbrev pub odd : ℤ → Bool
odd x = is_one (remainder (divided x (pos 2)))

-- the term t plus the step s does not surpass the limit l
abbrev pub goes_on : ℤ → ℤ → ℤ → Bool
goes_on t l s = cond (int_le (pos 0) s) (int_le (t +ℤ s) l) (int_le l (t +ℤ s))

-- the term that follows t where the FOR goes on; otherwise t
abbrev pub following : ℤ → ℤ → ℤ → ℤ
following t l s = cond (goes_on t l s) (t +ℤ s) t
