-- What a number's text stands for.
use Rattle.std.specs.Prelude.{ℕ, ◌+◌, ◌-◌, ◌*◌, ◌^◌, cond, ◌&&◌, List, [], ◌∷◌, length, take, ℤ, pos, Some, None, Ok, Err, Option, Result, ◌==◌, int_le, nat_le, nat_lt, slice_index}
use Rattle.faults.specs.declared.kind.FaultKind.{FaultKind}
use Rattle.faults.specs.declared.kind.FaultKind.TheVariants.{MalformedNumber, NumberTooLarge}
use Rattle.integer.specs.Ends.{integer}
use Rattle.vocabulary.specs.Characters.{digit}

-- what a digit stands for, A to F included; 16, which is below no base here, for any other byte
abbrev pub digit_value : ℕ → ℕ
digit_value c = cond (digit c) (c - 48) (cond (nat_le 65 c && nat_le c 70) (c - 55) 16)

-- the number that the digits in a base make behind what was read before; none where one is no digit of the base
abbrev pub digits_value : ℕ → ℕ → List ℕ → Option ℕ
digits_value base before [] = Some before
digits_value base before (c ∷ cs) =
    cond (nat_lt (digit_value c) base) (digits_value base (before * base + digit_value c) cs) None

-- no value above this is told apart
abbrev pub ceiling : ℕ
ceiling = 2 ^ 32 - 1

-- the base that a number's last byte names: B octal, H hexadecimal, else decimal
abbrev pub base_by : ℕ → ℕ
base_by last = cond (last == 66) 8 (cond (last == 72) 16 10)

-- the base of a number
abbrev pub base_of : List ℕ → ℕ
base_of text = base_by (slice_index text (length text - 1))

-- the digits of a number: all bytes of a decimal one, else all but the last
abbrev pub digits_of : List ℕ → List ℕ
digits_of text = take (cond (base_of text == 10) (length text) (length text - 1)) text

-- the value of a text that begins with a digit, none if it is malformed
abbrev pub number_value : List ℕ → Option ℕ
number_value text = cond (digit (slice_index text 0)) (digits_value (base_of text) 0 (digits_of text)) None

-- a value that is an INTEGER, or what is wrong with the number
abbrev pub judged : Option ℕ → Result ℤ FaultKind
judged None = Err MalformedNumber
judged (Some n) = cond (int_le (pos n) integer.high) (Ok (pos n)) (Err NumberTooLarge)
