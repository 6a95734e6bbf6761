-- Classes of bytes.
use Rattle.std.specs.Prelude.{ℕ, Bool, ◌&&◌, ◌||◌, List, ◌==◌, nat_le}
use Rattle.std.specs.List.{prefix_len}

-- an ASCII letter
abbrev pub letter : ℕ → Bool
letter c = (nat_le 65 c && nat_le c 90) || (nat_le 97 c && nat_le c 122)

-- a decimal digit
abbrev pub digit : ℕ → Bool
digit c = nat_le 48 c && nat_le c 57

-- a byte that goes on with a word or a number
abbrev pub alphanumeric : ℕ → Bool
alphanumeric c = letter c || digit c

-- blank, tab, line feed and carriage return
abbrev pub separator : ℕ → Bool
separator c = c == 32 || (c == 9 || (c == 10 || c == 13))

-- how many letters and digits stand in front
abbrev pub run : List ℕ → ℕ
run bytes = prefix_len alphanumeric bytes
