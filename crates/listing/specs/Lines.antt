-- Lines of a code list: index, operation, operand and place, parted by one blank each.
use Rattle.std.specs.Prelude.{◌≡◌, ℕ, ◌+◌, ◌<◌, cond, ◌&&◌, List, [], ◌∷◌, ◌++◌, length, take, drop, Some, None, decimal, Option, ◌==◌, nat_le, nat_lt}
use Rattle.std.specs.List.{position_or_len}
use Rattle.vocabulary.specs.Numbers.{digits_value}
use Rattle.instructions.specs.declared.instruction.Instruction.{Instruction}
use Rattle.instructions.specs.declared.operation.Operation.{Operation}
use Rattle.instructions.specs.declared.operation.Operation.TheVariants.{Other}
use Rattle.instructions.specs.Numbers.{table, number_of, operation_of}
use Rattle.names.specs.Names.{spelt, named}

-- the index of the first blank, or the length where there is none
abbrev pub blank : List ℕ → ℕ
blank l = position_or_len (λ c. c == 32) l

-- what stands before the first blank
abbrev pub first_word : List ℕ → List ℕ
first_word l = take (blank l) l

-- what stands behind the first blank
abbrev pub behind : List ℕ → List ℕ
behind l = drop (blank l + 1) l

abbrev pub below : ℕ → Option ℕ → Option ℕ
below limit (Some n) = cond (nat_lt n limit) (Some n) None
below limit None = None

-- the number from 0 to 65,535 that a word writes in decimal digits
abbrev pub number : List ℕ → Option ℕ
number word = cond (length word == 0) None (below 65536 (digits_value 10 0 word))

-- the operation of a number that the table does not have
abbrev pub unlisted : Option ℕ → Option Operation
unlisted (Some n) = cond (nat_le 48 n && nat_lt n 256) (Some (Other n)) None
unlisted None = None

abbrev pub operation_by : Option Operation → List ℕ → Option Operation
operation_by (Some o) word = Some o
operation_by None word = unlisted (number word)

-- the operation that a word names, by its name or, where the table does not have it, by its number
abbrev pub operation : List ℕ → Option Operation
operation word = operation_by (named table word) word

abbrev pub assembled : Option ℕ → Option Operation → Option ℕ → Option ℕ → Option (ℕ × Instruction)
assembled (Some n) (Some o) (Some x) (Some p) = Some (n, record { operation = o; operand = x; place = p })
assembled (Some n) (Some o) (Some x) None = None
assembled (Some n) (Some o) None p = None
assembled (Some n) None x p = None
assembled None o x p = None

-- the index and the instruction that a line writes, or none where it is malformed
abbrev pub reading : List ℕ → Option (ℕ × Instruction)
reading l = assembled (number (first_word l)) (operation (first_word (behind l))) (number (first_word (behind (behind l)))) (number (behind (behind (behind l))))

abbrev pub named_or_number : Operation → List ℕ → List ℕ
named_or_number o [] = decimal (number_of o)
named_or_number o (c ∷ cs) = c ∷ cs

-- how an operation is written: by its name, or by its number where the table does not have it
abbrev pub operation_text : Operation → List ℕ
operation_text o = named_or_number o (spelt o)

-- an instruction as a line
abbrev pub written : ℕ → Instruction → List ℕ
written n i = decimal n ++ (32 ∷ (operation_text i.operation ++ (32 ∷ (decimal i.operand ++ (32 ∷ decimal i.place)))))

-- reading what was written gives the index and the instruction back, for every operation that a byte can number
abbrev pub ReadsBack : Type 0
ReadsBack =
    (n : ℕ) (i : Instruction) → n < 65536 → i.operand < 65536 → i.place < 65536
    → number_of i.operation < 256 → operation_of (number_of i.operation) ≡ i.operation
    → reading (written n i) ≡ Some (n, i)
