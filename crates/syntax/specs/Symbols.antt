-- What the parser sees of the symbols of a source.
use Rattle.std.specs.Prelude.{ℕ, List, [], ◌∷◌, take, drop, ℤ, Ok, Err, Result, slice_index_or, unsigned_abs}
use Rattle.faults.specs.declared.kind.FaultKind.{FaultKind}
use Rattle.vocabulary.specs.declared.tag.Tag.{Tag}
use Rattle.vocabulary.specs.Characters.{run}
use Rattle.vocabulary.specs.Numbers.{number_value, judged}
use Rattle.lexer.specs.declared.symbol.SymbolRecord.{SymbolRecord}
use Rattle.lexer.specs.Records.{zero_record}
use Rattle.grammar.specs.Codes.{code}

-- the symbols as the grammar has them
abbrev pub tag_codes : List SymbolRecord → List ℕ
tag_codes [] = []
tag_codes (r ∷ rs) = code r.tag ∷ tag_codes rs

-- symbol i, that of the end behind the last
abbrev pub symbol_at : List SymbolRecord → ℕ → SymbolRecord
symbol_at rs i = slice_index_or rs i zero_record

-- the place of symbol i
abbrev pub place_of : List SymbolRecord → ℕ → ℕ
place_of rs i = (symbol_at rs i).place

-- how long the word or number at a place is
abbrev pub word_length : List ℕ → ℕ → ℕ
word_length s p = run (drop p s)

abbrev pub value_or0 : Result ℤ FaultKind → ℕ
value_or0 (Ok z) = unsigned_abs z
value_or0 (Err k) = 0

-- the value of the number at a place
abbrev pub number_at : List ℕ → ℕ → ℕ
number_at s p = value_or0 (judged (number_value (take (word_length s p) (drop p s))))

-- the tag of symbol i, that of the end behind the last
abbrev pub tag_at : List SymbolRecord → ℕ → Tag
tag_at rs i = (symbol_at rs i).tag
