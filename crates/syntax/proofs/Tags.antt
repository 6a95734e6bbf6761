-- The symbols of a list of records, by their indexes.
use Rattle.std.proofs.Common.{◌≡◌, ℕ, zero, suc, ◌<◌, ◌≤◌, List, [], ◌∷◌, length, get_or, refl, ap, le_of_suc-le-suc, arith}
use Rattle.lexer.specs.declared.symbol.SymbolRecord.{SymbolRecord}
use Rattle.grammar.specs.Codes.{code}
use Rattle.syntax.specs.Symbols.{tag_codes, tag_at, place_of}
use Rattle.vocabulary.specs.declared.tag.Tag.TheVariants.{EndOfSource}

pub tag_in : (rs : List SymbolRecord) (i : ℕ) (d : SymbolRecord) → i < length rs → code (get_or rs i d).tag ≡ get_or (tag_codes rs) i 0
tag_in [] i d h = absurd (omega arith)
tag_in (r ∷ rs) zero d h = refl
tag_in (r ∷ rs) (suc i) d h = tag_in rs i d (le_of_suc-le-suc h)

pub tag_past : (rs : List SymbolRecord) (i : ℕ) → length rs ≤ i → ◌≡◌ {A = ℕ} 0 (get_or (tag_codes rs) i 0)
tag_past [] i h = refl
tag_past (r ∷ rs) zero h = absurd (omega arith)
tag_past (r ∷ rs) (suc i) h = tag_past rs i (le_of_suc-le-suc h)

pub tags_long : (rs : List SymbolRecord) → length (tag_codes rs) ≡ length rs
tags_long [] = refl
tags_long (r ∷ rs) = ap suc (tags_long rs)

pub place_past : (rs : List SymbolRecord) (i : ℕ) → length rs ≤ i → ◌≡◌ {A = ℕ} 0 (place_of rs i)
place_past [] i h = refl
place_past (r ∷ rs) zero h = absurd (omega arith)
place_past (r ∷ rs) (suc i) h = place_past rs i (le_of_suc-le-suc h)

pub end_past : (rs : List SymbolRecord) (i : ℕ) → length rs ≤ i → EndOfSource ≡ tag_at rs i
end_past [] i h = refl
end_past (r ∷ rs) zero h = absurd (omega arith)
end_past (r ∷ rs) (suc i) h = end_past rs i (le_of_suc-le-suc h)
