-- What is wrong with a source that cannot be read, told of the source alone: the symbols before the first fault,
-- and what stands at its place.
use Rattle.std.specs.Prelude.{◌≡◌, ℕ, ◌<◌, ◌≤◌, true, false, List, length, take, drop, pos, Some, None, Err, slice_index}
use Rattle.faults.specs.declared.kind.FaultKind.{FaultKind}
use Rattle.faults.specs.declared.kind.FaultKind.TheVariants.{StrayByte, MalformedNumber, NumberTooLarge, OpenComment, TooManySymbols}
use Rattle.faults.specs.declared.kind.Fault.{Fault}
use Rattle.integer.specs.Ends.{integer, Within}
use Rattle.vocabulary.specs.Characters.{digit, separator}
use Rattle.vocabulary.specs.Numbers.{number_value}
use Rattle.lexer.specs.Scan.{Found, fault, symbols_of, symbol_limit}
use Rattle.lexer.specs.Reading.{stretch, opening, Inside, Gap, all_alphanumeric, symbol_tag, IsSymbol, ReadsTo}

-- the bytes begin with a digit, and this is the longest run of letters and digits in front of them
pub record Numeral (xs text : List ℕ) : Type 0 where
  pub front : text ≡ take (length text) xs
  pub first : digit (slice_index text 0) ≡ true
  pub whole : all_alphanumeric text ≡ true
  pub longest : (n : ℕ) → length text < n → n ≤ length xs → all_alphanumeric (take n xs) ≡ false

-- the bytes begin with what is no part of a readable source
pub data Unreadable : FaultKind → List ℕ → Type 0 where
  -- neither a symbol nor a separator nor a comment
  stray : {xs : List ℕ} → 0 < length xs → ((n : ℕ) → symbol_tag (take n xs) ≡ None) → separator (slice_index xs 0) ≡ false → opening xs ≡ false → Unreadable StrayByte xs
  -- a number that has no value
  malformed : {xs text : List ℕ} → Numeral xs text → number_value text ≡ None → Unreadable MalformedNumber xs
  -- a number that stands for no INTEGER
  large : {xs text : List ℕ} {n : ℕ} → Numeral xs text → number_value text ≡ Some n → (Within integer (pos n) → ⊥) → Unreadable NumberTooLarge xs
  -- a comment that is never closed
  unclosed : {xs : List ℕ} → opening xs ≡ true → ((n : ℕ) → Inside 1 (take n (drop 2 xs)) → ⊥) → Unreadable OpenComment xs

-- a fault behind these symbols, of which so many are allowed: unreadable bytes, or a symbol too many
pub data Wrong (s : List ℕ) (limit : ℕ) (before : List Found) : Fault → Type 0 where
  unreadable : {e : Fault} → Unreadable e.kind (drop e.place s) → Wrong s limit before e
  surplus : {f : Found} → length before ≡ limit → IsSymbol s f → Wrong s limit before (fault TooManySymbols f.place)

-- the first fault from a place on: symbols are read before it, and a gap lies between them and it
pub record FirstFault (s : List ℕ) (limit from : ℕ) (e : Fault) : Type 0 where
  pub before : List Found
  pub up_to : ℕ
  pub symbols : ReadsTo s from before up_to
  pub room : length before ≤ limit
  pub order : up_to ≤ e.place
  pub gap : Gap (stretch s up_to e.place)
  pub wrong : Wrong s limit before e

-- a source is refused with the first fault from its start
pub record LawfulRefusal (s : List ℕ) : Type 0 where
  pub sound : (e : Fault) → symbols_of s ≡ Err e → FirstFault s symbol_limit 0 e
  pub complete : (e : Fault) → FirstFault s symbol_limit 0 e → symbols_of s ≡ Err e
