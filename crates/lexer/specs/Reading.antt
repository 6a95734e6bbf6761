-- What it is to read a source, told of the source alone: symbols one behind another, each the longest that
-- begins at its place, with nothing but separators and closed comments before, between and behind them.
use Rattle.std.specs.Prelude.{◌≡◌, ℕ, zero, suc, ◌-◌, ◌<◌, ◌≤◌, Bool, true, false, cond, ◌&&◌, List, [], ◌∷◌, ◌++◌, length, take, drop, pos, Some, None, Ok, Option, slice_index, slice_range}
use Rattle.integer.specs.Ends.{integer, Within}
use Rattle.vocabulary.specs.declared.tag.Tag.{Tag}
use Rattle.vocabulary.specs.declared.tag.Tag.TheVariants.{Number}
use Rattle.vocabulary.specs.Characters.{letter, digit, alphanumeric, separator}
use Rattle.vocabulary.specs.Tags.{word_tag}
use Rattle.vocabulary.specs.Numbers.{number_value}
use Rattle.vocabulary.specs.Signs.{sign_tag}
use Rattle.lexer.specs.Leads.{opens, closes}
use Rattle.lexer.specs.Scan.{Found, end_of, symbols_of, symbol_limit}

-- the bytes of a source from one place to another
abbrev pub stretch : List ℕ → ℕ → ℕ → List ℕ
stretch s from to = slice_range s from to

-- the bytes begin with `(*`
abbrev pub opening : List ℕ → Bool
opening [] = false
opening (a ∷ []) = false
opening (a ∷ (b ∷ cs)) = opens a b

-- the bytes begin with `*)`
abbrev pub closing : List ℕ → Bool
closing [] = false
closing (a ∷ []) = false
closing (a ∷ (b ∷ cs)) = closes a b

-- bytes inside so many open comments, which end where the outermost is closed
pub data Inside : ℕ → List ℕ → Type 0 where
  closed : Inside zero []
  close : {depth : ℕ} {xs : List ℕ} → Inside depth xs → Inside (suc depth) (42 ∷ (41 ∷ xs))
  nest : {depth : ℕ} {xs : List ℕ} → Inside (suc (suc depth)) xs → Inside (suc depth) (40 ∷ (42 ∷ xs))
  byte : {depth c : ℕ} {xs : List ℕ} → opening (c ∷ xs) ≡ false → closing (c ∷ xs) ≡ false → Inside (suc depth) xs → Inside (suc depth) (c ∷ xs)

-- separators and closed comments
pub data Gap : List ℕ → Type 0 where
  none : Gap []
  blank : {c : ℕ} {xs : List ℕ} → separator c ≡ true → Gap xs → Gap (c ∷ xs)
  comment : {ks xs : List ℕ} → Inside 1 ks → Gap xs → Gap (40 ∷ (42 ∷ (ks ++ xs)))

-- every byte is a letter or a digit
abbrev pub all_alphanumeric : List ℕ → Bool
all_alphanumeric [] = true
all_alphanumeric (c ∷ cs) = alphanumeric c && all_alphanumeric cs

-- the tag, if the test holds
abbrev pub only : Bool → Tag → Option Tag
only true tag = Some tag
only false tag = None

-- the tag of the word, number or sign that is written so
abbrev pub symbol_tag : List ℕ → Option Tag
symbol_tag [] = None
symbol_tag (c ∷ cs) =
    cond (letter c) (only (all_alphanumeric cs) (word_tag (c ∷ cs)))
    (cond (digit c) (only (all_alphanumeric cs) Number)
    (sign_tag (c ∷ cs)))

-- f is a symbol of the source
pub record IsSymbol (s : List ℕ) (f : Found) : Type 0 where
  -- it lies in the source
  pub inside : end_of f ≤ length s
  -- its text is the very stretch at its place
  pub stretches : f.text ≡ stretch s f.place (end_of f)
  -- its text is a word, a number or a sign with its tag
  pub tagged : symbol_tag f.text ≡ Some f.tag
  -- no longer word, number or sign begins there
  pub longest : (n : ℕ) → length f.text < n → n ≤ length s - f.place → symbol_tag (take n (drop f.place s)) ≡ None
  -- and no comment
  pub bare : opening (drop f.place s) ≡ false
  -- a number stands for an INTEGER
  pub valued : digit (slice_index f.text 0) ≡ true → (n : ℕ) × (number_value f.text ≡ Some n) × Within integer (pos n)

-- these symbols, and no others, are read from one place up to another
pub data ReadsTo (s : List ℕ) : ℕ → List Found → ℕ → Type 0 where
  here : {from : ℕ} → ReadsTo s from [] from
  next : {from to : ℕ} {f : Found} {fs : List Found} → from ≤ f.place → Gap (stretch s from f.place) → IsSymbol s f → ReadsTo s (end_of f) fs to → ReadsTo s from (f ∷ fs) to

-- these symbols, and no others, are read from the place `from` to the end of the source
pub record Reads (s : List ℕ) (from : ℕ) (fs : List Found) : Type 0 where
  pub up_to : ℕ
  pub symbols : ReadsTo s from fs up_to
  pub rest : Gap (stretch s up_to (length s))

-- the symbols of a source are those that are read from its start, if they are not too many
pub record Lawful (s : List ℕ) : Type 0 where
  pub sound : (fs : List Found) → symbols_of s ≡ Ok fs → Reads s 0 fs × (length fs ≤ symbol_limit)
  pub complete : (fs : List Found) → Reads s 0 fs → length fs ≤ symbol_limit → symbols_of s ≡ Ok fs
