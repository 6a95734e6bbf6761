-- The symbols of a source, or its first fault.
use Rattle.std.specs.Prelude.{ℕ, zero, suc, ◌+◌, ◌-◌, min, Bool, true, false, cond, ◌&&◌, ◌||◌, List, [], ◌∷◌, length, take, drop, ℤ, Some, None, Ok, Err, Option, Result, ◌==◌, nat_lt}
use Rattle.faults.specs.declared.kind.FaultKind.{FaultKind}
use Rattle.faults.specs.declared.kind.FaultKind.TheVariants.{StrayByte, OpenComment, TooManySymbols}
use Rattle.faults.specs.declared.kind.Fault.{Fault}
use Rattle.vocabulary.specs.declared.tag.Tag.{Tag}
use Rattle.vocabulary.specs.declared.tag.Tag.TheVariants.{EndOfSource, Identifier, Number}
use Rattle.lexer.specs.declared.symbol.Symbol.{Symbol}
use Rattle.lexer.specs.declared.symbol.Symbol.TheVariants as cases
use Rattle.lexer.specs.declared.symbol.Lexeme.{Lexeme}
use Rattle.vocabulary.specs.Characters.{letter, digit, separator, run}
use Rattle.vocabulary.specs.Tags.{word_tag}
use Rattle.vocabulary.specs.Numbers.{number_value, judged}
use Rattle.vocabulary.specs.Signs.{sign_of}
use Rattle.lexer.specs.Leads.{opens, closes}

-- a symbol: its tag, its place, and its text
pub record Found : Type 0 where
  pub tag : Tag
  pub place : ℕ
  pub text : List ℕ

-- the place behind it
abbrev pub end_of : Found → ℕ
end_of f = f.place + length f.text

-- the tag of the code's symbol
abbrev pub tag_of : Symbol → Tag
tag_of (cases.Reserved tag text) = tag
tag_of (cases.Identifier text) = Identifier
tag_of (cases.Number text) = Number
tag_of (cases.Sign tag text) = tag
tag_of cases.End = EndOfSource

-- the stretch that the code's symbol borrows
abbrev pub text_of : Symbol → List ℕ
text_of (cases.Reserved tag text) = text.now
text_of (cases.Identifier text) = text.now
text_of (cases.Number text) = text.now
text_of (cases.Sign tag text) = text.now
text_of cases.End = []

-- the code's symbol is the end of the source
abbrev pub is_end : Symbol → Bool
is_end (cases.Reserved tag text) = false
is_end (cases.Identifier text) = false
is_end (cases.Number text) = false
is_end (cases.Sign tag text) = false
is_end cases.End = true

-- what the code's lexeme stands for
abbrev pub seen : Lexeme → Found
seen l = record { tag = tag_of l.symbol; place = l.place; text = text_of l.symbol }

-- a fault of a kind, at a place
abbrev pub fault : FaultKind → ℕ → Fault
fault kind place = record { kind = kind; place = place }

-- the place behind separators and comments, of which `depth` are open, the outermost since `opened`
unfoldable pub skipped : ℕ → ℕ → ℕ → List ℕ → Result ℕ Fault
skipped depth opened at [] = cond (depth == 0) (Ok at) (Err (fault OpenComment opened))
skipped depth opened at (a ∷ []) =
    cond (nat_lt 0 depth || separator a) (cond (depth == 0) (Ok (at + 1)) (Err (fault OpenComment opened))) (Ok at)
skipped depth opened at (a ∷ (b ∷ cs)) =
    cond (opens a b) (skipped (depth + 1) (cond (nat_lt 0 depth) opened at) (at + 2) cs)
    (cond (nat_lt 0 depth && closes a b) (skipped (depth - 1) opened (at + 2) cs)
    (cond (nat_lt 0 depth || separator a) (skipped depth opened (at + 1) (b ∷ cs)) (Ok at)))

-- a number n bytes long, if its value is an INTEGER
abbrev pub numbered : ℕ → Result ℤ FaultKind → Result (Tag × ℕ) FaultKind
numbered n (Ok v) = Ok (Number, n)
numbered n (Err kind) = Err kind

-- a sign, if there is one
abbrev pub signed : Option (Tag × ℕ) → Result (Tag × ℕ) FaultKind
signed (Some p) = Ok p
signed None = Err StrayByte

-- the symbol that the bytes begin with, by its tag and its length, or what is wrong there
abbrev pub front_of : List ℕ → Result (Tag × ℕ) FaultKind
front_of [] = Ok (EndOfSource, 0)
front_of (c ∷ cs) =
    cond (letter c) (Ok (word_tag (take (run (c ∷ cs)) (c ∷ cs)), run (c ∷ cs)))
    (cond (digit c) (numbered (run (c ∷ cs)) (judged (number_value (take (run (c ∷ cs)) (c ∷ cs)))))
    (signed (sign_of (c ∷ cs))))

-- the symbol or the fault at its place, the symbol with its text
abbrev pub placed : ℕ → List ℕ → Result (Tag × ℕ) FaultKind → Result Found Fault
placed at xs (Ok p) = Ok (record { tag = p.0; place = at; text = take p.1 xs })
placed at xs (Err kind) = Err (fault kind at)

-- the symbol that stands at the place `at`
abbrev pub symbol_at : List ℕ → ℕ → Result Found Fault
symbol_at s at = placed at (drop at s) (front_of (drop at s))

-- the symbol at the place that was reached
abbrev pub thence : List ℕ → Result ℕ Fault → Result Found Fault
thence s (Ok at) = symbol_at s at
thence s (Err e) = Err e

-- the place of the first symbol at the place `from` or behind it
abbrev pub place_from : List ℕ → ℕ → Result ℕ Fault
place_from s from = skipped 0 0 (min from (length s)) (drop (min from (length s)) s)

-- the first symbol at the place `from` or behind it
abbrev pub symbol_from : List ℕ → ℕ → Result Found Fault
symbol_from s from = thence s (place_from s from)

-- only the end of the source has no text
abbrev pub ends : Found → Bool
ends f = length f.text == 0

-- a symbol before the others
abbrev pub onto : Found → Result (List Found) Fault → Result (List Found) Fault
onto f (Ok more) = Ok (f ∷ more)
onto f (Err e) = Err e

-- where no more symbols are allowed, only the end may come
abbrev pub full : Result Found Fault → Result (List Found) Fault
full (Ok f) = cond (ends f) (Ok []) (Err (fault TooManySymbols f.place))
full (Err e) = Err e

-- the end, or a symbol and those behind it
abbrev pub followed : Result Found Fault → (Found → Result (List Found) Fault) → Result (List Found) Fault
followed (Ok f) more = cond (ends f) (Ok []) (onto f (more f))
followed (Err e) more = Err e

-- the symbols from the place `from` on, of which there may be so many, or the first fault
unfoldable pub symbols_from : ℕ → List ℕ → ℕ → Result (List Found) Fault
symbols_from zero s from = full (symbol_from s from)
symbols_from (suc room) s from = followed (symbol_from s from) (λ f. symbols_from room s (end_of f))

-- a source has at most so many symbols
abbrev pub symbol_limit : ℕ
symbol_limit = 1024

-- and so many bytes
abbrev pub byte_limit : ℕ
byte_limit = 65535

-- the symbols of a source, or its first fault
abbrev pub symbols_of : List ℕ → Result (List Found) Fault
symbols_of s = symbols_from symbol_limit s 0
