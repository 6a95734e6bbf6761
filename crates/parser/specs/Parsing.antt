-- What the parser answers to a source, and what the lent lists then hold.
use Rattle.std.specs.Prelude.{◌≡◌, ℕ, suc, ◌-◌, ◌*◌, ◌<◌, ◌≤◌, cond, ◌⊎◌, List, ◌++◌, length, take, drop, replicate, Ok, Err, Result, nat_lt, slice_index_or}
use Rattle.faults.specs.declared.kind.FaultKind.TheVariants.{SourceTooLong, ImpossibleSymbol, EnclosedTooDeep}
use Rattle.faults.specs.declared.kind.Fault.{Fault}
use Rattle.vocabulary.specs.declared.tag.Tag.TheVariants.{EndOfSource}
use Rattle.lexer.specs.declared.symbol.SymbolRecord.{SymbolRecord}
use Rattle.lexer.specs.Scan.{fault, symbols_of, symbol_limit, byte_limit}
use Rattle.lexer.specs.Records.{recorded, zero_record}
use Rattle.grammar.specs.Ebnf.{Tree, ref}
use Rattle.grammar.specs.Language.{NT, Expr, Sum, Term, Factor, rule}
use Rattle.grammar.specs.Claims.{Program, Accepted, Impossible, TooDeep}
use Rattle.parser.specs.declared.answer.Parsed.{Parsed}
use Rattle.syntax.specs.declared.step.Cursor.{Cursor}
use Rattle.syntax.specs.declared.step.Stop.{Stop}
use Rattle.syntax.specs.declared.step.Stop.TheVariants as stops
use Rattle.syntax.specs.declared.tree.NodeKind.TheVariants.{Empty}
use Rattle.syntax.specs.declared.tree.TreeRecord.{TreeRecord}
use Rattle.syntax.specs.Symbols.{tag_codes, place_of}
use Rattle.syntax.specs.Value.{value}
use Rattle.syntax.specs.Syntax.{Syntax, leaf, unary, binary, size, entry, lay, Shaped, begin}
use Rattle.syntax.specs.Actions.{act}
use Rattle.syntax.specs.Steps.{tree_limit, Room}

-- a record that keeps nothing
abbrev pub zero_node : TreeRecord
zero_node = record { kind = Empty; operator = EndOfSource; place = 0; value = 0; first = 0; second = 0 }

-- the symbols of a source as records, or its first lexical fault
abbrev pub lexical : List ℕ → Result (List SymbolRecord) Fault
lexical s = cond (nat_lt byte_limit (length s)) (Err (fault SourceTooLong byte_limit)) (recorded (symbols_of s))

-- the syntax tree of a module whose symbols these are
abbrev pub syntax_of : List ℕ → List SymbolRecord → Program → Syntax
syntax_of s rs t = value rule Syntax (act s rs) t 0

-- the tree of an expression keeps the place of its first symbol; so do those of its sums, terms and factors
abbrev pub Begins : NT → Type 0
Begins n = (s : List ℕ) (rs : List SymbolRecord) (t : Tree rule (ref n)) (i : ℕ) → begin (value rule Syntax (act s rs) t i) ≡ place_of rs i

abbrev pub ExpressionsBegin : Type 0
ExpressionsBegin = Begins Expr × Begins Sum × Begins Term × Begins Factor

-- the records hold a tree from index lo on, with its root at i: a part's records end before the next part's begin, and the
-- node's own is the last
abbrev pub Stored : List TreeRecord → ℕ → ℕ → Syntax → Type 0
Stored ns lo i (leaf l) = (i ≡ lo) × (i < length ns) × (slice_index_or ns i zero_node ≡ entry l 0 0)
Stored ns lo i (unary l a) = (j : ℕ) × Stored ns lo j a × (i ≡ suc j) × (i < length ns) × (slice_index_or ns i zero_node ≡ entry l j 0)
Stored ns lo i (binary l a b) =
    (j : ℕ) × (k : ℕ) × Stored ns lo j a × Stored ns (suc j) k b × (i ≡ suc k) × (i < length ns) × (slice_index_or ns i zero_node ≡ entry l j k)

-- the place of symbol k; the end's is the length of the source
abbrev pub place_in : List ℕ → List SymbolRecord → ℕ → ℕ
place_in s rs k = cond (nat_lt k (length rs)) (place_of rs k) (length s)

-- the fault at a stop
abbrev pub placed : List ℕ → List SymbolRecord → Stop → Fault
placed s rs (stops.Impossible k) = fault ImpossibleSymbol (place_in s rs k)
placed s rs (stops.TooDeep k) = fault EnclosedTooDeep (place_in s rs k)

-- the symbols are a module without a 17th enclosure, and its tree is laid in the records in use
pub record Found (s : List ℕ) (rs : List SymbolRecord) (c : Cursor) (t' : List TreeRecord) : Type 0 where
  pub program : Program
  pub accepted : Accepted (tag_codes rs) program
  pub few : c.used ≤ 2 * length rs
  pub count : Room c t' → c.used ≡ size (syntax_of s rs program)
  pub laid : Room c t' → take c.used t' ≡ lay (syntax_of s rs program) 0

-- what the descent over all symbols comes to
abbrev pub Descends : List ℕ → List SymbolRecord → List TreeRecord → Result Cursor Stop → List TreeRecord → Type 0
Descends s rs t (Ok c) t' = Found s rs c t'
Descends s rs t (Err (stops.Impossible k)) t' = Impossible (tag_codes rs) k
Descends s rs t (Err (stops.TooDeep k)) t' = TooDeep (tag_codes rs) k

-- a lent list is too short
abbrev pub Short : List SymbolRecord → List TreeRecord → Type 0
Short symbols tree = (length symbols < symbol_limit) ⊎ (length tree < tree_limit)

-- a module was parsed: its one tree is held by the first records, at most two for each symbol, and the others are zeroed
pub record Module (s : List ℕ) (rs : List SymbolRecord) (p : Parsed) (tree : List TreeRecord) : Type 0 where
  pub program : Program
  pub accepted : Accepted (tag_codes rs) program
  pub few : p.records ≤ 2 * length rs
  pub count : p.records ≡ size (syntax_of s rs program)
  pub root : p.root ≡ p.records - 1
  pub all : tree ≡ lay (syntax_of s rs program) 0 ++ replicate (length tree - p.records) zero_node
  pub stored : Stored tree 0 p.root (syntax_of s rs program)
  pub shaped : Shaped (syntax_of s rs program)

-- what is answered for symbols: their module, or the first that is impossible or encloses one too many
abbrev pub Judged : List ℕ → List SymbolRecord → List SymbolRecord → List TreeRecord → Result Parsed Fault → List SymbolRecord → List TreeRecord → Type 0
Judged s rs symbols tree (Ok p) symbols' tree' = Module s rs p tree' × (symbols' ≡ rs ++ drop (length rs) symbols)
Judged s rs symbols tree (Err e) symbols' tree' =
    (k : ℕ) × (((e.kind ≡ ImpossibleSymbol) × Impossible (tag_codes rs) k) ⊎ ((e.kind ≡ EnclosedTooDeep) × TooDeep (tag_codes rs) k)) × (e.place ≡ place_in s rs k)
    × (symbols' ≡ replicate (length symbols) zero_record) × (tree' ≡ replicate (length tree) zero_node)

-- what is answered for a source in lists that are long enough
abbrev pub Parses : List ℕ → List SymbolRecord → List TreeRecord → Result (List SymbolRecord) Fault → Result Parsed Fault → List SymbolRecord → List TreeRecord → Type 0
Parses s symbols tree (Ok rs) r symbols' tree' = Judged s rs symbols tree r symbols' tree'
Parses s symbols tree (Err e) r symbols' tree' = (r ≡ Err e) × (symbols' ≡ replicate (length symbols) zero_record) × (tree' ≡ replicate (length tree) zero_node)
