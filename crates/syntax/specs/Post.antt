-- What a function of the parser does: from where it stands, the symbols of a grammar expression are read, or it stops.
use Rattle.std.specs.Prelude.{◌≡◌, ℕ, suc, ◌+◌, ◌*◌, ◌≤◌, List, ◌++◌, length, take, drop, Ok, Err, Result}
use Rattle.lexer.specs.declared.symbol.SymbolRecord.{SymbolRecord}
use Rattle.grammar.specs.Ebnf.{G, ref, Tree, yield}
use Rattle.grammar.specs.Reader.{Why, wrong, deep, Reads, Stops}
use Rattle.grammar.specs.Language.{NT, rule}
use Rattle.grammar.specs.Sets.{firsts, nulls}
use Rattle.syntax.specs.declared.step.Cursor.{Cursor}
use Rattle.syntax.specs.declared.step.Stop.{Stop}
use Rattle.syntax.specs.declared.step.Stop.TheVariants.{Impossible, TooDeep}
use Rattle.syntax.specs.declared.tree.TreeRecord.{TreeRecord}
use Rattle.syntax.specs.Value.{Val, value}
use Rattle.syntax.specs.Syntax.{Syntax, size, lay}
use Rattle.syntax.specs.declared.step.Descent.{Descent}
use Rattle.syntax.specs.Symbols.{tag_codes, symbol_at}
use Rattle.syntax.specs.Steps.{Room, Keeps, root}
use Rattle.syntax.specs.Actions.{act}

-- so many symbols were passed, and nothing was written
pub record Passed (n : ℕ) (c : Cursor) (t : List TreeRecord) (c' : Cursor) (t' : List TreeRecord) : Type 0 where
  pub on : c'.at ≡ c.at + n
  pub same : t' ≡ t
  pub used : c'.used ≡ c.used

-- one symbol was passed, whose value is its index and whose record is r
pub record Taken (rs : List SymbolRecord) (r : SymbolRecord) (i : ℕ) (c : Cursor) (t : List TreeRecord) (c' : Cursor) (t' : List TreeRecord) : Type 0 where
  pub index : i ≡ c.at
  pub symbol : r ≡ symbol_at rs i
  pub passed : Passed 1 c t c' t'

-- behind the first n records of the list before, those in use hold the tree, if there are so many
pub record Laid (n : ℕ) (before : List TreeRecord) (s : Syntax) (c : Cursor) (t : List TreeRecord) : Type 0 where
  pub count : Room c t → c.used ≡ n + size s
  pub laid : Room c t → take c.used t ≡ take n before ++ lay s n

-- the records of a tree were written behind those in use; at most two for each symbol, and so many more
pub record Lays (more : ℕ) (s : Syntax) (c : Cursor) (t : List TreeRecord) (c' : Cursor) (t' : List TreeRecord) : Type 0 where
  pub long : length t' ≡ length t
  pub few : c'.used + 2 * c.at ≤ c.used + 2 * c'.at + more
  pub laid : Laid c.used t s c' t'

-- the same, and at least one fewer than two for each symbol
pub record Spares (s : Syntax) (c : Cursor) (t : List TreeRecord) (c' : Cursor) (t' : List TreeRecord) : Type 0 where
  pub long : length t' ≡ length t
  pub few : suc (c'.used + 2 * c.at) ≤ c.used + 2 * c'.at
  pub laid : Laid c.used t s c' t'

-- records were written so that what was a tree before is now another; at most two for each symbol, and so many more
pub record Extends (more : ℕ) (f : Syntax → Syntax) (c : Cursor) (t : List TreeRecord) (c' : Cursor) (t' : List TreeRecord) : Type 0 where
  pub long : length t' ≡ length t
  pub grows : Room c' t' → c.used ≤ c'.used
  pub few : c'.used + 2 * c.at ≤ c.used + 2 * c'.at + more
  pub laid : (a : Syntax) (n : ℕ) (before : List TreeRecord) → Laid n before a c t → Laid n before (f a) c' t'

-- of the symbols w from i on, g is refused at k, where d more may enclose factors and e more statements
pub record Bad (d e : ℕ) (φ : Why) (g : G NT) (w : List ℕ) (i k : ℕ) : Type 0 where
  pub inside : i ≤ length w → k ≤ length w
  pub stops : Stops rule firsts nulls d e g (drop i w) φ (drop k w)

-- the symbols of a source, and the same as records
module _ (source : List ℕ) (symbols : List SymbolRecord) where
  -- of the symbols from i on, g reads those before j, with the value v
  pub record Got (d e : ℕ) (g : G NT) (i j : ℕ) (v : Val Syntax g) : Type 0 where
    pub within : i ≤ length (tag_codes symbols) → j ≤ length (tag_codes symbols)
    pub tree : Tree rule g
    pub reads : Reads rule firsts nulls d e g (drop i (tag_codes symbols)) tree (drop j (tag_codes symbols))
    pub span : j ≡ i + length (yield rule tree)
    pub is : value rule Syntax (act source symbols) tree i ≡ v

  -- the same, and what was written
  pub record Made (d e : ℕ) (g : G NT) (P : Val Syntax g → Cursor → List TreeRecord → Cursor → List TreeRecord → Type 0)
      (c : Cursor) (t : List TreeRecord) (c' : Cursor) (t' : List TreeRecord) : Type 0 where
    pub val : Val Syntax g
    pub got : Got d e g c.at c'.at val
    pub wrote : P val c t c' t'

-- of the symbols w from i on, g is refused by this stop
abbrev pub Refused : ℕ → ℕ → G NT → List ℕ → ℕ → Stop → Type 0
Refused d e g w i (Impossible k) = Bad d e wrong g w i k
Refused d e g w i (TooDeep k) = Bad d e deep g w i k

-- what is written, by the source, its symbols and the value
abbrev pub Tells : G NT → Type 1
Tells g = List ℕ → List SymbolRecord → Val Syntax g → Cursor → List TreeRecord → Cursor → List TreeRecord → Type 0

-- g was read, and what was written
pub record Did (d e : ℕ) (g : G NT) (P : Tells g) (p p' : Descent) : Type 0 where
  pub keeps : Keeps p p'
  pub made : Made p.source.now p.symbols.now d e g (P p.source.now p.symbols.now) p.here p.tree.now p'.here p'.tree.now

-- g is refused
pub record Fails (d e : ℕ) (g : G NT) (p : Descent) (k : Stop) (p' : Descent) : Type 0 where
  pub keeps : Keeps p p'
  pub refused : Refused d e g (tag_codes p.symbols.now) p.here.at k

-- g is read, and the answer is the index of the last record; or it is refused
abbrev pub Does : (d e : ℕ) (g : G NT) → Tells g → Descent → Result ℕ Stop → Descent → Type 0
Does d e g P p (Ok i) p' = Did d e g P p p' × (i ≡ root p')
Does d e g P p (Err k) p' = Fails d e g p k p'

pub record Goes (d e : ℕ) (g : G NT) (P : Tells g) (p : Descent) (r : Result ℕ Stop) (p' : Descent) : Type 0 where
  pub went : Does d e g P p r p'

-- the same of a nonterminal, whose tree is laid with so many records more than two for each symbol
abbrev pub Parses : ℕ → ℕ → ℕ → NT → Descent → Result ℕ Stop → Descent → Type 0
Parses d e more n p r p' = Goes d e (ref n) (λ s rs v. Lays more v) p r p'
