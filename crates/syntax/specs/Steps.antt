-- What one step of a descent does.
use Rattle.std.specs.Prelude.{◌≡◌, ℕ, suc, ◌+◌, ◌-◌, ◌<◌, ◌≤◌, Bool, true, false, not, T, ◌⊎◌, List, [], ◌∷◌, ◌++◌, length, take, drop, Ok, Err, Result}
use Rattle.lexer.specs.declared.symbol.SymbolRecord.{SymbolRecord}
use Rattle.grammar.specs.Reader.{hd}
use Rattle.syntax.specs.declared.step.Cursor.{Cursor}
use Rattle.syntax.specs.declared.step.Descent.{Descent}
use Rattle.syntax.specs.declared.step.Stop.{Stop}
use Rattle.syntax.specs.declared.step.Stop.TheVariants.{Impossible, TooDeep}
use Rattle.syntax.specs.declared.tree.TreeRecord.{TreeRecord}
use Rattle.syntax.specs.Symbols.{tag_codes, symbol_at}

-- the codes of the symbols that are left
abbrev pub ahead : Descent → List ℕ
ahead p = drop p.here.at (tag_codes p.symbols.now)

-- how many symbols are left
abbrev pub remaining : Descent → ℕ
remaining p = length p.symbols.now - p.here.at

-- the index of the last record in use: the root of what was read last
abbrev pub root : Descent → ℕ
root p = p.here.used - 1

-- the next symbol is there and of a class, or not
pub record On (p : Descent) (c : List ℕ) : Type 0 where
  pub is : T (hd c (ahead p))

pub record Off (p : Descent) (c : List ℕ) : Type 0 where
  pub is_not : T (not (hd c (ahead p)))

abbrev pub NextIs : ℕ → Descent → Bool → Type 0
NextIs k p true = On p (k ∷ [])
NextIs k p false = Off p (k ∷ [])

-- the symbols are the same, and the lent tree is the same reference and as long
pub record Keeps (p p' : Descent) : Type 0 where
  pub source : p'.source.now ≡ p.source.now
  pub symbols : p'.symbols.now ≡ p.symbols.now
  pub lent : p'.tree.ghost_name ≡ p.tree.ghost_name
  pub long : length p'.tree.now ≡ length p.tree.now

-- the next symbol was passed, if there is one, and nothing was written
pub record Advances (r : SymbolRecord) (p p' : Descent) : Type 0 where
  pub keeps : Keeps p p'
  pub symbol : r ≡ symbol_at p.symbols.now p.here.at
  pub on : p.here.at < length p.symbols.now → p'.here.at ≡ p.here.at + 1
  pub ended : length p.symbols.now ≤ p.here.at → p'.here.at ≡ p.here.at
  pub used : p'.here.used ≡ p.here.used
  pub same : p'.tree.now ≡ p.tree.now

-- so it was; or none is left, and all is as it was
abbrev pub AdvancesOrStops : Descent → Result SymbolRecord Stop → Descent → Type 0
AdvancesOrStops p (Ok r) p' = (p.here.at < length p.symbols.now) × Advances r p p'
AdvancesOrStops p (Err s) p' = (length p.symbols.now ≤ p.here.at) × (p' ≡ p) × (s ≡ Impossible p.here.at)

-- it was passed if its code is k
abbrev pub Accepts : ℕ → Descent → Bool → Descent → Type 0
Accepts k p true p' = On p (k ∷ []) × Advances (symbol_at p.symbols.now p.here.at) p p'
Accepts k p false p' = Off p (k ∷ []) × (p' ≡ p)

abbrev pub Expects : ℕ → Descent → Result SymbolRecord Stop → Descent → Type 0
Expects k p (Ok r) p' = On p (k ∷ []) × Advances r p p'
Expects k p (Err s) p' = Off p (k ∷ []) × (p' ≡ p) × (s ≡ Impossible p.here.at)

-- the same of a symbol that encloses, where d more may
abbrev pub Opens : ℕ → ℕ → Descent → Result (SymbolRecord × ℕ) Stop → Descent → Type 0
Opens k d p (Ok (r, n)) p' = On p (k ∷ []) × Advances r p p' × (d ≡ suc n)
Opens k d p (Err s) p' = (p' ≡ p) × ((Off p (k ∷ []) × (s ≡ Impossible p.here.at)) ⊎ (On p (k ∷ []) × (d ≡ 0) × (s ≡ TooDeep p.here.at)))

-- no symbol is left, or the next one is impossible
abbrev pub Finishes : Descent → Result Cursor Stop → Type 0
Finishes p (Ok c) = (length p.symbols.now ≤ p.here.at) × (c ≡ p.here)
Finishes p (Err s) = (p.here.at < length p.symbols.now) × (s ≡ Impossible p.here.at)

-- so many records are enough for every source
abbrev pub tree_limit : ℕ
tree_limit = 2048

-- there is room for those in use
abbrev pub Room : Cursor → List TreeRecord → Type 0
Room c t = (c.used ≤ tree_limit) × (tree_limit ≤ length t)

-- a record was written behind those in use
pub record Added (r : TreeRecord) (c : Cursor) (t : List TreeRecord) (c' : Cursor) (t' : List TreeRecord) : Type 0 where
  pub at : c'.at ≡ c.at
  pub long : length t' ≡ length t
  pub most : c'.used ≤ suc c.used
  pub count : Room c' t' → c'.used ≡ suc c.used
  pub laid : Room c' t' → take c'.used t' ≡ take c.used t ++ (r ∷ [])

-- so it was, and its index is i
pub record Pushed (r : TreeRecord) (i : ℕ) (p p' : Descent) : Type 0 where
  pub keeps : Keeps p p'
  pub added : Added r p.here p.tree.now p'.here p'.tree.now
  pub is : i ≡ root p'
