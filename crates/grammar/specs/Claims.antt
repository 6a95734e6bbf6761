-- What a list of symbols is answered, in terms of modules alone; and what is claimed of it.
use Rattle.std.specs.Prelude.{◌≡◌, ℕ, suc, ◌<◌, ◌≤◌, List, [], ◌++◌, length, take, drop, ◌≢◌, slice_index_or}
use Rattle.grammar.specs.Ebnf.{Kind, ref, Tree, yield, plain, encloses, marks}
use Rattle.grammar.specs.Reader.{Reads, Stops, wrong, deep}
use Rattle.grammar.specs.Language.{Module, rule}
use Rattle.grammar.specs.Sets.{firsts, nulls}

-- a module of the grammar, however deep
abbrev pub Program : Type 0
Program = Tree rule (ref Module)

-- its symbols
abbrev pub symbols : Program → List ℕ
symbols t = yield rule t

-- at most so many may enclose a factor, and so many a statement
abbrev pub limit : ℕ
limit = 16

-- in the module t, symbol k is a 17th enclosure of factors or of statements
abbrev pub Seventeenth : Program → ℕ → Type 0
Seventeenth t k = (κ : Kind) × (slice_index_or (marks rule 0 0 t) k plain ≡ encloses κ (suc limit))

-- the module t begins with the symbols u
abbrev pub BeginsWith : Program → List ℕ → Type 0
BeginsWith t u = (v : List ℕ) × (symbols t ≡ u ++ v)

-- some module does
abbrev pub Begins : List ℕ → Type 0
Begins u = (t : Program) × BeginsWith t u

-- the symbols w are those of the module t, which has no 17th enclosure
pub record Accepted (w : List ℕ) (t : Program) : Type 0 where
  pub all : symbols t ≡ w
  pub shallow : (k : ℕ) → Seventeenth t k → ⊥

-- symbol k of w is the first that is impossible; the end of w is a symbol too
pub record Impossible (w : List ℕ) (k : ℕ) : Type 0 where
  pub place : k ≤ length w
  -- symbols 0 to k - 1 begin a module
  pub before : Begins (take k w)
  -- symbols 0 to k begin none
  pub dead : k < length w → Begins (take (suc k) w) → ⊥
  pub ended : k ≡ length w → (t : Program) → symbols t ≢ w
  -- and no earlier one is a 17th enclosure
  pub earlier : (j : ℕ) → j < k → (t : Program) → BeginsWith t (take (suc j) w) → Seventeenth t j → ⊥

-- symbol k of w is the first 17th enclosure
pub record TooDeep (w : List ℕ) (k : ℕ) : Type 0 where
  pub place : k < length w
  -- symbols 0 to k begin a module, so none of them is impossible
  pub begun : Begins (take (suc k) w)
  -- in every module that begins so symbol k is a 17th enclosure
  pub always : (t : Program) → BeginsWith t (take (suc k) w) → Seventeenth t k
  -- and no earlier one is
  pub earlier : (j : ℕ) → j < k → (t : Program) → BeginsWith t (take (suc j) w) → Seventeenth t j → ⊥

-- an answer to a list of symbols: its tree, or the symbol at fault
pub data Answer : Type 0 where
  tree : Program → Answer
  impossible : ℕ → Answer
  too_deep : ℕ → Answer

-- the answer is right
abbrev pub Answers : List ℕ → Answer → Type 0
Answers w (tree t) = Accepted w t
Answers w (impossible k) = Impossible w k
Answers w (too_deep k) = TooDeep w k

-- every module has one tree
abbrev pub OneTree : Type 0
OneTree = (t s : Program) → symbols t ≡ symbols s → t ≡ s

-- every list has a right answer
abbrev pub SomeAnswer : Type 0
SomeAnswer = (w : List ℕ) → (r : Answer) × Answers w r

-- and one only
abbrev pub OneAnswer : Type 0
OneAnswer = (w : List ℕ) (r s : Answer) → Answers w r → Answers w s → r ≡ s

-- what the predictive reader answers of the symbols w is right: it reads them all, or leaves some, or stops
pub record ReaderRight : Type 0 where
  pub whole : (w : List ℕ) (t : Program) → Reads rule firsts nulls limit limit (ref Module) w t [] → Answers w (tree t)
  pub trailing : (w : List ℕ) (t : Program) (k : ℕ) → k < length w → Reads rule firsts nulls limit limit (ref Module) w t (drop k w) → Answers w (impossible k)
  pub stopped : (w : List ℕ) (k : ℕ) → k ≤ length w → Stops rule firsts nulls limit limit (ref Module) w wrong (drop k w) → Answers w (impossible k)
  pub deeper : (w : List ℕ) (k : ℕ) → k ≤ length w → Stops rule firsts nulls limit limit (ref Module) w deep (drop k w) → Answers w (too_deep k)
