-- What the records hold in the end, and what a scan leaves.
use Rattle.std.proofs.Common.{◌≡◌, ℕ, suc, ◌+◌, ◌-◌, ◌<◌, ◌≤◌, Bool, true, false, cond, ltb, List, [], ◌∷◌, ◌++◌, map, length, get_or, take, drop, replicate, Ok, Err, Result, sym, refl, ap, ◌∙◌, subst, append_assoc, arith, length-append, le-ltb}
use Rattle.std.proofs.lemmas.List.{get_or_at, length-replicate, length-map}
use Rattle.faults.specs.declared.kind.FaultKind.TheVariants.{SourceTooLong}
use Rattle.faults.specs.declared.kind.Fault.{Fault}
use Rattle.lexer.specs.declared.symbol.SymbolRecord.{SymbolRecord}
use Rattle.lexer.specs.Scan.{fault, symbols_of, symbol_limit, byte_limit}
use Rattle.lexer.specs.Scan as scan
use Rattle.lexer.specs.Records.{record_of, recorded, stored, scanning, zero_record}
use Rattle.lexer.specs.Reading.{Lawful}
use Rattle.syntax.specs.declared.step.Cursor.{Cursor}
use Rattle.syntax.specs.declared.tree.TreeRecord.{TreeRecord}
use Rattle.syntax.specs.Syntax.{Syntax, leaf, unary, binary, size, entry, lay}
use Rattle.syntax.specs.Steps.{tree_limit, Room}
use Rattle.parser.specs.Parsing.{zero_node, lexical, syntax_of, Stored, Found, Module}
use Rattle.parser.proofs.Shapes.{shaped}

pub size_pos : (s : Syntax) → 0 < size s
size_pos (leaf l) = omega arith
size_pos (unary l a) = omega arith
size_pos (binary l a b) = omega arith

-- as many records as nodes
pub lay_long : (s : Syntax) (n : ℕ) → length (lay s n) ≡ size s
lay_long (leaf l) n = refl
lay_long (unary l a) n =
    let h = length-append (lay a n) (entry l (n + size a - 1) 0 ∷ []) in
    let i = lay_long a n in omega arith
lay_long (binary l a b) n =
    let e = entry l (n + size a - 1) (n + size a + size b - 1) in
    let h = length-append (lay a n) (lay b (n + size a) ++ (e ∷ [])) in
    let i = length-append (lay b (n + size a)) (e ∷ []) in
    let j = lay_long a n in
    let k = lay_long b (n + size a) in omega arith

-- a list that was laid holds its tree
pub laid_stored : (s : Syntax) (n : ℕ) (ns before behind : List TreeRecord) → ns ≡ before ++ (lay s n ++ behind) → length before ≡ n → Stored ns n (n + size s - 1) s
laid_stored (leaf l) n ns before behind e h =
    let x = entry l 0 0 in
    let i : n + 1 - 1 ≡ n = omega arith in
    let k = ap length e ∙ length-append before (x ∷ behind) in
    (i, omega arith, ap (λ z. get_or ns z zero_node) i ∙ ap (λ z. get_or z n zero_node) e ∙ get_or_at before x behind zero_node n h)
laid_stored (unary l a) n ns before behind e h =
    let x = entry l (n + size a - 1) 0 in
    let p = size_pos a in
    let q = lay_long a n in
    let m = length-append before (lay a n) in
    let f : ns ≡ before ++ (lay a n ++ (x ∷ behind)) = e ∙ ap (λ z. before ++ z) (append_assoc (lay a n) (x ∷ []) behind) in
    let g : ns ≡ (before ++ lay a n) ++ (x ∷ behind) = f ∙ sym (append_assoc before (lay a n) (x ∷ behind)) in
    let k = ap length g ∙ length-append (before ++ lay a n) (x ∷ behind) in (
      n + size a - 1,
      laid_stored a n ns before (x ∷ behind) f h,
      omega arith,
      omega arith,
      ap (λ z. get_or z (n + suc (size a) - 1) zero_node) g ∙ get_or_at (before ++ lay a n) x behind zero_node (n + suc (size a) - 1) (omega arith),
    )
laid_stored (binary l a b) n ns before behind e h =
    let w = n + size a in
    let x = entry l (n + size a - 1) (n + size a + size b - 1) in
    let p = size_pos a in
    let q = size_pos b in
    let la = lay_long a n in
    let lb = lay_long b w in
    let m₁ = length-append before (lay a n) in
    let m₂ = length-append (before ++ lay a n) (lay b w) in
    let f : ns ≡ before ++ (lay a n ++ (lay b w ++ (x ∷ behind))) =
    e ∙ ap (λ z. before ++ z) (append_assoc (lay a n) (lay b w ++ (x ∷ [])) behind ∙ ap (λ z. lay a n ++ z) (append_assoc (lay b w) (x ∷ []) behind)) in
    let g : ns ≡ (before ++ lay a n) ++ (lay b w ++ (x ∷ behind)) = f ∙ sym (append_assoc before (lay a n) (lay b w ++ (x ∷ behind))) in
    let k : ns ≡ ((before ++ lay a n) ++ lay b w) ++ (x ∷ behind) = g ∙ sym (append_assoc (before ++ lay a n) (lay b w) (x ∷ behind)) in
    let o = ap length k ∙ length-append ((before ++ lay a n) ++ lay b w) (x ∷ behind) in
    let j : w ≡ suc (n + size a - 1) = omega arith in (
      n + size a - 1,
      n + size a + size b - 1,
      laid_stored a n ns before (lay b w ++ (x ∷ behind)) f h,
      subst (λ z. Stored ns z (n + size a + size b - 1) b) j (laid_stored b w ns (before ++ lay a n) (x ∷ behind) g (omega arith)),
      omega arith,
      omega arith,
      ap (λ z. get_or z (n + suc (size a + size b) - 1) zero_node) k ∙ get_or_at ((before ++ lay a n) ++ lay b w) x behind zero_node (n + suc (size a + size b) - 1) (omega arith),
    )

-- the records in use hold the tree, and the others are zeroed
pub finished : (s : List ℕ) (rs : List SymbolRecord) (c : Cursor) (t t' : List TreeRecord) → Found s rs c t → length rs ≤ symbol_limit → tree_limit ≤ length t →
    t' ≡ take c.used t ++ replicate (length t - c.used) zero_node → Module s rs (record { root = c.used - 1; records = c.used }) t'
finished s rs c t t' f h i e =
    let k = f.few in
    let room : Room c t = (omega arith, omega arith) in
    let n = f.count room in
    let a : t' ≡ lay (syntax_of s rs f.program) 0 ++ replicate (length t - c.used) zero_node = e ∙ ap (λ x. x ++ replicate (length t - c.used) zero_node) (f.laid room) in
    let l₀ = lay_long (syntax_of s rs f.program) 0 in
    let l₁ = ap length a ∙ length-append (lay (syntax_of s rs f.program) 0) (replicate (length t - c.used) zero_node) in
    let l₂ = length-replicate (length t - c.used) zero_node in
    let m : length t' - c.used ≡ length t - c.used = omega arith in
    let j : 0 + size (syntax_of s rs f.program) - 1 ≡ c.used - 1 = omega arith in
    record {
      program = f.program;
      accepted = f.accepted;
      few = k;
      count = n;
      root = refl;
      all = a ∙ ap (λ x. lay (syntax_of s rs f.program) 0 ++ replicate x zero_node) (sym m);
      stored = subst (λ x. Stored t' 0 x (syntax_of s rs f.program)) j (laid_stored (syntax_of s rs f.program) 0 t' [] (replicate (length t - c.used) zero_node) a refl);
      shaped = shaped s rs f.program 0;
    }

-- a list that is long enough is scanned for the symbols of the source
scanned : (s : List ℕ) (before : List SymbolRecord) → symbol_limit ≤ length before → scanning s before ≡ stored before (lexical s)
scanned s before h = rw (le-ltb (length before) symbol_limit h) (go (ltb byte_limit (length s)))
  where
    go : (b : Bool) → cond b (stored before (Err (fault SourceTooLong byte_limit))) (stored before (recorded (symbols_of s))) ≡ stored before (cond b (Err (fault SourceTooLong byte_limit)) (recorded (symbols_of s)))
    go true = refl
    go false = refl

-- what is known after a scan that answered n
pub record Scanned (s : List ℕ) (before : List SymbolRecord) (n : ℕ) (after : List SymbolRecord) : Type 0 where
  pub rs : List SymbolRecord
  pub is : lexical s ≡ Ok rs
  pub count : n ≡ length rs
  pub list : after ≡ rs ++ drop (length rs) before
  pub few : length rs ≤ symbol_limit

few_symbols : (s : List ℕ) (rs : List SymbolRecord) → Lawful s → lexical s ≡ Ok rs → length rs ≤ symbol_limit
few_symbols s rs law e = go (ltb byte_limit (length s)) (symbols_of s) refl e
  where
    go : (b : Bool) (f : Result (List scan.Found) Fault) → symbols_of s ≡ f → cond b (Err (fault SourceTooLong byte_limit)) (recorded f) ≡ Ok rs → length rs ≤ symbol_limit
    go true f g e = absurd (let z : ◌≡◌ {A = ℕ} 0 1 = cc in omega arith)
    go false (Err k) g e = absurd (let z : ◌≡◌ {A = ℕ} 0 1 = cc in omega arith)
    go false (Ok fs) g e =
        let r : map record_of fs ≡ rs = cc in
        let l = (law.sound fs g).1 in
        let m = sym (ap length r) ∙ length-map fs record_of in
        omega arith

pub scan_ok : (s : List ℕ) (before after : List SymbolRecord) (n : ℕ) → Lawful s → symbol_limit ≤ length before → (Ok n, after) ≡ scanning s before → Scanned s before n after
scan_ok s before after n law h e = go (lexical s) refl (e ∙ scanned s before h)
  where
    go : (l : Result (List SymbolRecord) Fault) → lexical s ≡ l → (Ok n, after) ≡ stored before l → Scanned s before n after
    go (Ok rs) i e = let a : ◌≡◌ {A = Result ℕ Fault} (Ok n) (Ok (length rs)) = ap (λ p. p.0) e in record { rs = rs; is = i; count = cc; list = ap (λ p. p.1) e; few = few_symbols s rs law i }
    go (Err k) i e = let a : ◌≡◌ {A = Result ℕ Fault} (Ok n) (Err k) = ap (λ p. p.0) e in absurd (let z : ◌≡◌ {A = ℕ} 0 1 = cc in omega arith)

pub scan_err : (s : List ℕ) (before after : List SymbolRecord) (f : Fault) → symbol_limit ≤ length before → (Err f, after) ≡ scanning s before → (lexical s ≡ Err f) × (after ≡ replicate (length before) zero_record)
scan_err s before after f h e = go (lexical s) refl (e ∙ scanned s before h)
  where
    go : (l : Result (List SymbolRecord) Fault) → lexical s ≡ l → (Err f, after) ≡ stored before l → (lexical s ≡ Err f) × (after ≡ replicate (length before) zero_record)
    go (Ok rs) i e = let a : ◌≡◌ {A = Result ℕ Fault} (Err f) (Ok (length rs)) = ap (λ p. p.0) e in absurd (let z : ◌≡◌ {A = ℕ} 0 1 = cc in omega arith)
    go (Err k) i e = let a : ◌≡◌ {A = Result ℕ Fault} (Err f) (Err k) = ap (λ p. p.0) e in let j : f ≡ k = cc in (i ∙ ap Err (sym j), ap (λ p. p.1) e)
