use Rattle.std.proofs.Common.{◌≡◌, ℕ, ◌≤◌, Bool, true, false, cond, ltb, List, ◌++◌, length, take, drop, replicate, Ok, Err, Result, MatchResult, sym, refl, ap, ◌∙◌, arith, rules, le-ltb}
use Rattle.std.specs.Result.{is_err}
use Rattle.std.proofs.lemmas.Bool.{false≢true}
use Rattle.std.proofs.lemmas.List.{length-take, take-append-drop, append_assoc, drop-append-le}
use Rattle.faults.specs.declared.kind.FaultKind.TheVariants.{SourceTooLong}
use Rattle.faults.specs.declared.kind.Fault.{Fault}
use Rattle.lexer.specs.declared.symbol.SymbolRecord.{SymbolRecord}
use Rattle.lexer.specs.Scan.{fault, symbols_of, symbol_limit, byte_limit}
use Rattle.lexer.specs.Records.{zero_record, recorded, records_of, scanning, stored}
use Rattle.lexer.proofs.records.scan.Goals as goal

-- a list is long enough for a scan
scanned : (s : List ℕ) (before : List SymbolRecord) → symbol_limit ≤ length before → scanning s before ≡ stored before (records_of (length (take symbol_limit before)) s)
scanned s before h =
    let l : length (take symbol_limit before) ≡ symbol_limit = simp length-take (omega arith) in
    rw (le-ltb (length before) symbol_limit h, l) (go (ltb byte_limit (length s)))
  where
    go : (b : Bool) → cond b (stored before (Err (fault SourceTooLong byte_limit))) (stored before (recorded (symbols_of s))) ≡ stored before (cond b (Err (fault SourceTooLong byte_limit)) (recorded (symbols_of s)))
    go true = refl
    go false = refl

failed : (s : List ℕ) (before zeroed : List SymbolRecord) (r : Result ℕ Fault) (P : ℕ → Type 0) → symbol_limit ≤ length before → is_err r ≡ true → MatchResult r P (λ e. records_of (length (take symbol_limit before)) s ≡ Err e) → zeroed ≡ replicate (length before) zero_record → (r, zeroed) ≡ scanning s before
failed s before zeroed (Ok n) P h e m z = absurd (false≢true e)
failed s before zeroed (Err x) P h e m z = rw z (sym (scanned s before h ∙ ap (stored before) m))

-- the records in front, and the rest as it was
filled : (limit n : ℕ) (before after : List SymbolRecord) → length after ≡ limit → n ≤ limit → limit ≤ length before → drop n after ≡ drop n (take limit before) → stored before (Ok (take n after)) ≡ (Ok n, after ++ drop limit before)
filled limit n before after h k l e =
    let m : length (take n after) ≡ n = simp length-take (omega arith) in
    let p : n ≤ length (take limit before) = simp length-take (omega arith) in
    let q : drop n before ≡ drop n after ++ drop limit before = ap (drop n) (sym (take-append-drop limit before)) ∙ drop-append-le n (take limit before) (drop limit before) p ∙ ap (λ xs. xs ++ drop limit before) (sym e) in
    rw (m, q, ← append_assoc, take-append-drop) refl

succeeded : (s : List ℕ) (before after : List SymbolRecord) (r : Result ℕ Fault) (Q : Fault → Type 0) → symbol_limit ≤ length before → length after ≡ symbol_limit → is_err r ≡ false → MatchResult r (λ n. (n ≤ length after) × (records_of (length (take symbol_limit before)) s ≡ Ok (take n after)) × (drop n after ≡ drop n (take symbol_limit before))) Q → (r, after ++ drop symbol_limit before) ≡ scanning s before
succeeded s before after (Ok n) Q h l e m =
    sym (scanned s before h ∙ ap (stored before) m.1 ∙ filled symbol_limit n before after l (omega arith) h m.2)
succeeded s before after (Err x) Q h l e m = absurd (false≢true (sym e))

pub returns-then-is_err-clause-answer : goal.returns-then-is_err-clause-answer
returns-then-is_err-clause-answer c =
    let before = c.args.records.now in
    failed c.args.source.now before _ _ _ (omega arith) (sym c.is_err.ensures.value ∙ c.if-is_err.true) c.fill-filled.ensures (search rules)

pub returns-else-is_err-clause-answer : goal.returns-else-is_err-clause-answer
returns-else-is_err-clause-answer c =
    let l = simp length-take at c.fill-filled.auto.slots in
    succeeded c.args.source.now c.args.records.now c.fill-filled.new.slots _ _ (omega arith) (omega arith) (sym c.is_err.ensures.value ∙ c.if-is_err.false) c.fill-filled.ensures
