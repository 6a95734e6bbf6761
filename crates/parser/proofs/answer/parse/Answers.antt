use Rattle.std.proofs.Common.{◌≡◌, ℕ, ◌≤◌, List, length, take, drop, replicate, Ok, Err, sym, refl, ap, ◌∙◌, subst, inl, inr, arith, length-append}
use Rattle.std.proofs.lemmas.List.{take_at, length-take-le}
use Rattle.std.proofs.lemmas.Result.{err_from_is_err_and}
use Rattle.lexer.specs.declared.symbol.SymbolRecord.{SymbolRecord}
use Rattle.lexer.specs.Records.{zero_record}
use Rattle.grammar.proofs.Claimed.{one_tree, one_answer}
use Rattle.syntax.specs.declared.step.Stop.{Stop}
use Rattle.syntax.specs.declared.step.Stop.TheVariants as stops
use Rattle.syntax.specs.declared.tree.TreeRecord.{TreeRecord}
use Rattle.parser.specs.Parsing.{Parses, Judged, Module, Found, Descends, placed, zero_node}
use Rattle.parser.proofs.Whole.{Scanned, scan_ok, scan_err, finished}
use Rattle.parser.proofs.Shapes.{expressions_begin}
use Rattle.parser.proofs.answer.parse.Goals as goal

-- the records of the symbols stand in front
in_front : {s : List ℕ} {before after : List SymbolRecord} {n : ℕ} (z : Scanned s before n after) → take n after ≡ z.rs
in_front {before} {n} z = ap (take n) z.list ∙ take_at z.rs (drop (length z.rs) before) n (sym z.count)

as_many : {s : List ℕ} {before after : List SymbolRecord} {n : ℕ} → Scanned s before n after → n ≤ length after
as_many {before} z =
    let h = z.count in
    let l = ap length z.list ∙ length-append z.rs (drop (length z.rs) before) in
    omega arith

-- what a stop says of the symbols
stopped : (s : List ℕ) (rs symbols : List SymbolRecord) (t t₁ tree : List TreeRecord) (k : Stop) (symbols' : List SymbolRecord) (tree' : List TreeRecord) → Descends s rs t (Err k) t₁ →
    symbols' ≡ replicate (length symbols) zero_record → tree' ≡ replicate (length tree) zero_node → Judged s rs symbols tree (Err (placed s rs k)) symbols' tree'
stopped s rs symbols t t₁ tree (stops.Impossible k) symbols' tree' d a b = (k, inl (refl, d), refl, a, b)
stopped s rs symbols t t₁ tree (stops.TooDeep k) symbols' tree' d a b = (k, inr (refl, d), refl, a, b)

pub returns-then-symbols-lt-MAX_SYMBOLS : goal.returns-then-symbols-lt-MAX_SYMBOLS
returns-then-symbols-lt-MAX_SYMBOLS c =
    record {
      short = λ h. (refl, refl, refl);
      answer = λ h i. absurd (elim c.then-symbols-lt-MAX_SYMBOLS.either [ inl a ↦ omega arith | inr a ↦ let b = a.1 in omega arith ]);
      unique = one_tree;
      one = one_answer;
      begins = expressions_begin;
    }

pub returns-in_err-count : goal.returns-in_err-count
returns-in_err-count c =
    let p = err_from_is_err_and c.from_residual.result c.from_residual.ensures.1 in
    let h₀ = c.if-symbols-lt-MAX_SYMBOLS.false in
    let h₁ = c.if-tree-lt-MAX_RECORDS.false in
    let q = scan_err c.args.source.now c.args.symbols.now c.scan.new.records _ (omega arith) c.in_err-count.ensures.answer in
    rw (p.1, p.2) (record {
      short = λ h. absurd (elim h [ inl a ↦ omega arith | inr a ↦ omega arith ]);
      answer = λ h i. subst (λ l. Parses c.args.source.now c.args.symbols.now c.args.tree.now l (Err c.in_err-count.field-0.0) c.scan.new.records c.clear.new.tree) (sym q.0) (refl, q.1, c.clear.ensures);
      unique = one_tree;
      one = one_answer;
      begins = expressions_begin;
    })

pub slice_bounds-whole-end : goal.slice_bounds-whole-end
slice_bounds-whole-end c =
    let h₀ = c.if-symbols-lt-MAX_SYMBOLS.false in
    as_many (scan_ok c.args.source.now c.args.symbols.now c.scan.new.records c.in_ok-count.count c.in_ok-count.ensures.law (omega arith) c.in_ok-count.ensures.answer)

pub slice_bounds-whole-end-2 : goal.slice_bounds-whole-end-2
slice_bounds-whole-end-2 c =
    let h₀ = c.if-symbols-lt-MAX_SYMBOLS.false in
    let z = scan_ok c.args.source.now c.args.symbols.now c.scan.new.records c.in_ok-count.count c.in_ok-count.ensures.law (omega arith) c.in_ok-count.ensures.answer in
    sym (length-take-le c.in_ok-count.count c.scan.new.records (as_many z))

pub slice_bounds-fault_at-end : goal.slice_bounds-fault_at-end
slice_bounds-fault_at-end c =
    let h₀ = c.if-symbols-lt-MAX_SYMBOLS.false in
    as_many (scan_ok c.args.source.now c.args.symbols.now c.scan.new.records c.in_ok-count.count c.in_ok-count.ensures.law (omega arith) c.in_ok-count.ensures.answer)

pub slice_bounds-fault_at-end-in-Err : goal.slice_bounds-fault_at-end-in-Err
slice_bounds-fault_at-end-in-Err c =
    let h₀ = c.if-symbols-lt-MAX_SYMBOLS.false in
    let z = scan_ok c.args.source.now c.args.symbols.now c.scan.new.records c.in_ok-count.count c.in_ok-count.ensures.law (omega arith) c.in_ok-count.ensures.answer in
    sym (length-take-le c.in_ok-count.count c.scan.new.records (as_many z))

pub clear_from-requires : goal.clear_from-requires
clear_from-requires c =
    let h₀ = c.if-symbols-lt-MAX_SYMBOLS.false in
    let h₁ = c.if-tree-lt-MAX_RECORDS.false in
    let z = scan_ok c.args.source.now c.args.symbols.now c.scan.new.records c.in_ok-count.count c.in_ok-count.ensures.law (omega arith) c.in_ok-count.ensures.answer in
    let f = subst (λ x. Found c.args.source.now x c.in-Ok.end c.whole.new.tree) (in_front z) c.in-Ok.ensures in
    let k = f.few in
    let m = z.few in
    let l₀ = c.whole.auto.tree in
    let l₁ = c.clear.auto.tree in
    omega arith

pub returns-in-Ok : goal.returns-in-Ok
returns-in-Ok c =
    let s = c.args.source.now in
    let h₀ = c.if-symbols-lt-MAX_SYMBOLS.false in
    let h₁ = c.if-tree-lt-MAX_RECORDS.false in
    let z = scan_ok c.args.source.now c.args.symbols.now c.scan.new.records c.in_ok-count.count c.in_ok-count.ensures.law (omega arith) c.in_ok-count.ensures.answer in
    let f = subst (λ x. Found c.args.source.now x c.in-Ok.end c.whole.new.tree) (in_front z) c.in-Ok.ensures in
    let l₀ = c.whole.auto.tree in
    let l₁ = c.clear.auto.tree in
    let m = subst (λ x. Module c.args.source.now z.rs (record { root = x; records = c.in-Ok.end.used }) c.clear_from.new.tree) (sym c.saturating_sub.ensures)
    (finished c.args.source.now z.rs c.in-Ok.end c.whole.new.tree c.clear_from.new.tree f z.few (omega arith) c.clear_from.ensures) in
    record {
      short = λ h. absurd (elim h [ inl a ↦ omega arith | inr a ↦ omega arith ]);
      answer = λ h i. subst (λ l. Parses c.args.source.now c.args.symbols.now c.args.tree.now l (Ok (record { root = c.saturating_sub.result; records = c.in-Ok.end.used })) c.scan.new.records c.clear_from.new.tree) (sym z.is) (m, z.list);
      unique = one_tree;
      one = one_answer;
      begins = expressions_begin;
    }

pub returns-in-Err : goal.returns-in-Err
returns-in-Err c =
    let h₀ = c.if-symbols-lt-MAX_SYMBOLS.false in
    let h₁ = c.if-tree-lt-MAX_RECORDS.false in
    let z = scan_ok c.args.source.now c.args.symbols.now c.scan.new.records c.in_ok-count.count c.in_ok-count.ensures.law (omega arith) c.in_ok-count.ensures.answer in
    let d = subst (λ x. Descends c.args.source.now x c.clear.new.tree (Err c.in-Err.stop) c.whole.new.tree) (in_front z) c.in-Err.ensures in
    let l₀ = c.whole.auto.tree in
    let l₁ = c.clear.auto.tree in
    let l₂ = c.scan.auto.records in
    let a : length c.whole.new.tree ≡ length c.args.tree.now = omega arith in
    let b : length c.scan.new.records ≡ length c.args.symbols.now = omega arith in
    let j = stopped c.args.source.now z.rs c.args.symbols.now c.clear.new.tree c.whole.new.tree c.args.tree.now c.in-Err.stop c.refused.new.symbols c.refused.new.tree d
    (c.refused.ensures.symbols ∙ ap (λ n. replicate n zero_record) b) (c.refused.ensures.tree ∙ ap (λ n. replicate n zero_node) a) in
    let e : c.refused.result ≡ Err (placed c.args.source.now z.rs c.in-Err.stop) =
    c.refused.ensures.answer ∙ ap Err (c.fault_at-fault.ensures ∙ ap (λ x. placed c.args.source.now x c.in-Err.stop) (in_front z)) in
    record {
      short = λ h. absurd (elim h [ inl x ↦ omega arith | inr x ↦ omega arith ]);
      answer = λ h i. subst (λ l. Parses c.args.source.now c.args.symbols.now c.args.tree.now l c.refused.result c.refused.new.symbols c.refused.new.tree) (sym z.is)
          (subst (λ r. Judged c.args.source.now z.rs c.args.symbols.now c.args.tree.now r c.refused.new.symbols c.refused.new.tree) (sym e) j);
      unique = one_tree;
      one = one_answer;
      begins = expressions_begin;
    }
