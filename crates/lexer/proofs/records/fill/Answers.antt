use Rattle.std.proofs.Common.{◌≡◌, ◌+◌, ◌<◌, length, Ok, sym, ap, ◌∙◌, arith, length-set}
use Rattle.std.proofs.lemmas.Result.{err_from_is_err_and}
use Rattle.std.proofs.lemmas.List.{append-nil, drop-set-lt, set-get_or}
use Rattle.lexer.specs.Scan.{seen, is_end}
use Rattle.lexer.proofs.Turns.{faulty, ended, not_end, no_room, turn, told, later, kept_none, kept_some}
use Rattle.lexer.proofs.records.fill.Goals as goal

pub returns-in_err-lexeme : goal.returns-in_err-lexeme
returns-in_err-lexeme c =
    let xs = c.loop-count.slots in
    let p = err_from_is_err_and c.from_residual.result c.from_residual.ensures.1 in
    rw (p.1, p.2) (told c.args.source.now xs _ c.loop-count.count _ _ (omega arith) (omega arith) c.loop-count.invariant.read (faulty _ _ _ _ c.in_err-lexeme.ensures.is))

pub returns-in_default : goal.returns-in_default
returns-in_default c =
    let xs = c.loop-count.slots in
    let l = c.in_ok-lexeme.ensures in
    let e = sym l.ends ∙ kept_none _ (seen c.in_ok-lexeme.lexeme) c.in_default.ensures in
    rw set-get_or (
      omega arith,
      told c.args.source.now xs _ c.loop-count.count _ _ (omega arith) (omega arith) c.loop-count.invariant.read (ended _ _ _ _ l.is e) ∙ ap Ok (append-nil _),
      c.loop-count.invariant.rest,
    )

pub loop-count-preserved : goal.loop-count-preserved
loop-count-preserved c =
    let i = c.loop-count.invariant in
    let xs = c.loop-count.slots in
    let n = c.loop-count.count in
    let l = c.in_ok-lexeme.ensures in
    let h : n < length xs = omega arith in
    let k = kept_some _ (seen c.in_ok-lexeme.lexeme) _ c.in-Some.ensures in
    let t = turn c.args.source.now xs n _ _ c.in-Some.record _ h l.is (sym l.ends ∙ k.0) k.1 i.read in
    record {
      read = rw (length-set, l.end) t;
      rest = drop-set-lt (n + 1) xs n c.in-Some.record (omega arith) ∙ later xs c.args.slots.now n (n + 1) (omega arith) i.rest;
    }

pub returns-in_err-surplus : goal.returns-in_err-surplus
returns-in_err-surplus c =
    let xs = c.loop-count.slots in
    let p = err_from_is_err_and c.from_residual-in_err-surplus.result c.from_residual-in_err-surplus.ensures.1 in
    rw (p.1, p.2) (told c.args.source.now xs _ c.loop-count.count _ _ (omega arith) (omega arith) c.loop-count.invariant.read (faulty _ _ _ _ c.in_err-surplus.ensures.is))

pub returns-in-End : goal.returns-in-End
returns-in-End c =
    let xs = c.loop-count.slots in
    let n : c.loop-count.count ≡ length xs = omega arith in
    let l = c.in_ok-surplus.ensures in
    let e = sym l.ends ∙ ap is_end c.in-End.is in
    rw (← n) (
      omega arith,
      told c.args.source.now xs _ c.loop-count.count _ _ (omega arith) (omega arith) c.loop-count.invariant.read (ended _ _ _ _ l.is e) ∙ ap Ok (append-nil _),
      c.loop-count.invariant.rest,
    )

pub returns-in_default-symbol : goal.returns-in_default-symbol
returns-in_default-symbol c =
    let xs = c.loop-count.slots in
    let l = c.in_ok-surplus.ensures in
    let e = sym l.ends ∙ not_end _ c.in_default-symbol.not-End in
    told c.args.source.now xs _ c.loop-count.count _ _ (omega arith) (omega arith) c.loop-count.invariant.read (no_room _ _ _ _ (omega arith) l.is e)
