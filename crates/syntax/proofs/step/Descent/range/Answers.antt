use Rattle.std.proofs.Common.{refl, sym, ap, ◌∙◌, arith}
use Rattle.grammar.specs.Language.{Range}
use Rattle.syntax.specs.Actions.{act}
use Rattle.syntax.specs.Steps.{root}
use Rattle.syntax.proofs.Joins.{did, fails, rooted, goes_ok, goes_out, did_map, did_node, did_inl, did_inr, did_none, did_seq, did_on, did_push, fails_node, fails_first, fails_then, fails_left}
use Rattle.syntax.proofs.Lays.{lays_as, binary_lays, lays_close, entry_same}
use Rattle.syntax.proofs.step.Descent.range.Goals as goal

pub returns-in_err-first : goal.returns-in_err-first
returns-in_err-first c d e = goes_out c.from_residual.ensures.1 (fails_node (fails_first (fails (c.in_err-first.ensures d e))))

pub returns-then-not-accept : goal.returns-then-not-accept
returns-then-not-accept c d e =
    let s = c.args.self.now.source.now in
    let rs = c.args.self.now.symbols.now in
    let a = c.in_ok-first.ensures d e in
    let h = c.if-not-accept.ensures in
    goes_ok (rooted a ∙ ap root (sym h.1)) (did_node (did_map (λ v g x. lays_as (ap (λ z. act s rs Range (v.0, z)) x.two.is) (lays_close x.one x.two.wrote 0 (omega arith)))
    (did_seq (did a) (did_inr h.0 (did_none h.1)))))

pub returns-in_err-last : goal.returns-in_err-last
returns-in_err-last c d e =
    let h = c.if-not-accept.ensures in
    goes_out c.from_residual-in_err-last.ensures.1 (fails_node (fails_then (did (c.in_ok-first.ensures d e)) (fails_left h.0 (fails_then (did_on h.1 h.0) (fails (c.in_err-last.ensures d e))))))

pub returns : goal.returns
returns c d e =
    let s = c.args.self.now.source.now in
    let rs = c.args.self.now.symbols.now in
    let a = c.in_ok-first.ensures d e in
    let b = c.in_ok-last.ensures d e in
    let h = c.if-not-accept.ensures in
    goes_ok c.push.ensures.is (did_node (did_map
    (λ v g x.
    let y = x.one in
    lays_as (ap (λ z. act s rs Range (v.0, z)) y.two.is)
    (binary_lays y.one y.two.wrote.one.passed y.two.wrote.two x.two (entry_same c.bare.ensures refl refl refl (rooted a) (rooted b)) 0 (omega arith)))
    (did_push (did_seq (did a) (did_inl h.0 (did_seq (did_on h.1 h.0) (did b)))) c.push.ensures)))
