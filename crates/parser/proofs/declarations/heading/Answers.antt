use Rattle.std.proofs.Common.{refl, ap, arith}
use Rattle.grammar.specs.Language.{Heading}
use Rattle.syntax.specs.Actions.{act}
use Rattle.syntax.specs.Syntax.{label}
use Rattle.vocabulary.specs.declared.tag.Tag.TheVariants.{EndOfSource}
use Rattle.syntax.specs.declared.tree.NodeKind.TheVariants as kind
use Rattle.syntax.proofs.Joins.{did, did_expect, did_inl, did_inr, did_map, did_node, did_none, did_on, did_push, did_seq, fails, fails_expect, fails_first, fails_left, fails_node, fails_then, goes_ok, goes_out, rooted}
use Rattle.syntax.proofs.Lays.{binary_lays, entry_same, lays_as, lays_paid, leaf_adds, passed_none}
use Rattle.parser.proofs.declarations.heading.Goals as goal

pub returns-then-not-accept : goal.returns-then-not-accept
returns-then-not-accept c d e =
    let s = c.args.descent.now.source.now in
    let rs = c.args.descent.now.symbols.now in
    let h = c.if-not-accept.ensures in
    goes_ok c.push.ensures.is (did_node (did_map
    (λ v g x.
    let a = x.one.one in
    lays_as (ap (act s rs Heading) a.one.is)
    (binary_lays {n = 0} (leaf_adds (label kind.Empty EndOfSource 0 0) a.one.wrote c.bare.ensures a.two) passed_none (leaf_adds (label kind.Empty EndOfSource 0 0) passed_none c.bare-then-not-accept.ensures x.one.two) x.two
    (entry_same c.bare-then-not-accept-2.ensures refl refl refl c.push-none.ensures.is c.push-nothing.ensures.is) 3 (omega arith)))
    (did_push (did_push (did_push (did_inr h.0 (did_none h.1)) c.push-none.ensures) c.push-nothing.ensures) c.push.ensures)))

pub returns-in_err-all : goal.returns-in_err-all
returns-in_err-all c d e =
    let h = c.if-not-accept.ensures in
    goes_out c.from_residual.ensures.1 (fails_node (fails_left h.0 (fails_then (did_on h.1 h.0) (fails_first (fails (c.in_err-all.ensures d e))))))

pub returns-in_err-expect : goal.returns-in_err-expect
returns-in_err-expect c d e =
    let h = c.if-not-accept.ensures in
    goes_out c.from_residual-in_err-expect.ensures.1 (fails_node (fails_left h.0 (fails_then (did_on h.1 h.0) (fails_then (did (c.in_ok-all.ensures d e)) (fails_first (fails_expect c.in_err-expect.ensures))))))

pub returns-in_err-kind : goal.returns-in_err-kind
returns-in_err-kind c d e =
    let h = c.if-not-accept.ensures in
    goes_out c.from_residual-in_err-kind.ensures.1 (fails_node (fails_left h.0 (fails_then (did_on h.1 h.0) (fails_then (did (c.in_ok-all.ensures d e)) (fails_then (did_expect c.in_ok-expect.ensures) (fails (c.in_err-kind.ensures d e)))))))

pub returns : goal.returns
returns c d e =
    let s = c.args.descent.now.source.now in
    let rs = c.args.descent.now.symbols.now in
    let h = c.if-not-accept.ensures in
    goes_ok c.push-2.ensures.is (did_node (did_map
    (λ v g x.
    let a = x.one.wrote in
    let b = a.two in
    let z = b.two in
    lays_as (ap (act s rs Heading) x.one.is)
    (binary_lays (lays_paid a.one.passed b.one 0 (omega arith)) z.one.passed z.two x.two
    (entry_same c.bare-2.ensures refl refl refl (rooted (c.in_ok-all.ensures d e)) (rooted (c.in_ok-kind.ensures d e))) 3 (omega arith)))
    (did_push (did_inl h.0 (did_seq (did_on h.1 h.0) (did_seq (did (c.in_ok-all.ensures d e)) (did_seq (did_expect c.in_ok-expect.ensures) (did (c.in_ok-kind.ensures d e)))))) c.push-2.ensures)))
