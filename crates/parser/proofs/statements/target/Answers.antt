use Rattle.std.proofs.Common.{refl, ap, arith}
use Rattle.syntax.specs.Forms.{targeted}
use Rattle.syntax.specs.Symbols.{word_length}
use Rattle.syntax.specs.Syntax.{label}
use Rattle.vocabulary.specs.declared.tag.Tag.TheVariants.{EndOfSource}
use Rattle.syntax.specs.declared.tree.NodeKind.TheVariants as kind
use Rattle.syntax.proofs.Joins.{did, did_inl, did_inr, did_map, did_none, did_push, fails, fails_left, goes_ok, goes_out, rooted}
use Rattle.syntax.proofs.Lays.{entry_same, lays_as, leaf_adds, passed_none, unary_lays}
use Rattle.parser.proofs.statements.target.Goals as goal

pub returns-in_err-part : goal.returns-in_err-part
returns-in_err-part c e = goes_out c.from_residual.ensures.1 (fails_left c.if-is_next.ensures (fails (c.in_err-part.ensures e)))

pub returns-then-is_next : goal.returns-then-is_next
returns-then-is_next c e =
    let s = c.args.descent.now.source.now in
    goes_ok c.push.ensures.is (did_map
    (λ v g x.
    let y = x.one in
    lays_as (ap (targeted c.args.name.place (word_length s c.args.name.place)) y.is)
    (unary_lays {m = 0} {n = 0} passed_none y.wrote passed_none x.two (entry_same c.placed.ensures refl refl c.word_length-length.ensures (rooted (c.in_ok-part.ensures e)) refl) 1 (omega arith)))
    (did_push (did_inl c.if-is_next.ensures (did (c.in_ok-part.ensures e))) c.push.ensures))

pub returns : goal.returns
returns c e =
    let s = c.args.descent.now.source.now in
    goes_ok c.push-2.ensures.is (did_map
    (λ v g x. lays_as (ap (targeted c.args.name.place (word_length s c.args.name.place)) x.one.is)
    (leaf_adds (label kind.Name EndOfSource c.args.name.place (word_length s c.args.name.place)) x.one.wrote (entry_same c.placed-2.ensures refl refl c.word_length-length.ensures refl refl) x.two))
    (did_push (did_inr c.if-is_next.ensures (did_none refl)) c.push-2.ensures))
