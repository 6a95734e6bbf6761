use Rattle.std.proofs.Common.{refl, ap}
use Rattle.grammar.specs.Language.{Expr}
use Rattle.grammar.specs.Sets.{firsts}
use Rattle.syntax.specs.Actions.{maybe}
use Rattle.syntax.specs.Steps.{On}
use Rattle.syntax.proofs.Joins.{did_inl, did_map, fails_left, goes_as, off_class, on_class}
use Rattle.syntax.proofs.Lays.{lays_as, lays_lift}
use Rattle.syntax.proofs.Parts.{goes_empty}
use Rattle.parser.proofs.statements.returned.Goals as goal

pub returns-then-begins_expr : goal.returns-then-begins_expr
returns-then-begins_expr c e =
    let s = c.args.descent.now.source.now in
    let rs = c.args.descent.now.symbols.now in
    let o : On c.args.descent.now (firsts Expr) = on_class c.next.ensures.coded c.begins_expr.ensures c.if-begins_expr.true tt in
    goes_as (λ a. did_map (λ v g x. lays_as (ap (maybe s rs) x.is) (lays_lift 1 x.wrote)) (did_inl o a)) (λ z a. fails_left o a) (c.expr.ensures e)

pub returns-else-begins_expr : goal.returns-else-begins_expr
returns-else-begins_expr c e = goes_empty (off_class c.next.ensures.coded c.begins_expr.ensures c.if-begins_expr.false tt) refl c.push.ensures c.bare.ensures (λ s rs. refl)
