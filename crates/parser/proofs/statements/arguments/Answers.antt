use Rattle.std.proofs.Common.{refl, ap}
use Rattle.syntax.specs.Actions.{maybe}
use Rattle.syntax.proofs.Joins.{did_inl, did_map, fails_left, goes_as}
use Rattle.syntax.proofs.Lays.{lays_as, lays_lift}
use Rattle.syntax.proofs.Parts.{goes_empty}
use Rattle.parser.proofs.statements.arguments.Goals as goal

pub returns-then-is_next : goal.returns-then-is_next
returns-then-is_next c e =
    let s = c.args.descent.now.source.now in
    let rs = c.args.descent.now.symbols.now in
    let h = c.if-is_next.ensures in
    goes_as (λ a. did_map (λ v g x. lays_as (ap (maybe s rs) x.is) (lays_lift 1 x.wrote)) (did_inl h a)) (λ z a. fails_left h a) (c.args-then-is_next.ensures e)

pub returns-else-is_next : goal.returns-else-is_next
returns-else-is_next c e = goes_empty c.if-is_next.ensures refl c.push.ensures c.bare.ensures (λ s rs. refl)
