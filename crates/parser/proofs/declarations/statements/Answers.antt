use Rattle.std.proofs.Common.{refl, ap}
use Rattle.syntax.specs.Actions.{behind}
use Rattle.syntax.proofs.Joins.{did_inl, did_map, did_on, did_seq, fails_left, fails_then, goes_as}
use Rattle.syntax.proofs.Lays.{lays_as, lays_passed}
use Rattle.syntax.proofs.Parts.{goes_empty}
use Rattle.parser.proofs.declarations.statements.Goals as goal

pub returns-then-accept : goal.returns-then-accept
returns-then-accept c =
    let s = c.args.descent.now.source.now in
    let rs = c.args.descent.now.symbols.now in
    let h = c.if-accept.ensures in
    goes_as (λ a. did_map (λ v g x. lays_as (ap (behind s rs) x.is) (lays_passed x.wrote.one.passed x.wrote.two)) (did_inl h.0 (did_seq (did_on h.1 h.0) a)))
    (λ z a. fails_left h.0 (fails_then (did_on h.1 h.0) a)) c.stats.ensures

pub returns-else-accept : goal.returns-else-accept
returns-else-accept c = let h = c.if-accept.ensures in goes_empty h.0 h.1 c.push.ensures c.bare.ensures (λ s rs. refl)
