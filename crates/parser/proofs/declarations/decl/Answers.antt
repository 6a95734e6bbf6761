use Rattle.std.proofs.Common.{}
use Rattle.syntax.proofs.Joins.{did_left, did_node, did_right, fails_left, fails_node, fails_right, goes_as}
use Rattle.parser.proofs.declarations.decl.Goals as goal

pub returns-then-is_next : goal.returns-then-is_next
returns-then-is_next c d e =
    let h = c.if-is_next.ensures in
    goes_as (λ a. did_node (did_left h a)) (λ z a. fails_node (fails_left h a)) (c.constants.ensures d e)

pub returns-else-is_next : goal.returns-else-is_next
returns-else-is_next c d e =
    let h = c.if-is_next.ensures in
    goes_as (λ a. did_node (did_right h a)) (λ z a. fails_node (fails_right h a)) (c.variables.ensures d e)
