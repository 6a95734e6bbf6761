use Rattle.std.proofs.Common.{}
use Rattle.grammar.specs.Language.{Elem}
use Rattle.grammar.specs.Sets.{firsts}
use Rattle.syntax.specs.Steps.{On, Off}
use Rattle.syntax.proofs.Joins.{did_left, did_node, did_right, fails_left, fails_node, fails_right, goes_as, off_class, on_class}
use Rattle.parser.proofs.declarations.constant.Goals as goal

pub returns-then-begins_elem : goal.returns-then-begins_elem
returns-then-begins_elem c d e =
    let o : On c.args.descent.now (firsts Elem) = on_class c.next.ensures.coded c.begins_elem.ensures c.if-begins_elem.true tt in
    goes_as (λ a. did_node (did_left o a)) (λ z a. fails_node (fails_left o a)) (c.elem.ensures d e)

pub returns-else-begins_elem : goal.returns-else-begins_elem
returns-else-begins_elem c d e =
    let o : Off c.args.descent.now (firsts Elem) = off_class c.next.ensures.coded c.begins_elem.ensures c.if-begins_elem.false tt in
    goes_as (λ a. did_node (did_right o a)) (λ z a. fails_node (fails_right o a)) (c.set.ensures d e)
