use Rattle.std.proofs.Common.{}
use Rattle.grammar.specs.Language.{Decl}
use Rattle.grammar.specs.Sets.{firsts}
use Rattle.syntax.specs.Steps.{On, Off}
use Rattle.syntax.proofs.Joins.{did_left, did_right, fails_left, fails_right, goes_as, off_class, on_class}
use Rattle.parser.proofs.declarations.declaration.Goals as goal

pub returns-then-begins_decl : goal.returns-then-begins_decl
returns-then-begins_decl c =
    let o : On c.args.descent.now (firsts Decl) = on_class c.next.ensures.coded c.begins_decl.ensures c.if-begins_decl.true tt in
    goes_as (did_left o) (λ z a. fails_left o a) (c.decl.ensures _ _)

pub returns-else-begins_decl : goal.returns-else-begins_decl
returns-else-begins_decl c =
    let o : Off c.args.descent.now (firsts Decl) = off_class c.next.ensures.coded c.begins_decl.ensures c.if-begins_decl.false tt in
    goes_as (did_right o) (λ z a. fails_right o a) c.proc.ensures
