use Rattle.std.proofs.Common.{◌≡◌}
use Rattle.grammar.specs.Claims.{limit}
use Rattle.grammar.specs.Ebnf.{rep, ref, alt}
use Rattle.grammar.specs.Language.{Decl, Proc}
use Rattle.syntax.specs.declared.tree.NodeKind.TheVariants as kind
use Rattle.syntax.specs.Actions.{bare, empty, list, either}
use Rattle.syntax.specs.Steps.{root, remaining}
use Rattle.syntax.specs.Post.{Lays}
use Rattle.syntax.proofs.Joins.{Leads}
use Rattle.syntax.proofs.Parts.{Chains}
use Rattle.parser.proofs.declarations.declarations.Given as goal

abbrev pub invariant-loop-descent : goal.invariant-loop-descent
invariant-loop-descent l = record {
  leads : Leads limit limit (rep (alt (ref Decl) (ref Proc))) (λ s rs v. Lays 1 (list (either s rs) empty v)) l.fn.descent (rep (alt (ref Decl) (ref Proc))) (Chains (alt (ref Decl) (ref Proc)) (λ s rs x. bare kind.Link) (λ s rs x. either s rs x)) l.descent;
  all : l.all ≡ root l.descent;
}

abbrev pub decreases-loop-descent : goal.decreases-loop-descent
decreases-loop-descent l = remaining l.descent
