use Rattle.std.proofs.Common.{◌≡◌, ℕ}
use Rattle.grammar.specs.Ebnf.{rep, ref}
use Rattle.grammar.specs.Language.{Decl}
use Rattle.syntax.specs.declared.tree.NodeKind.TheVariants as kind
use Rattle.syntax.specs.Actions.{bare, empty, list}
use Rattle.syntax.specs.Steps.{root, remaining}
use Rattle.syntax.specs.Post.{Lays}
use Rattle.syntax.proofs.Joins.{Leads}
use Rattle.syntax.proofs.Parts.{Chains}
use Rattle.parser.proofs.declarations.decls.Given as goal

abbrev pub invariant-loop-descent : goal.invariant-loop-descent
invariant-loop-descent l = record {
  leads : (d e : ℕ) → Leads d e (rep (ref Decl)) (λ s rs v. Lays 1 (list (λ x. x) empty v)) l.fn.descent (rep (ref Decl)) (Chains (ref Decl) (λ s rs x. bare kind.Link) (λ s rs x. x)) l.descent;
  all : l.all ≡ root l.descent;
}

abbrev pub decreases-loop-descent : goal.decreases-loop-descent
decreases-loop-descent l = remaining l.descent
