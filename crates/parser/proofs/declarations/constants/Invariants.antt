use Rattle.std.proofs.Common.{◌≡◌, ℕ}
use Rattle.grammar.specs.Ebnf.{rep}
use Rattle.syntax.specs.Actions.{bare}
use Rattle.syntax.specs.Forms.{const_part, constants_of, constant_item, constant_of}
use Rattle.syntax.specs.Post.{Spares}
use Rattle.syntax.specs.declared.tree.NodeKind.TheVariants as kind
use Rattle.syntax.specs.Steps.{root, remaining}
use Rattle.syntax.proofs.Joins.{Leads}
use Rattle.syntax.proofs.Parts.{Chains}
use Rattle.parser.proofs.declarations.constants.Given as goal

abbrev pub invariant-loop-descent : goal.invariant-loop-descent
invariant-loop-descent l = record {
  leads : (d e : ℕ) → Leads d e (const_part) (λ s rs v. Spares (constants_of s rs v)) l.fn.descent (rep constant_item) (Chains constant_item (λ s rs x. bare kind.Link) (λ s rs x. constant_of s rs x)) l.descent;
  all : l.all ≡ root l.descent;
}

abbrev pub decreases-loop-descent : goal.decreases-loop-descent
decreases-loop-descent l = remaining l.descent
