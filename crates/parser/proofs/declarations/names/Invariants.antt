use Rattle.std.proofs.Common.{◌≡◌, ℕ}
use Rattle.grammar.specs.Ebnf.{seq, rep}
use Rattle.grammar.specs.Language.{n}
use Rattle.syntax.specs.Actions.{bare, name, names}
use Rattle.syntax.specs.Forms.{comma_name}
use Rattle.syntax.specs.Post.{Lays}
use Rattle.syntax.specs.declared.tree.NodeKind.TheVariants as kind
use Rattle.syntax.specs.Steps.{root, remaining}
use Rattle.syntax.proofs.Joins.{Leads}
use Rattle.syntax.proofs.Parts.{Chains}
use Rattle.parser.proofs.declarations.names.Given as goal

abbrev pub invariant-loop-descent : goal.invariant-loop-descent
invariant-loop-descent l = record {
  leads : (d e : ℕ) → Leads d e (seq n (rep comma_name)) (λ s rs v. Lays 0 (names s rs v.0 v.1)) l.fn.descent (rep comma_name) (Chains comma_name (λ s rs x. bare kind.Link) (λ s rs x. name s rs x.1)) l.descent;
  all : l.all ≡ root l.descent;
}

abbrev pub decreases-loop-descent : goal.decreases-loop-descent
decreases-loop-descent l = remaining l.descent
