use Rattle.std.proofs.Common.{◌≡◌, ℕ}
use Rattle.grammar.specs.Ebnf.{seq, rep, ref, opt}
use Rattle.grammar.specs.Language.{Range}
use Rattle.syntax.specs.Actions.{bare, separated}
use Rattle.syntax.specs.Forms.{comma_range}
use Rattle.syntax.specs.Steps.{root, remaining}
use Rattle.syntax.specs.Post.{Lays}
use Rattle.syntax.specs.declared.tree.NodeKind.TheVariants as kind
use Rattle.syntax.proofs.Joins.{Leads}
use Rattle.syntax.proofs.Parts.{Chains}
use Rattle.syntax.proofs.step.Descent.ranges.Given as goal

abbrev pub invariant-loop-self : goal.invariant-loop-self
invariant-loop-self l = record {
  leads : (d e : ℕ) → Leads d e (opt (seq (ref Range) (rep comma_range))) (λ s rs v. Lays 2 (separated s rs v)) l.fn.self (rep comma_range) (Chains comma_range (λ s rs x. bare kind.Link) (λ s rs x. x.1)) l.self;
  all : l.all ≡ root l.self;
}

abbrev pub decreases-loop-self : goal.decreases-loop-self
decreases-loop-self l = remaining l.self
