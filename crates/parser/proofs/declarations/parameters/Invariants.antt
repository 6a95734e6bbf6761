use Rattle.std.proofs.Common.{◌≡◌, ℕ}
use Rattle.grammar.specs.Ebnf.{seq, rep, ref, opt}
use Rattle.grammar.specs.Language.{Pars}
use Rattle.syntax.specs.Actions.{bare, separated}
use Rattle.syntax.specs.Forms.{semicolon_pars}
use Rattle.syntax.specs.Post.{Lays}
use Rattle.syntax.specs.declared.tree.NodeKind.TheVariants as kind
use Rattle.syntax.specs.Steps.{root, remaining}
use Rattle.syntax.proofs.Joins.{Leads}
use Rattle.syntax.proofs.Parts.{Chains}
use Rattle.parser.proofs.declarations.parameters.Given as goal

abbrev pub invariant-loop-descent : goal.invariant-loop-descent
invariant-loop-descent l = record {
  leads : (d e : ℕ) → Leads d e (opt (seq (ref Pars) (rep semicolon_pars))) (λ s rs v. Lays 2 (separated s rs v)) l.fn.descent (rep semicolon_pars) (Chains semicolon_pars (λ s rs x. bare kind.Link) (λ s rs x. x.1)) l.descent;
  all : l.all ≡ root l.descent;
}

abbrev pub decreases-loop-descent : goal.decreases-loop-descent
decreases-loop-descent l = remaining l.descent
