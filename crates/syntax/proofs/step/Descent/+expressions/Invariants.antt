use Rattle.std.proofs.Common.{◌≡◌, ℕ, ◌+◌, ◌*◌, ◌≤◌}
use Rattle.grammar.specs.Ebnf.{seq, rep, ref, opt}
use Rattle.grammar.specs.Language.{Expr, Sum, Term}
use Rattle.syntax.specs.declared.tree.NodeKind.TheVariants as kind
use Rattle.syntax.specs.Actions.{bare, operated, separated}
use Rattle.syntax.specs.Forms.{comma_expr, add_term, multiply_factor}
use Rattle.syntax.specs.Steps.{root, remaining}
use Rattle.syntax.specs.Post.{Lays}
use Rattle.syntax.proofs.Joins.{Leads}
use Rattle.syntax.proofs.Parts.{Chains}
use Rattle.syntax.proofs.step.Descent.+expressions.Given as goal

abbrev pub decreases-expr : goal.decreases-expr
decreases-expr l = remaining l.self.now * 16 + 12

abbrev pub decreases-sum : goal.decreases-sum
decreases-sum l = remaining l.self.now * 16 + 11

abbrev pub decreases-signed_term : goal.decreases-signed_term
decreases-signed_term l = remaining l.self.now * 16 + 10

abbrev pub decreases-term : goal.decreases-term
decreases-term l = remaining l.self.now * 16 + 9

abbrev pub decreases-factor : goal.decreases-factor
decreases-factor l = remaining l.self.now * 16 + 8

abbrev pub decreases-selection : goal.decreases-selection
decreases-selection l = remaining l.self.now * 16 + 4

abbrev pub decreases-index : goal.decreases-index
decreases-index l = remaining l.self.now * 16 + 3

abbrev pub decreases-args : goal.decreases-args
decreases-args l = remaining l.self.now * 16 + 3

abbrev pub decreases-arguments : goal.decreases-arguments
decreases-arguments l = remaining l.self.now * 16 + 13

abbrev pub invariant-arguments-loop-self : goal.invariant-arguments-loop-self
invariant-arguments-loop-self l = record {
  leads : (e : ℕ) → Leads l.room e (opt (seq (ref Expr) (rep comma_expr))) (λ s rs v. Lays 2 (separated s rs v)) l.fn.self (rep comma_expr) (Chains comma_expr (λ s rs x. bare kind.Link) (λ s rs x. x.1)) l.self;
  all : l.all ≡ root l.self;
  left : remaining l.self ≤ remaining l.fn.self;
}

abbrev pub decreases-arguments-loop-self : goal.decreases-arguments-loop-self
decreases-arguments-loop-self l = remaining l.self

abbrev pub invariant-sum-loop-self : goal.invariant-sum-loop-self
invariant-sum-loop-self l = record {
  leads : (e : ℕ) → Leads l.room e (ref Sum) (λ s rs v. Lays 0 v) l.fn.self (rep add_term) (Chains add_term (λ s rs x. operated s rs kind.Binary x.0) (λ s rs x. x.1)) l.self;
  all : l.all ≡ root l.self;
  left : remaining l.self ≤ remaining l.fn.self;
}

abbrev pub decreases-sum-loop-self : goal.decreases-sum-loop-self
decreases-sum-loop-self l = remaining l.self

abbrev pub invariant-term-loop-self : goal.invariant-term-loop-self
invariant-term-loop-self l = record {
  leads : (e : ℕ) → Leads l.room e (ref Term) (λ s rs v. Lays 0 v) l.fn.self (rep multiply_factor) (Chains multiply_factor (λ s rs x. operated s rs kind.Binary x.0) (λ s rs x. x.1)) l.self;
  all : l.all ≡ root l.self;
  left : remaining l.self ≤ remaining l.fn.self;
}

abbrev pub decreases-term-loop-self : goal.decreases-term-loop-self
decreases-term-loop-self l = remaining l.self
