use Rattle.std.proofs.Common.{◌≡◌, ◌+◌, ◌*◌, ◌≤◌}
use Rattle.grammar.specs.Claims.{limit}
use Rattle.grammar.specs.Ebnf.{rep, ref}
use Rattle.grammar.specs.Language.{Stats}
use Rattle.syntax.specs.declared.tree.NodeKind.TheVariants as kind
use Rattle.syntax.specs.Actions.{bare, arm, list}
use Rattle.syntax.specs.Forms.{semicolon_stat, elsif_arm}
use Rattle.syntax.specs.Steps.{root, remaining}
use Rattle.syntax.specs.Post.{Lays, Extends}
use Rattle.syntax.proofs.Joins.{Leads}
use Rattle.syntax.proofs.Parts.{Chains}
use Rattle.parser.proofs.statements.+statements.Given as goal

abbrev pub decreases-stats : goal.decreases-stats
decreases-stats l = remaining l.descent.now * 16 + 12

abbrev pub decreases-stat : goal.decreases-stat
decreases-stat l = remaining l.descent.now * 16 + 11

abbrev pub decreases-if_statement : goal.decreases-if_statement
decreases-if_statement l = remaining l.descent.now * 16 + 8

abbrev pub decreases-while_statement : goal.decreases-while_statement
decreases-while_statement l = remaining l.descent.now * 16 + 8

abbrev pub decreases-repeat_statement : goal.decreases-repeat_statement
decreases-repeat_statement l = remaining l.descent.now * 16 + 8

abbrev pub decreases-loop_statement : goal.decreases-loop_statement
decreases-loop_statement l = remaining l.descent.now * 16 + 8

abbrev pub decreases-for_statement : goal.decreases-for_statement
decreases-for_statement l = remaining l.descent.now * 16 + 8

abbrev pub decreases-more_arms : goal.decreases-more_arms
decreases-more_arms l = remaining l.descent.now * 16 + 3

abbrev pub decreases-otherwise : goal.decreases-otherwise
decreases-otherwise l = remaining l.descent.now * 16 + 1

abbrev pub invariant-stats-loop-descent : goal.invariant-stats-loop-descent
invariant-stats-loop-descent l = record {
  leads : Leads limit l.room (ref Stats) (λ s rs v. Lays 1 v) l.fn.descent (rep semicolon_stat) (Chains semicolon_stat (λ s rs x. bare kind.Sequence) (λ s rs x. x.1)) l.descent;
  all : l.all ≡ root l.descent;
  left : remaining l.descent ≤ remaining l.fn.descent;
}

abbrev pub decreases-stats-loop-descent : goal.decreases-stats-loop-descent
decreases-stats-loop-descent l = remaining l.descent

abbrev pub invariant-more_arms-loop-descent : goal.invariant-more_arms-loop-descent
invariant-more_arms-loop-descent l = record {
  leads : Leads limit l.room (rep elsif_arm) (λ s rs v. Extends 0 (λ a. list (arm s rs) a v)) l.fn.descent (rep elsif_arm) (Chains elsif_arm (λ s rs x. bare kind.Link) (λ s rs x. arm s rs x)) l.descent;
  all : l.all ≡ root l.descent;
  left : remaining l.descent ≤ remaining l.fn.descent;
}

abbrev pub decreases-more_arms-loop-descent : goal.decreases-more_arms-loop-descent
decreases-more_arms-loop-descent l = remaining l.descent
