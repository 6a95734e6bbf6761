use Rattle.std.proofs.Common.{length}
use Rattle.std.specs.List.{FoldsTo}
use Rattle.player.specs.Lines.{Answered}
use Rattle.player.proofs.serve.answer_lines.Given as goal

abbrev pub invariant-loop-line : goal.invariant-loop-line
invariant-loop-line g l =
    goal.F-IsAlwaysCallable g l.answer
    × ((last : _) → FoldsTo (Answered (λ p x r q. goal.F-step g p x r q)) l.answer l.rest last → FoldsTo (Answered (λ p x r q. goal.F-step g p x r q)) l.fn.answer l.fn.script last)

abbrev pub decreases-loop-line : goal.decreases-loop-line
decreases-loop-line g l = length l.rest
