use Rattle.std.proofs.Common.{◌≡◌, ◌-◌, ◌≤◌}
use Rattle.instructions.specs.Steps.{run}
use Rattle.board.specs.Seen.{view, tally}
use Rattle.board.proofs.Turning.{plus}
use Rattle.board.proofs.machine.Board.run.Given as goal

abbrev pub invariant-loop-executed : goal.invariant-loop-executed
invariant-loop-executed g l =
    (l.events ≤ l.executed)
    × (l.executed ≤ l.budget)
    × (tally (run l.budget (view g.P.Port.meaning l.initial.self))
    ≡ plus l.executed l.events (tally (run (l.budget - l.executed) (view g.P.Port.meaning l.self))))
    × (g.P.Port.lenders l.self.port ≡ g.P.Port.lenders l.initial.self.port)

abbrev pub decreases-loop-executed : goal.decreases-loop-executed
decreases-loop-executed g l = l.budget - l.executed
