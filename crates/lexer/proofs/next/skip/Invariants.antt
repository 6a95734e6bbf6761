use Rattle.std.proofs.Common.{◌≡◌, ◌-◌, ◌≤◌, length, drop}
use Rattle.lexer.specs.Scan.{skipped}
use Rattle.lexer.proofs.next.skip.Given as goal

abbrev pub invariant-turns : goal.invariant-turns
invariant-turns l =
    (l.at ≤ length l.source)
    × (l.depth ≤ l.at)
    × (skipped l.depth l.opened l.at (drop l.at l.source) ≡ skipped 0 0 l.initial.at (drop l.initial.at l.source))

abbrev pub decreases-turns : goal.decreases-turns
decreases-turns l = length l.source - l.at
