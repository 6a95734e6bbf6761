use Rattle.std.proofs.Common.{◌≡◌, take, drop}
use Rattle.traffic.specs.Runs.{Ran}
use Rattle.traffic.proofs.runs.carry_out.Given as goal

abbrev pub invariant-loop-i : goal.invariant-loop-i
invariant-loop-i g l = Ran (g.P.Port.meaning l.initial.port) l.c (take l.i l.actions) (take l.i l.outcomes) (g.P.Port.meaning l.port) × (drop l.i l.outcomes ≡ drop l.i l.initial.outcomes) × (g.P.Port.lenders l.port ≡ g.P.Port.lenders l.initial.port)
