use Rattle.std.proofs.Common.{◌≡◌, ◌-◌, length, take, drop}
use Rattle.lexer.specs.Scan.{symbols_from}
use Rattle.lexer.specs.Records.{recorded}
use Rattle.lexer.proofs.Turns.{behind}
use Rattle.lexer.proofs.records.fill.Given as goal

abbrev pub invariant-loop-count : goal.invariant-loop-count
invariant-loop-count l = record {
  read : behind (take l.count l.slots) (recorded (symbols_from (length l.slots - l.count) l.source l.at)) ≡ recorded (symbols_from (length l.slots) l.source 0);
  rest : drop l.count l.slots ≡ drop l.count l.fn.slots;
}
