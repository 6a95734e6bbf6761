use Rattle.std.proofs.Common.{length}
use Rattle.lexer_cases.proofs.decode.decode.Given as goal

abbrev pub decreases-loop-escape : goal.decreases-loop-escape
decreases-loop-escape l = length l.rest
