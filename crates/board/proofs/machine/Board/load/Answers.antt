use Rattle.std.proofs.Common.{take, ap, ◌∙◌, ap₂}
use Rattle.std.proofs.lemmas.List.{take_min}
use Rattle.board.proofs.machine.Board.load.Goals as goal

pub returns-clause-blank : goal.returns-clause-blank
returns-clause-blank g c = ap₂ (λ x y. record { code = x; state = y; port = g.P.Port.meaning c.args.port }) (ap (λ n. take n c.args.code.now) c.min.ensures ∙ take_min 4096 c.args.code.now) c.new.ensures
