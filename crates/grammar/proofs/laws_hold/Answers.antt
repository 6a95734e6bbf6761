use Rattle.grammar.proofs.Claimed.{one_tree, one_answer, reader_right}
use Rattle.grammar.proofs.Answered.{some_answer}
use Rattle.grammar.proofs.laws_hold.Goals as goal

pub returns : goal.returns
returns c = record { tree = one_tree; some = some_answer; one = one_answer; reader = reader_right }
