use Rattle.agreement.proofs.Whole.{code_fits, never_broken, events_agree, outcomes_agree, outcomes_are_reached, outcomes_are_bounded, events_are_bounded}
use Rattle.agreement.proofs.Rounds.{jumps_back_are_rounds}
use Rattle.agreement.proofs.code_agrees.Goals as goal

pub returns : goal.returns
returns c = record { fits = code_fits; jumps = jumps_back_are_rounds; unbroken = never_broken; events = events_agree; outcomes = outcomes_agree; reached = outcomes_are_reached; bounded = outcomes_are_bounded; timely = events_are_bounded }
