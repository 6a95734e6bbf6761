use Rattle.instructions.proofs.Bounding.{turns_bound}
use Rattle.instructions.proofs.Composing.{runs_compose}
use Rattle.instructions.proofs.Feeding.{feeding_commutes}
use Rattle.instructions.proofs.Numbering.{numbers_return}
use Rattle.instructions.proofs.laws.laws_hold.Goals as goal

pub returns : goal.returns
returns c = record { numbers = numbers_return; compose = runs_compose; feeding = feeding_commutes; bounded = turns_bound }
