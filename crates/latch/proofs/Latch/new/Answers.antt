use Rattle.latch.proofs.Latching.{latched_new}
use Rattle.latch.proofs.Latch.new.Goals as goal

pub returns : goal.returns
returns c = latched_new
