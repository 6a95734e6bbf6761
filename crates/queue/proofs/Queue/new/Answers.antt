use Rattle.queue.proofs.Queueing.{queued_new}
use Rattle.queue.proofs.Queue.new.Goals as goal

pub returns-clause-means : goal.returns-clause-means
returns-clause-means c = queued_new c.args.memory.now
