use Rattle.integer.proofs.Words.{low_bits}
use Rattle.integer.proofs.sets.low_bits.Goals as goal

pub returns : goal.returns
returns c = low_bits c.args.word c.ranges.word
