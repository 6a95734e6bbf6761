use Rattle.listing.proofs.Returning.{reads_back}
use Rattle.listing.proofs.line.lines_read_back.Goals as goal

pub returns : goal.returns
returns c = reads_back
