-- A sample that joins a channel is passed by.
use Rattle.std.proofs.Common.{◌≡◌}
use Rattle.ports.proofs.Joining.{joined_sets, joined_finds, joined_takes, joined_lacks}
use Rattle.ports.specs.Samples.{Sample, joined}
use Rattle.semantics.proofs.Following.{PassedBy}

pub joined_passed_by : (s : Sample) → PassedBy (joined s) (λ c. c ≡ s.channel)
joined_passed_by s = record { sets = joined_sets s; finds = joined_finds s; takes = joined_takes s; lacks = joined_lacks s }
