use Rattle.std.proofs.Common.{◌+◌, ◌*◌}
use Rattle.outline.proofs.order.+add_part.Given as goal

abbrev pub decreases-add : goal.decreases-add
decreases-add l = 2 * l.at + 1

abbrev pub decreases-part : goal.decreases-part
decreases-part l = 2 * l.above
