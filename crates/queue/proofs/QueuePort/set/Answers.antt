use Rattle.std.proofs.Common.{◌≡◌, length, get_or, set, ap, ◌∙◌, rules}
use Rattle.ports.proofs.Width.{same}
use Rattle.queue.specs.Queued.{empty_ring, queued}
use Rattle.queue.proofs.Queueing.{queued_set}
use Rattle.queue.proofs.QueuePort.set.Goals as goal

pub returns-clause-after : goal.returns-clause-after
returns-clause-after c =
    let xs = c.args.self.now.memory.now in
    let rings = c.args.self.now.rings in
    let k = c.args.c in
    let r = get_or rings k empty_ring in
    let hl : length rings ≡ 16 = search rules in
    let v = c.args.v in
    rw c.in_ok-self.ensures.0 (ap (λ z. queued xs (set rings k (record { head = r.head; count = r.count; last = z }))) (same v c.ranges.v) ∙ queued_set xs rings k c.in_ok-self.ensures.1 v c.ranges.v hl)
