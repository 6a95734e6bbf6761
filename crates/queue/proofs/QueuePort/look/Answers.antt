use Rattle.std.proofs.Common.{get_or, Ok, ap, ◌∙◌, rules}
use Rattle.ports.proofs.Width.{Fits, same}
use Rattle.queue.specs.Queued.{empty_ring}
use Rattle.queue.proofs.Queueing.{queued_look}
use Rattle.queue.proofs.QueuePort.look.Goals as goal

pub returns : goal.returns
returns c =
    let xs = c.args.self.now.memory.now in
    let rings = c.args.self.now.rings in
    let k = c.args.c in
    let r = get_or rings k empty_ring in
    let fl : Fits r.last = search rules in
    rw c.in_ok-count.ensures.0 (ap (λ z. Ok (record { waiting = r.count; last = z })) (same r.last fl) ∙ queued_look xs rings k c.in_ok-count.ensures.1 fl)
