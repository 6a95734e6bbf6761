use Rattle.std.proofs.Common.{◌≡◌, ◌+◌, ◌<◌, ◌≤◌, length, get_or, set, ◌∙◌, ap₂, arith, rules}
use Rattle.ports.proofs.Width.{same}
use Rattle.queue.specs.Queued.{share, place, empty_ring, queued}
use Rattle.queue.proofs.Queueing.{queued_feed, queued_fed, queued_feed_full, queued_fed_full}
use Rattle.queue.proofs.QueuePort.feed.Goals as goal

pub returns-clause-answer : goal.returns-clause-answer
returns-clause-answer c =
    let xs = c.args.self.now.memory.now in
    let rings = c.args.self.now.rings in
    let k = c.args.c in
    let test = rw c.in_ok-i.ensures.0 at c.if-ring-depth.false in
    let room : (get_or rings k empty_ring).count < share (length xs) = omega arith in
    queued_feed xs rings k c.in_ok-i.ensures.1 room

pub returns-clause-after : goal.returns-clause-after
returns-clause-after c =
    let xs = c.args.self.now.memory.now in
    let rings = c.args.self.now.rings in
    let k = c.args.c in
    let r = get_or rings k empty_ring in
    let hl : length rings ≡ 16 = search rules in
    let v = c.args.v in
    let test = rw c.in_ok-i.ensures.0 at c.if-ring-depth.false in
    let room : r.count < share (length xs) = omega arith in
    let ei = c.in_ok-i.ensures.0 in
    let free : c.place-free.result ≡ place (share (length xs)) r.head r.count k = cc in
    rw ei
    (ap₂ (λ p z. queued (set xs p z) (set rings k (record { head = r.head; count = r.count + 1; last = r.last }))) free (same v c.ranges.v)
    ∙ queued_fed xs rings k c.in_ok-i.ensures.1 v c.ranges.v hl (c.args.self.now.inside k) room)

pub returns-then-ring-depth-clause-answer : goal.returns-then-ring-depth-clause-answer
returns-then-ring-depth-clause-answer c =
    let xs = c.args.self.now.memory.now in
    let rings = c.args.self.now.rings in
    let k = c.args.c in
    let test = rw c.in_ok-i.ensures.0 at c.if-ring-depth.true in
    let full : share (length xs) ≤ (get_or rings k empty_ring).count = omega arith in
    queued_feed_full xs rings k c.in_ok-i.ensures.1 full

pub returns-then-ring-depth-clause-after : goal.returns-then-ring-depth-clause-after
returns-then-ring-depth-clause-after c =
    let xs = c.args.self.now.memory.now in
    let rings = c.args.self.now.rings in
    let k = c.args.c in
    let test = rw c.in_ok-i.ensures.0 at c.if-ring-depth.true in
    let full : share (length xs) ≤ (get_or rings k empty_ring).count = omega arith in
    queued_fed_full xs rings k c.in_ok-i.ensures.1 c.args.v full
