use Rattle.std.proofs.Common.{◌≡◌, ℕ, ◌+◌, ◌-◌, ◌<◌, length, get_or, set, ℤ, pos, Some, Ok, ap, ap₂, ◌∙◌, arith, rules}
use Rattle.ports.proofs.Width.{Fits, same}
use Rattle.queue.specs.Queued.{share, wrap, place, empty_ring, queued}
use Rattle.queue.proofs.Queueing.{queued_take, queued_took}
use Rattle.queue.proofs.QueuePort.take.Goals as goal

pub returns-clause-answer : goal.returns-clause-answer
returns-clause-answer c =
    let xs = c.args.self.now.memory.now in
    let rings = c.args.self.now.rings in
    let k = c.args.c in
    let r = get_or rings k empty_ring in
    let test = rw c.in_ok-i.ensures.0 at c.if-ring-eq0.false in
    let some : 0 < r.count = omega arith in
    let ei = c.in_ok-i.ensures.0 in
    let at : c.place.result ≡ place (share (length xs)) r.head 0 k = cc in
    let z = get_or xs (place (share (length xs)) r.head 0 k) (pos 0) in
    let fz : Fits z = search rules in
    rw at (ap (λ y. Ok (Some y)) (same z fz) ∙ queued_take xs rings k c.in_ok-i.ensures.1 some fz)

pub returns-clause-after : goal.returns-clause-after
returns-clause-after c =
    let xs = c.args.self.now.memory.now in
    let rings = c.args.self.now.rings in
    let k = c.args.c in
    let r = get_or rings k empty_ring in
    let hl : length rings ≡ 16 = search rules in
    let test = rw c.in_ok-i.ensures.0 at c.if-ring-eq0.false in
    let some : 0 < r.count = omega arith in
    let ei = c.in_ok-i.ensures.0 in
    let next : c.wrapped.result ≡ wrap (share (length xs)) (r.head + 1) = cc in
    let fl : Fits r.last = search rules in
    rw ei
    (ap₂ (λ (a : ℕ) (z : ℤ). queued xs (set rings k (record { head = a; count = r.count - 1; last = z }))) next (same r.last fl)
    ∙ queued_took xs rings k c.in_ok-i.ensures.1 hl (c.args.self.now.inside k) some)
