use Rattle.std.proofs.Common.{◌≡◌, length, get_or, set, Some, sym, ap, ◌∙◌, rules}
use Rattle.ports.proofs.Width.{same}
use Rattle.latch.specs.Latched.{latched, empty_slot}
use Rattle.latch.proofs.Latching.{latched_fed, none}
use Rattle.latch.proofs.LatchPort.feed.Goals as goal

pub returns-clause-after : goal.returns-clause-after
returns-clause-after c =
    let slots = c.args.self.now.slots in
    let k = c.args.c in
    let hl : length slots ≡ 16 = search rules in
    let v = c.args.v in
    let s = get_or slots k empty_slot in
    let test = rw c.in_ok-i.ensures.0 at c.is_some.ensures in
    rw c.in_ok-i.ensures.0
    (ap (λ z. latched (set slots k (record { waiting = Some z; last = s.last }))) (same v c.ranges.v)
    ∙ latched_fed slots k c.in_ok-i.ensures.1 hl v c.ranges.v (none s.waiting (sym test ∙ c.if-is_some.false)))
