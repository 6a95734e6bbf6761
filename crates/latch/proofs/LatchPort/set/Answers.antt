use Rattle.std.proofs.Common.{◌≡◌, length, get_or, set, ap, ◌∙◌, rules}
use Rattle.ports.proofs.Width.{same}
use Rattle.latch.specs.Latched.{latched, empty_slot}
use Rattle.latch.proofs.Latching.{latched_set}
use Rattle.latch.proofs.LatchPort.set.Goals as goal

pub returns-clause-after : goal.returns-clause-after
returns-clause-after c =
    let slots = c.args.self.now.slots in
    let k = c.args.c in
    let hl : length slots ≡ 16 = search rules in
    let v = c.args.v in
    rw c.in_ok-self.ensures.0 (ap (λ z. latched (set slots k (record { waiting = (get_or slots k empty_slot).waiting; last = z }))) (same v c.ranges.v) ∙ latched_set slots k c.in_ok-self.ensures.1 hl v c.ranges.v)
