use Rattle.std.proofs.Common.{◌≡◌, length, ℤ, Some, sym, rules}
use Rattle.ports.proofs.Width.{Fits}
use Rattle.latch.proofs.Latching.{latched_take}
use Rattle.latch.proofs.LatchPort.take.Goals as goal

pub returns-clause-answer : goal.returns-clause-answer
returns-clause-answer c =
    let slots = c.args.self.now.slots in
    let k = c.args.c in
    let hl : length slots ≡ 16 = search rules in
    let is = rw c.in_ok-self.ensures.0 at c.take.ensures.value in
    let fits : (z : ℤ) → c.take.result ≡ Some z → Fits z = λ z e. search rules in
    latched_take slots k c.in_ok-self.ensures.1 hl c.take.result (sym is) fits
