use Rattle.std.proofs.Common.{◌≡◌, length, get_or, Ok, ap, ◌∙◌, rules}
use mir.Val.{bool_byte}
use Rattle.ports.proofs.Width.{Fits, same}
use Rattle.latch.specs.Latched.{waiting_in, empty_slot}
use Rattle.latch.proofs.Latching.{latched_look, counted}
use Rattle.latch.proofs.LatchPort.look.Goals as goal

pub returns : goal.returns
returns c =
    let slots = c.args.self.now.slots in
    let k = c.args.c in
    let hl : length slots ≡ 16 = search rules in
    let s = get_or slots k empty_slot in
    let fl : Fits s.last = search rules in
    let is = rw c.in_ok-waiting.ensures.0 at c.is_some.ensures in
    let n : bool_byte c.is_some.result ≡ length (waiting_in s.waiting) = ap bool_byte is ∙ counted s.waiting in
    rw c.in_ok-waiting.ensures.0 (ap (λ z. Ok (record { waiting = bool_byte c.is_some.result; last = z })) (same s.last fl) ∙ latched_look slots k c.in_ok-waiting.ensures.1 hl fl _ n)
