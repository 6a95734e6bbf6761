use Rattle.std.proofs.Common.{◌≡◌, ◌+◌, ◌-◌, ◌≤◌, length, drop, replicate, pos, ap, ◌∙◌, arith, rules, length-drop}
use Rattle.std.proofs.lemmas.List.{length-take-le}
use Rattle.memory.proofs.Raw.{make_full, make_room}
use Rattle.memory.proofs.store.Memory.make_variables.Goals as goal

pub returns-then-all-gt-ROOM : goal.returns-then-all-gt-ROOM
returns-then-all-gt-ROOM c = rw (← c.self.view_is) (make_full c.self.inside c.self.invariant (search rules) c.args.n c.if-all-gt-ROOM.true)

pub returns : goal.returns
returns c =
    let m = c.self.inside in
    let a = m.base + (m.variables + m.operands) in
    let k = m.base + (m.variables + m.operands + c.args.n) - a in
    let n : k ≡ c.args.n = omega arith in
    let room : k ≤ length (drop a m.words) = omega (arith, length-drop a m.words) in
    let zeros = c.fill.ensures.after (λ y h. h) ∙ ap (λ j. replicate j (pos 0)) (length-take-le k (drop a m.words) room) in
    rw (← c.self.view_is) (make_room m c.self.invariant (search rules) c.args.n k c.fill.new.self zeros n c.if-all-gt-ROOM.false)
