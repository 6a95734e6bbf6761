use Rattle.std.proofs.Common.{◌≡◌, ◌<◌, ◌≤◌, length, set, ◌∙◌, arith, rules}
use Rattle.memory.proofs.Piling.{full_at, room_at, nested_more, refused, pushed}
use Rattle.memory.proofs.Raw.{open_short, open_deep, open_there, suspended}
use Rattle.memory.proofs.store.Memory.open_activation.Goals.{Else-is_err}
use Rattle.memory.proofs.store.Memory.open_activation.Goals as goal

pub returns-then-arguments-self : goal.returns-then-arguments-self
returns-then-arguments-self c = rw (← c.self.view_is) (open_short c.self.inside c.args.arguments c.args.target c.if-arguments-self.true)

pub returns-then-is_err : goal.returns-then-is_err
returns-then-is_err c =
    let m = c.self.inside in
    let h = refused c.push.result _ _ c.push.ensures.held (search rules) in
    let full : length m.callers ≤ m.depth = full_at m.callers c.over-open.result.slots.now m.depth c.over-open.result.len c.over-open.result.low c.over-open.ensures.slots.0 c.over-open.ensures.slots.1 h.0 in
    let all : length m.callers ≡ 32 = search rules in
    rw (← c.self.view_is) (open_deep m _ c.args.arguments c.args.target (h.1.slots_are ∙ c.over-open.ensures.slots.1) c.if-arguments-self.false (omega arith))

-- there was room, and the new record stands above the others
stacked : (c : Else-is_err) → (c.self.inside.depth < length c.self.inside.callers) × (c.push.new.self.slots.now ≡ set c.self.inside.callers c.self.inside.depth (suspended c.self.inside c.args.arguments))
stacked c =
    let m = c.self.inside in
    let h = pushed c.push.result _ _ c.push.ensures.held (search rules) in
    let deep : m.depth ≤ length m.callers = search rules in
    room_at m.callers c.over-open.result.slots.now c.push.new.self.slots.now m.depth c.over-open.result.len c.push.new.self.len (suspended m c.args.arguments) deep c.over-open.ensures.slots.0 c.over-open.ensures.slots.1 h.len_is h.slots_are c.push.new.self.low

pub invariant_of-self-2 : goal.invariant_of-self-2
invariant_of-self-2 c =
    let m = c.self.inside in
    let r = stacked (goal.at.invariant_of-self-2 c).Else-is_err in
    let all : length m.callers ≡ 32 = search rules in
    let few : c.args.arguments ≤ m.operands = c.if-arguments-self.false in
    let n = nested_more m.callers m.depth (suspended m c.args.arguments) r.0 (omega arith) c.self.invariant.low c.self.invariant.ordered in
    record { deep = omega (arith, r.0); low = omega arith; held = omega arith; ordered = rw r.1 n }

pub returns : goal.returns
returns c =
    let r = stacked (goal.at.returns c).Else-is_err in
    let all : length c.self.inside.callers ≡ 32 = search rules in
    rw (← c.self.view_is) (open_there c.self.inside c.self.invariant (search rules) _ c.args.arguments c.args.target r.1 c.if-arguments-self.false (omega (arith, r.0)) r.0)
