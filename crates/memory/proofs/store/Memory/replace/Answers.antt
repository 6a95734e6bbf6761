use Rattle.std.proofs.Common.{◌≡◌, arith, w32, rules}
use Rattle.std.proofs.lemmas.Int.{to_z-of_z}
use Rattle.memory.proofs.Raw.{replace_none, replace_some}
use Rattle.memory.proofs.store.Memory.replace.Goals as goal

pub returns-then-self-gt0 : goal.returns-then-self-gt0
returns-then-self-gt0 c = rw (← c.self.view_is) (replace_some c.self.inside c.self.invariant (search rules) c.args.z _ (to_z-of_z w32 _ c.ranges.z) c.if-self-gt0.true)

pub returns-else-self-gt0 : goal.returns-else-self-gt0
returns-else-self-gt0 c =
    let none : c.self.inside.operands ≡ 0 = omega arith in
    rw (← c.self.view_is) (replace_none c.self.inside c.args.z none)
