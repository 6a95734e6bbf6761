use Rattle.std.proofs.Common.{◌<◌, arith, w32, rules}
use Rattle.std.proofs.lemmas.Int.{to_z-of_z}
use Rattle.memory.proofs.Raw.{pull_none, pull_some}
use Rattle.memory.proofs.store.Memory.pull.Goals as goal

pub returns-then-self-eq0 : goal.returns-then-self-eq0
returns-then-self-eq0 c = rw (← c.self.view_is) (pull_none c.self.inside c.if-self-eq0.true)

pub returns : goal.returns
returns c =
    let some : 0 < c.self.inside.operands = omega arith in
    rw (← c.self.view_is) (pull_some c.self.inside _ some (to_z-of_z w32 _ (search rules)))
