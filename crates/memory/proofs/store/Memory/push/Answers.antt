use Rattle.std.proofs.Common.{w32, rules}
use Rattle.std.proofs.lemmas.Int.{to_z-of_z}
use Rattle.memory.proofs.Raw.{push_full, push_room}
use Rattle.memory.proofs.store.Memory.push.Goals as goal

pub returns-then-self-ge-ROOM : goal.returns-then-self-ge-ROOM
returns-then-self-ge-ROOM c = rw (← c.self.view_is) (push_full c.self.inside c.self.invariant (search rules) c.args.x c.if-self-ge-ROOM.true)

pub returns : goal.returns
returns c = rw (← c.self.view_is) (push_room c.self.inside c.self.invariant (search rules) c.args.x _ (to_z-of_z w32 _ c.ranges.x) c.if-self-ge-ROOM.false)
