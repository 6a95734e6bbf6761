use Rattle.std.proofs.Common.{w32, rules}
use Rattle.std.proofs.lemmas.Int.{to_z-of_z}
use Rattle.memory.proofs.Raw.{store_global_there, store_global_absent, store_there, store_absent}
use Rattle.memory.proofs.store.Memory.store.Goals as goal

pub returns-in_default : goal.returns-in_default
returns-in_default c e = rw (c.in-Globals.is, ← c.self.view_is) (store_global_absent c.self.inside e c.args.i c.args.x c.if-i-lt1024.false)

pub returns-in_default-2 : goal.returns-in_default-2
returns-in_default-2 c e = rw (c.in-Variables.is, ← c.self.view_is) (store_absent c.self.inside c.self.invariant (search rules) e c.args.i c.args.x c.if-i-self.false)

pub returns-in-Globals : goal.returns-in-Globals
returns-in-Globals c e = rw (c.in-Globals.is, ← c.self.view_is) (store_global_there c.self.inside e c.args.i c.args.x _ (to_z-of_z w32 _ c.ranges.x) c.if-i-lt1024.true)

pub returns-in-Variables : goal.returns-in-Variables
returns-in-Variables c e = rw (c.in-Variables.is, ← c.self.view_is) (store_there c.self.inside c.self.invariant (search rules) e c.args.i c.args.x _ (to_z-of_z w32 _ c.ranges.x) c.if-i-self.true)
