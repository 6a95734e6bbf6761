use Rattle.std.proofs.Common.{w32, rules}
use Rattle.std.proofs.lemmas.Int.{to_z-of_z}
use Rattle.memory.proofs.Raw.{operand_absent, operand_there}
use Rattle.memory.proofs.store.Memory.operand.Goals as goal

pub returns-then-n-self : goal.returns-then-n-self
returns-then-n-self c = rw (← c.self.view_is) (operand_absent c.self.inside c.args.n c.if-n-self.true)

pub returns : goal.returns
returns c = rw (← c.self.view_is) (operand_there c.self.inside c.args.n _ c.if-n-self.false (to_z-of_z w32 _ (search rules)))
