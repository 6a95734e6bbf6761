use Rattle.std.proofs.Common.{◌≡◌, slice_get, arith, rules}
use Rattle.std.proofs.lemmas.Grind.{common_steps}
use Rattle.std.proofs.lemmas.Option.{gets}
use Rattle.memory.specs.Seen.{seen}
use Rattle.memory.proofs.Raw.{global_is, variable_is}
use Rattle.memory.proofs.store.Memory.word.Goals as goal

pub returns-in-Globals : goal.returns-in-Globals
returns-in-Globals c e =
    let g : c.copied.result ≡ slice_get c.self.inside.globals c.args.i = grind (arith, common_steps, gets) in
    rw (c.in-Globals.is, ← c.self.view_is, g) (global_is e c.args.i (seen c.self.inside) (search rules))

pub returns-in-Variables : goal.returns-in-Variables
returns-in-Variables c e =
    let g : c.copied-in-Variables.result ≡ slice_get c.variables.result.now c.args.i = grind (arith, common_steps, gets) in
    rw (c.in-Variables.is, g, c.variables.ensures) (variable_is e c.args.i c.args.self.now)
