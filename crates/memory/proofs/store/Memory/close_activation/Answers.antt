use Rattle.std.proofs.Common.{◌≡◌, ◌≤◌, length, Some, None, Err, sym, ap, ◌∙◌, arith, rules}
use Rattle.std.proofs.lemmas.List.{length-take-le}
use Rattle.std.proofs.lemmas.Option.{MatchOption-at_none, MatchOption-at_some}
use Rattle.std.proofs.lemmas.Result.{err_from_is_err_and}
use Rattle.instructions.specs.declared.answers.Fault.TheVariants.{Broken}
use Rattle.memory.proofs.Piling.{popped_is, none_popped}
use Rattle.memory.proofs.Raw.{close_none, close_some}
use Rattle.memory.proofs.store.Memory.close_activation.Goals.{In_ok-caller}
use Rattle.memory.proofs.store.Memory.close_activation.Goals as goal

pub returns-in_err-caller : goal.returns-in_err-caller
returns-in_err-caller c =
    let m = c.self.inside in
    let none : c.pop.result ≡ None = grind arith in
    let k = MatchOption-at_none _ _ none c.pop.ensures.held in
    let p = err_from_is_err_and c.from_residual.result c.from_residual.ensures.1 in
    let r : c.from_residual.result ≡ Err Broken = grind arith in
    let long : m.depth ≤ length m.callers = search rules in
    let empty : c.over-open.result.len ≡ 0 = sym (length-take-le _ _ c.over-open.result.low) ∙ ap length k.0 in
    rw (r, ← c.self.view_is) (close_none m _ (k.1.slots_are ∙ c.over-open.ensures.slots.1) (none_popped m.callers m.depth c.over-open.result.len long c.over-open.ensures.slots.0 empty))

pub returns : goal.returns
returns c =
    let m = c.self.inside in
    let a = c.in_ok-caller.caller in
    let some : c.pop.result ≡ Some a = grind arith in
    let k = MatchOption-at_some _ _ a some c.pop.ensures.held in
    let long : m.depth ≤ length m.callers = search rules in
    let p = popped_is m.callers c.over-open.result.slots.now m.depth c.over-open.result.len c.pop.new.self.len a long c.over-open.ensures.slots.0 k.len_was k.item_is c.over-open.ensures.slots.1 in
    rw (← c.self.view_is) (close_some m _ a (k.slots_are ∙ c.over-open.ensures.slots.1) p.0 p.1)
