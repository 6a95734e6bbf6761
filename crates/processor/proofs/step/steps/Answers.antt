use mathlib.Core.Path.{◌≡◌, ap, sym, ◌∙◌}
use native.Mathlib.Omega.{arith}
use Rattle.processor.proofs.Stretching.{stretch_goes_on, stretch_ends, stretch_spent}
use Rattle.processor.proofs.step.steps.Goals as goal

pub returns-in_default : goal.returns-in_default
returns-in_default c = record { gone = stretch_ends c.args.budget c.loop-turn.turn c.args.code.now _ _ _ c.loop-turn.invariant c.step.result c.in_default.not-Went c.loop-turn-test.true c.step.ensures.gone; here = c.step.ensures.here }

pub loop-turn-preserved : goal.loop-turn-preserved
loop-turn-preserved c = stretch_goes_on c.args.budget c.loop-turn.turn c.args.code.now _ _ _ c.loop-turn.invariant c.loop-turn-test.true c.in-Went.ensures.gone

pub returns : goal.returns
returns c =
    let all : c.loop-turn.turn ≡ c.args.budget = omega arith in
    record { gone = stretch_spent c.args.budget c.loop-turn.turn c.args.code.now _ _ c.loop-turn.m c.loop-turn.invariant (sym all) ∙ ap (λ n. record { executed = n; act = _; state = c.loop-turn.m }) all; here = tt }
