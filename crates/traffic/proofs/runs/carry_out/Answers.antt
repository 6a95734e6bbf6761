use Rattle.std.proofs.Common.{◌≡◌, ℕ, ◌<◌, length, take, drop, pos, ◌∙◌, subst, arith}
use Rattle.traffic.specs.declared.action.Action.TheVariants.{Feed}
use Rattle.traffic.specs.Runs.{Ran}
use Rattle.traffic.proofs.Conserving.{ran_next, past_next, run_conserves}
use Rattle.traffic.proofs.runs.carry_out.Goals as goal

pub loop-i-preserved : goal.loop-i-preserved
loop-i-preserved g c =
    let i = c.loop-i.i in
    let acts = c.args.actions.now in
    let outs = c.loop-i.outcomes in
    let p : i < length acts = omega arith in
    let q : i < length outs = omega arith in
    let inv = c.loop-i.invariant in
    let act = c.act.ensures in (
      ran_next acts outs _ _ _ c.args.c i (Feed (pos 0)) c.act.result p q inv.0 act.does act.after,
      past_next outs c.args.outcomes.now i c.act.result inv.1,
      act.lent ∙ inv.2,
    )

pub returns : goal.returns
returns g c =
    let m = g.P.Port.meaning c.args.port.now in
    let m' = g.P.Port.meaning c.loop-i.port in
    let acts = c.args.actions.now in
    let outs = c.loop-i.outcomes in
    let n = c.min-count.result in
    let inv = c.loop-i.invariant in
    let all : c.loop-i.i ≡ n = omega arith in
    let ran : Ran m c.args.c (take n acts) (take n outs) m' = subst (λ (k : ℕ). Ran m c.args.c (take k acts) (take k outs) m') all inv.0 in
    record {
      count = c.min-count.ensures;
      ran = ran;
      conserved = run_conserves (take n acts) (take n outs) m m' c.args.c ran;
      rest = subst (λ (k : ℕ). drop k outs ≡ drop k c.args.outcomes.now) all inv.1;
      lent = inv.2;
    }
