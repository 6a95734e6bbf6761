use Rattle.std.proofs.Common.{refl, sym, ap, arith, rules, ◌∙◌, ◌-◌}
use Rattle.grammar.specs.Codes.{code}
use Rattle.grammar.specs.Language.{Stat}
use Rattle.syntax.specs.Actions.{act, behind}
use Rattle.syntax.specs.Steps.{root}
use Rattle.syntax.specs.Syntax.{label}
use Rattle.vocabulary.specs.declared.tag.Tag.TheVariants.{EndOfSource}
use Rattle.syntax.specs.declared.tree.NodeKind.TheVariants as kind
use Rattle.syntax.proofs.Joins.{did, did_expect, did_inl, did_inr, did_keeps, did_left, did_map, did_node, did_none, did_on, did_push, did_right, did_seq, did_shrinks, did_within, fails, fails_begin, fails_cons, fails_expect, fails_first, fails_left, fails_node, fails_right, fails_then, fails_within, goes_as, goes_ok, goes_out, off_by, on_by, on_falls, place_is, rooted}
use Rattle.syntax.proofs.Lays.{binary_lays, entry_same, extends_item, lays_as, lays_close, lays_lift, lays_more, lays_passed, lays_spend, leaf_adds, leaf_lays, passed_none, unary_lays}
use Rattle.syntax.proofs.Parts.{fails_next, goes_empty, leads_end, leads_item, leads_next, next_falls}
use Rattle.parser.proofs.statements.+statements.Goals as goal

pub stats-returns-in_err-all : goal.stats-returns-in_err-all
stats-returns-in_err-all t c = goes_out c.from_residual.ensures.1 (fails_node (fails_first (fails c.in_err-all.ensures)))

pub stats-loop-descent-init : goal.stats-loop-descent-init
stats-loop-descent-init t c =
    let a = c.in_ok-all.ensures in
    record {
      leads = record { on = λ p' b. did_node (did_map (λ v g x. lays_more {k = 1} {m = 0} x.one x.two) (did_seq (did a) b)); off = λ k p' b. fails_node (fails_then (did a) b) };
      all = rooted a;
      left = did_keeps (did a);
    }

pub stats-returns-in_err-item : goal.stats-returns-in_err-item
stats-returns-in_err-item t c = goes_out c.from_residual-in_err-item.ensures.1 (fails_next c.loop-descent.invariant.leads c.loop-descent-test.ensures (fails c.in_err-item.ensures))

pub stats-loop-descent-smaller : goal.stats-loop-descent-smaller
stats-loop-descent-smaller t c = next_falls c.loop-descent-test.ensures c.in_ok-item.ensures c.push-all.ensures

pub stats-loop-descent-preserved : goal.stats-loop-descent-preserved
stats-loop-descent-preserved t c =
    let i = c.loop-descent.invariant in
    record {
      leads = leads_next i.leads c.loop-descent-test.ensures c.in_ok-item.ensures c.push-all.ensures c.bare.ensures i.all (omega arith);
      all = c.push-all.ensures.is;
      left = let h = i.left in let j = next_falls c.loop-descent-test.ensures c.in_ok-item.ensures c.push-all.ensures in omega arith;
    }

pub stats-returns : goal.stats-returns
stats-returns t c =
    let h = c.loop-descent-test.ensures in
    let i = c.loop-descent.invariant in
    goes_ok (i.all ∙ ap root (sym h.1)) (leads_end i.leads h.0 h.1)

pub stat-returns-in-Identifier : goal.stat-returns-in-Identifier
stat-returns-in-Identifier t c =
    let k = c.in-Identifier.ensures.coded in
    goes_as (λ a. did_node (did_left (on_by 41 k tt tt) (did_left (on_by 41 k tt tt) (did_map (λ v g x. lays_lift 1 x) a)))) (λ z a. fails_node (fails_left (on_by 41 k tt tt) (fails_left (on_by 41 k tt tt) (a)))) (c.action.ensures _)

pub stat-returns-in-Exit : goal.stat-returns-in-Exit
stat-returns-in-Exit t c =
    let k = c.in-Exit.ensures.coded in
    goes_ok c.push.ensures.is (did_node (did_left (on_by 13 k tt tt) (did_right (off_by 13 k tt tt) (did_left (on_by 13 k tt tt) (did_map
    (λ v g x. lays_lift 1 (leaf_lays {n = 0} _ x.one.passed (entry_same c.placed.ensures refl (place_is x.one) refl refl refl) x.two))
    (did_push (did_on c.pass-word.ensures (on_by 13 k tt tt)) c.push.ensures))))))

pub stat-returns-in-If : goal.stat-returns-in-If
stat-returns-in-If t c =
    let k = c.in-If.ensures.coded in
    goes_as (λ a. did_node (did_left (on_by 17 k tt tt) (did_right (off_by 17 k tt tt) (did_right (off_by 17 k tt tt) (did_left (on_by 17 k tt tt) (did_map (λ v g x. lays_lift 1 x) a)))))) (λ z a. fails_node (fails_left (on_by 17 k tt tt) (fails_right (off_by 17 k tt tt) (fails_right (off_by 17 k tt tt) (fails_left (on_by 17 k tt tt) (a)))))) c.if_statement.ensures

pub stat-returns-in-While : goal.stat-returns-in-While
stat-returns-in-While t c =
    let k = c.in-While.ensures.coded in
    goes_as (λ a. did_node (did_left (on_by 39 k tt tt) (did_right (off_by 39 k tt tt) (did_right (off_by 39 k tt tt) (did_right (off_by 39 k tt tt) (did_left (on_by 39 k tt tt) (did_map (λ v g x. lays_lift 1 x) a))))))) (λ z a. fails_node (fails_left (on_by 39 k tt tt) (fails_right (off_by 39 k tt tt) (fails_right (off_by 39 k tt tt) (fails_right (off_by 39 k tt tt) (fails_left (on_by 39 k tt tt) (a))))))) c.while_statement.ensures

pub stat-returns-in-Repeat : goal.stat-returns-in-Repeat
stat-returns-in-Repeat t c =
    let k = c.in-Repeat.ensures.coded in
    goes_as (λ a. did_node (did_left (on_by 31 k tt tt) (did_right (off_by 31 k tt tt) (did_right (off_by 31 k tt tt) (did_right (off_by 31 k tt tt) (did_right (off_by 31 k tt tt) (did_left (on_by 31 k tt tt) (did_map (λ v g x. lays_lift 1 x) a)))))))) (λ z a. fails_node (fails_left (on_by 31 k tt tt) (fails_right (off_by 31 k tt tt) (fails_right (off_by 31 k tt tt) (fails_right (off_by 31 k tt tt) (fails_right (off_by 31 k tt tt) (fails_left (on_by 31 k tt tt) (a)))))))) c.repeat_statement.ensures

pub stat-returns-in-Loop : goal.stat-returns-in-Loop
stat-returns-in-Loop t c =
    let k = c.in-Loop.ensures.coded in
    goes_as (λ a. did_node (did_left (on_by 21 k tt tt) (did_right (off_by 21 k tt tt) (did_right (off_by 21 k tt tt) (did_right (off_by 21 k tt tt) (did_right (off_by 21 k tt tt) (did_right (off_by 21 k tt tt) (did_left (on_by 21 k tt tt) (did_map (λ v g x. lays_lift 1 x) a))))))))) (λ z a. fails_node (fails_left (on_by 21 k tt tt) (fails_right (off_by 21 k tt tt) (fails_right (off_by 21 k tt tt) (fails_right (off_by 21 k tt tt) (fails_right (off_by 21 k tt tt) (fails_right (off_by 21 k tt tt) (fails_left (on_by 21 k tt tt) (a))))))))) c.loop_statement.ensures

pub stat-returns-in-Return : goal.stat-returns-in-Return
stat-returns-in-Return t c =
    let k = c.in-Return.ensures.coded in
    goes_as (λ a. did_node (did_left (on_by 32 k tt tt) (did_right (off_by 32 k tt tt) (did_right (off_by 32 k tt tt) (did_right (off_by 32 k tt tt) (did_right (off_by 32 k tt tt) (did_right (off_by 32 k tt tt) (did_right (off_by 32 k tt tt) (did_left (on_by 32 k tt tt) (did_map (λ v g x. lays_lift 1 x) a)))))))))) (λ z a. fails_node (fails_left (on_by 32 k tt tt) (fails_right (off_by 32 k tt tt) (fails_right (off_by 32 k tt tt) (fails_right (off_by 32 k tt tt) (fails_right (off_by 32 k tt tt) (fails_right (off_by 32 k tt tt) (fails_right (off_by 32 k tt tt) (fails_left (on_by 32 k tt tt) (a)))))))))) (c.return_statement.ensures _)

pub stat-returns-in-For : goal.stat-returns-in-For
stat-returns-in-For t c =
    let k = c.in-For.ensures.coded in
    goes_as (λ a. did_node (did_left (on_by 15 k tt tt) (did_right (off_by 15 k tt tt) (did_right (off_by 15 k tt tt) (did_right (off_by 15 k tt tt) (did_right (off_by 15 k tt tt) (did_right (off_by 15 k tt tt) (did_right (off_by 15 k tt tt) (did_right (off_by 15 k tt tt) (did_map (λ v g x. lays_lift 1 x) a)))))))))) (λ z a. fails_node (fails_left (on_by 15 k tt tt) (fails_right (off_by 15 k tt tt) (fails_right (off_by 15 k tt tt) (fails_right (off_by 15 k tt tt) (fails_right (off_by 15 k tt tt) (fails_right (off_by 15 k tt tt) (fails_right (off_by 15 k tt tt) (fails_right (off_by 15 k tt tt) (a)))))))))) c.for_statement.ensures

pub stat-returns-in_default : goal.stat-returns-in_default
stat-returns-in_default t c =
    let s = c.args.descent.now.source.now in
    let rs = c.args.descent.now.symbols.now in
    goes_ok c.push-in_default.ensures.is (did_node (did_map (λ v g x. lays_as (ap (act s rs Stat) x.one.is) (leaf_adds (label kind.Empty EndOfSource 0 0) x.one.wrote c.bare.ensures x.two))
    (did_push (did_inr (off_by (code c.next.result) c.next.ensures.coded tt (search rules)) (did_none refl)) c.push-in_default.ensures)))

pub otherwise-stats-requires : goal.otherwise-stats-requires
otherwise-stats-requires t c =
    let h = on_falls c.if-accept.ensures.1 c.if-accept.ensures.0 in
    (omega arith, tt)

pub otherwise-returns-then-accept : goal.otherwise-returns-then-accept
otherwise-returns-then-accept t c =
    let s = c.args.descent.now.source.now in
    let rs = c.args.descent.now.symbols.now in
    let h = c.if-accept.ensures in
    goes_as (λ a. did_map (λ v g x. lays_as (ap (behind s rs) x.is) (lays_passed x.wrote.one.passed x.wrote.two)) (did_inl h.0 (did_seq (did_on h.1 h.0) a)))
    (λ z a. fails_left h.0 (fails_then (did_on h.1 h.0) a)) c.stats.ensures

pub otherwise-returns-else-accept : goal.otherwise-returns-else-accept
otherwise-returns-else-accept t c = let h = c.if-accept.ensures in goes_empty h.0 h.1 c.push.ensures c.bare.ensures (λ s rs. refl)

pub more_arms-returns-in_err-condition : goal.more_arms-returns-in_err-condition
more_arms-returns-in_err-condition t c =
    let h = c.loop-descent-test.ensures in
    let i = c.loop-descent.invariant in
    goes_out c.from_residual.ensures.1 (i.leads.off _ _ (fails_cons h (fails_first (fails_then (did_on c.pass-word.ensures h) (fails_first (fails (c.in_err-condition.ensures _)))))))

pub more_arms-returns-in_err-expect : goal.more_arms-returns-in_err-expect
more_arms-returns-in_err-expect t c =
    let h = c.loop-descent-test.ensures in
    let i = c.loop-descent.invariant in
    goes_out c.from_residual-in_err-expect.ensures.1 (i.leads.off _ _ (fails_cons h (fails_first (fails_then (did_on c.pass-word.ensures h) (fails_then (did (c.in_ok-condition.ensures _)) (fails_first (fails_expect c.in_err-expect.ensures)))))))

pub more_arms-returns-in_err-body : goal.more_arms-returns-in_err-body
more_arms-returns-in_err-body t c =
    let h = c.loop-descent-test.ensures in
    let i = c.loop-descent.invariant in
    goes_out c.from_residual-in_err-body.ensures.1 (i.leads.off _ _ (fails_cons h (fails_first (fails_then (did_on c.pass-word.ensures h) (fails_then (did (c.in_ok-condition.ensures _)) (fails_then (did_expect c.in_ok-expect.ensures) (fails c.in_err-body.ensures)))))))

pub more_arms-stats-requires : goal.more_arms-stats-requires
more_arms-stats-requires t c =
    let i = c.loop-descent.invariant.left in
    let h₁ = on_falls c.pass-word.ensures c.loop-descent-test.ensures in
    let h₂ = did_keeps (did (c.in_ok-condition.ensures 0)) in
    let h₃ = did_keeps (did_expect {d = 0} {e = 0} c.in_ok-expect.ensures) in
    (omega arith, tt)

pub more_arms-loop-descent-smaller : goal.more_arms-loop-descent-smaller
more_arms-loop-descent-smaller t c =
    let h = c.loop-descent-test.ensures in
    did_shrinks tt h (did_push (did_seq (did_on c.pass-word.ensures h) (did_seq (did (c.in_ok-condition.ensures _)) (did_seq (did_expect c.in_ok-expect.ensures) (did_push (did c.in_ok-body.ensures) c.push-item.ensures)))) c.push-all.ensures)

pub more_arms-loop-descent-preserved : goal.more_arms-loop-descent-preserved
more_arms-loop-descent-preserved t c =
    let h = c.loop-descent-test.ensures in
    let i = c.loop-descent.invariant in
    let a = did_push (did_seq (did_on c.pass-word.ensures h) (did_seq (did (c.in_ok-condition.ensures _)) (did_seq (did_expect c.in_ok-expect.ensures) (did_push (did c.in_ok-body.ensures) c.push-item.ensures)))) c.push-all.ensures in
    record {
      leads = leads_item i.leads h (did_map
          (λ v g x.
          let y = x.one in
          let f = y.two in
          let b = f.two in
          let p = b.two in
          extends_item y.one.passed
          (binary_lays f.one b.one.passed p.one p.two (entry_same c.placed.ensures refl (place_is y.one) refl (rooted (c.in_ok-condition.ensures 0)) (rooted c.in_ok-body.ensures)) 0 (omega arith)) x.two
          (entry_same c.bare.ensures refl refl refl i.all c.push-item.ensures.is) 0 (omega arith))
          a);
      all = c.push-all.ensures.is;
      left = let j = i.left in let l = did_keeps a in omega arith;
    }

pub more_arms-returns : goal.more_arms-returns
more_arms-returns t c =
    let i = c.loop-descent.invariant in
    goes_ok i.all (leads_end i.leads c.loop-descent-test.ensures refl)

pub if_statement-returns-in_err-word : goal.if_statement-returns-in_err-word
if_statement-returns-in_err-word t c = goes_out c.from_residual.ensures.1 (fails_node (fails_begin c.in_err-word.ensures))

pub if_statement-returns-in_err-condition : goal.if_statement-returns-in_err-condition
if_statement-returns-in_err-condition t c = goes_out c.from_residual-in_err-condition.ensures.1 (fails_node (fails_within c.in_ok-word.ensures (fails_first (fails (c.in_err-condition.ensures _)))))

pub if_statement-returns-in_err-expect : goal.if_statement-returns-in_err-expect
if_statement-returns-in_err-expect t c = goes_out c.from_residual-in_err-expect.ensures.1 (fails_node (fails_within c.in_ok-word.ensures (fails_then (did (c.in_ok-condition.ensures _)) (fails_first (fails_expect c.in_err-expect.ensures)))))

pub if_statement-returns-in_err-body : goal.if_statement-returns-in_err-body
if_statement-returns-in_err-body t c = goes_out c.from_residual-in_err-body.ensures.1 (fails_node (fails_within c.in_ok-word.ensures (fails_then (did (c.in_ok-condition.ensures _)) (fails_then (did_expect c.in_ok-expect.ensures) (fails_first (fails c.in_err-body.ensures))))))

pub if_statement-returns-in_err-arms : goal.if_statement-returns-in_err-arms
if_statement-returns-in_err-arms t c = goes_out c.from_residual-in_err-arms.ensures.1 (fails_node (fails_within c.in_ok-word.ensures (fails_then (did (c.in_ok-condition.ensures _)) (fails_then (did_expect c.in_ok-expect.ensures) (fails_then (did_push (did c.in_ok-body.ensures) c.push-first.ensures) (fails_first (fails c.in_err-arms.ensures)))))))

pub if_statement-returns-in_err-other : goal.if_statement-returns-in_err-other
if_statement-returns-in_err-other t c = goes_out c.from_residual-in_err-other.ensures.1 (fails_node (fails_within c.in_ok-word.ensures (fails_then (did (c.in_ok-condition.ensures _)) (fails_then (did_expect c.in_ok-expect.ensures) (fails_then (did_push (did c.in_ok-body.ensures) c.push-first.ensures) (fails_then (did c.in_ok-arms.ensures) (fails_first (fails c.in_err-other.ensures))))))))

pub if_statement-returns-in_err-end : goal.if_statement-returns-in_err-end
if_statement-returns-in_err-end t c = goes_out c.from_residual-in_err-end.ensures.1 (fails_node (fails_within c.in_ok-word.ensures (fails_then (did (c.in_ok-condition.ensures _)) (fails_then (did_expect c.in_ok-expect.ensures) (fails_then (did_push (did c.in_ok-body.ensures) c.push-first.ensures) (fails_then (did c.in_ok-arms.ensures) (fails_then (did c.in_ok-other.ensures) (fails_expect c.in_err-end.ensures))))))))

pub if_statement-stats-requires : goal.if_statement-stats-requires
if_statement-stats-requires t c =
    let h₁ = on_falls c.in_ok-word.ensures.1 c.in_ok-word.ensures.0 in
    let h₂ = did_keeps (did (c.in_ok-condition.ensures 0)) in
    let h₃ = did_keeps (did_expect {d = 0} {e = 0} c.in_ok-expect.ensures) in
    (omega arith, tt)

pub if_statement-more_arms-requires : goal.if_statement-more_arms-requires
if_statement-more_arms-requires t c =
    let h₁ = on_falls c.in_ok-word.ensures.1 c.in_ok-word.ensures.0 in
    let h₂ = did_keeps (did (c.in_ok-condition.ensures 0)) in
    let h₃ = did_keeps (did_expect {d = 0} {e = 0} c.in_ok-expect.ensures) in
    let h₄ = did_keeps (did_push (did c.in_ok-body.ensures) c.push-first.ensures) in
    (omega arith, c.push-first.ensures.is)

pub if_statement-otherwise-requires : goal.if_statement-otherwise-requires
if_statement-otherwise-requires t c =
    let h₁ = on_falls c.in_ok-word.ensures.1 c.in_ok-word.ensures.0 in
    let h₂ = did_keeps (did (c.in_ok-condition.ensures 0)) in
    let h₃ = did_keeps (did_expect {d = 0} {e = 0} c.in_ok-expect.ensures) in
    let h₄ = did_keeps (did_push (did c.in_ok-body.ensures) c.push-first.ensures) in
    let h₅ = did_keeps (did c.in_ok-arms.ensures) in
    (omega arith, tt)

pub if_statement-returns : goal.if_statement-returns
if_statement-returns t c =
    goes_ok c.push.ensures.is (did_node (did_map
    (λ v g x.
    let y = x.one in
    let a = y.two in
    let b = a.two in
    let f = b.two in
    let p = f.one in
    let z = f.two in
    let u = z.two in
    let l₁ = binary_lays a.one b.one.passed p.one p.two (entry_same c.placed.ensures refl (place_is y.one) refl (rooted (c.in_ok-condition.ensures 0)) (rooted c.in_ok-body.ensures)) 0 (omega arith) in
    let l₃ = lays_close {n = 1} u.one u.two.passed 0 (omega arith) in
    lays_spend y.one.passed (binary_lays {n = 0} (lays_more l₁ z.one) passed_none l₃ x.two
    (entry_same c.placed-2.ensures refl (place_is y.one) (place_is u.two) (rooted c.in_ok-arms.ensures) (rooted c.in_ok-other.ensures ∙ ap (λ m. m - 1) (sym u.two.passed.used))) 1 (omega arith)))
    (did_push (did_within c.in_ok-word.ensures (did_seq (did (c.in_ok-condition.ensures _)) (did_seq (did_expect c.in_ok-expect.ensures) (did_seq (did_push (did c.in_ok-body.ensures) c.push-first.ensures) (did_seq (did c.in_ok-arms.ensures) (did_seq (did c.in_ok-other.ensures) (did_expect c.in_ok-end.ensures))))))) c.push.ensures)))

pub while_statement-returns-in_err-word : goal.while_statement-returns-in_err-word
while_statement-returns-in_err-word t c = goes_out c.from_residual.ensures.1 (fails_node (fails_begin c.in_err-word.ensures))

pub while_statement-returns-in_err-condition : goal.while_statement-returns-in_err-condition
while_statement-returns-in_err-condition t c = goes_out c.from_residual-in_err-condition.ensures.1 (fails_node (fails_within c.in_ok-word.ensures (fails_first (fails (c.in_err-condition.ensures _)))))

pub while_statement-returns-in_err-expect : goal.while_statement-returns-in_err-expect
while_statement-returns-in_err-expect t c = goes_out c.from_residual-in_err-expect.ensures.1 (fails_node (fails_within c.in_ok-word.ensures (fails_then (did (c.in_ok-condition.ensures _)) (fails_first (fails_expect c.in_err-expect.ensures)))))

pub while_statement-returns-in_err-body : goal.while_statement-returns-in_err-body
while_statement-returns-in_err-body t c = goes_out c.from_residual-in_err-body.ensures.1 (fails_node (fails_within c.in_ok-word.ensures (fails_then (did (c.in_ok-condition.ensures _)) (fails_then (did_expect c.in_ok-expect.ensures) (fails_first (fails c.in_err-body.ensures))))))

pub while_statement-returns-in_err-end : goal.while_statement-returns-in_err-end
while_statement-returns-in_err-end t c = goes_out c.from_residual-in_err-end.ensures.1 (fails_node (fails_within c.in_ok-word.ensures (fails_then (did (c.in_ok-condition.ensures _)) (fails_then (did_expect c.in_ok-expect.ensures) (fails_then (did c.in_ok-body.ensures) (fails_expect c.in_err-end.ensures))))))

pub while_statement-stats-requires : goal.while_statement-stats-requires
while_statement-stats-requires t c =
    let h₁ = on_falls c.in_ok-word.ensures.1 c.in_ok-word.ensures.0 in
    let h₂ = did_keeps (did (c.in_ok-condition.ensures 0)) in
    let h₃ = did_keeps (did_expect {d = 0} {e = 0} c.in_ok-expect.ensures) in
    (omega arith, tt)

pub while_statement-returns : goal.while_statement-returns
while_statement-returns t c =
    goes_ok c.push.ensures.is (did_node (did_map
    (λ v g x.
    let y = x.one in
    let a = y.two in
    let b = a.two in
    let u = b.two in
    lays_passed y.one.passed (binary_lays a.one b.one.passed (lays_close {n = 1} u.one u.two.passed 0 (omega arith)) x.two
    (entry_same c.placed.ensures refl (place_is y.one) (place_is u.two) (rooted (c.in_ok-condition.ensures 0)) (rooted c.in_ok-body.ensures ∙ ap (λ m. m - 1) (sym u.two.passed.used))) 0 (omega arith)))
    (did_push (did_within c.in_ok-word.ensures (did_seq (did (c.in_ok-condition.ensures _)) (did_seq (did_expect c.in_ok-expect.ensures) (did_seq (did c.in_ok-body.ensures) (did_expect c.in_ok-end.ensures))))) c.push.ensures)))

pub for_statement-returns-in_err-word : goal.for_statement-returns-in_err-word
for_statement-returns-in_err-word t c = goes_out c.from_residual.ensures.1 (fails_node (fails_begin c.in_err-word.ensures))

pub for_statement-returns-in_err-head : goal.for_statement-returns-in_err-head
for_statement-returns-in_err-head t c = goes_out c.from_residual-in_err-head.ensures.1 (fails_node (fails_within c.in_ok-word.ensures (fails_first (fails (c.in_err-head.ensures _)))))

pub for_statement-returns-in_err-expect : goal.for_statement-returns-in_err-expect
for_statement-returns-in_err-expect t c = goes_out c.from_residual-in_err-expect.ensures.1 (fails_node (fails_within c.in_ok-word.ensures (fails_then (did (c.in_ok-head.ensures _)) (fails_first (fails_expect c.in_err-expect.ensures)))))

pub for_statement-returns-in_err-body : goal.for_statement-returns-in_err-body
for_statement-returns-in_err-body t c = goes_out c.from_residual-in_err-body.ensures.1 (fails_node (fails_within c.in_ok-word.ensures (fails_then (did (c.in_ok-head.ensures _)) (fails_then (did_expect c.in_ok-expect.ensures) (fails_first (fails c.in_err-body.ensures))))))

pub for_statement-returns-in_err-end : goal.for_statement-returns-in_err-end
for_statement-returns-in_err-end t c = goes_out c.from_residual-in_err-end.ensures.1 (fails_node (fails_within c.in_ok-word.ensures (fails_then (did (c.in_ok-head.ensures _)) (fails_then (did_expect c.in_ok-expect.ensures) (fails_then (did c.in_ok-body.ensures) (fails_expect c.in_err-end.ensures))))))

pub for_statement-stats-requires : goal.for_statement-stats-requires
for_statement-stats-requires t c =
    let h₁ = on_falls c.in_ok-word.ensures.1 c.in_ok-word.ensures.0 in
    let h₂ = did_keeps (did (c.in_ok-head.ensures 0)) in
    let h₃ = did_keeps (did_expect {d = 0} {e = 0} c.in_ok-expect.ensures) in
    (omega arith, tt)

pub for_statement-returns : goal.for_statement-returns
for_statement-returns t c =
    goes_ok c.push.ensures.is (did_node (did_map
    (λ v g x.
    let y = x.one in
    let a = y.two in
    let b = a.two in
    let u = b.two in
    lays_passed y.one.passed (binary_lays a.one b.one.passed (lays_close {n = 1} u.one u.two.passed 0 (omega arith)) x.two
    (entry_same c.placed.ensures refl (place_is y.one) (place_is u.two) (rooted (c.in_ok-head.ensures 0)) (rooted c.in_ok-body.ensures ∙ ap (λ m. m - 1) (sym u.two.passed.used))) 0 (omega arith)))
    (did_push (did_within c.in_ok-word.ensures (did_seq (did (c.in_ok-head.ensures _)) (did_seq (did_expect c.in_ok-expect.ensures) (did_seq (did c.in_ok-body.ensures) (did_expect c.in_ok-end.ensures))))) c.push.ensures)))

pub repeat_statement-returns-in_err-word : goal.repeat_statement-returns-in_err-word
repeat_statement-returns-in_err-word t c = goes_out c.from_residual.ensures.1 (fails_node (fails_begin c.in_err-word.ensures))

pub repeat_statement-returns-in_err-body : goal.repeat_statement-returns-in_err-body
repeat_statement-returns-in_err-body t c = goes_out c.from_residual-in_err-body.ensures.1 (fails_node (fails_within c.in_ok-word.ensures (fails_first (fails c.in_err-body.ensures))))

pub repeat_statement-returns-in_err-expect : goal.repeat_statement-returns-in_err-expect
repeat_statement-returns-in_err-expect t c = goes_out c.from_residual-in_err-expect.ensures.1 (fails_node (fails_within c.in_ok-word.ensures (fails_then (did c.in_ok-body.ensures) (fails_first (fails_expect c.in_err-expect.ensures)))))

pub repeat_statement-returns-in_err-condition : goal.repeat_statement-returns-in_err-condition
repeat_statement-returns-in_err-condition t c = goes_out c.from_residual-in_err-condition.ensures.1 (fails_node (fails_within c.in_ok-word.ensures (fails_then (did c.in_ok-body.ensures) (fails_then (did_expect c.in_ok-expect.ensures) (fails (c.in_err-condition.ensures _))))))

pub repeat_statement-stats-requires : goal.repeat_statement-stats-requires
repeat_statement-stats-requires t c =
    let h₁ = on_falls c.in_ok-word.ensures.1 c.in_ok-word.ensures.0 in
    (omega arith, tt)

pub repeat_statement-returns : goal.repeat_statement-returns
repeat_statement-returns t c =
    goes_ok c.push.ensures.is (did_node (did_map
    (λ v g x.
    let y = x.one in
    let a = y.two in
    let b = a.two in
    lays_passed y.one.passed (binary_lays a.one b.one.passed b.two x.two (entry_same c.placed.ensures refl (place_is y.one) refl (rooted c.in_ok-body.ensures) (rooted (c.in_ok-condition.ensures 0))) 0 (omega arith)))
    (did_push (did_within c.in_ok-word.ensures (did_seq (did c.in_ok-body.ensures) (did_seq (did_expect c.in_ok-expect.ensures) (did (c.in_ok-condition.ensures _))))) c.push.ensures)))

pub loop_statement-returns-in_err-word : goal.loop_statement-returns-in_err-word
loop_statement-returns-in_err-word t c = goes_out c.from_residual.ensures.1 (fails_node (fails_begin c.in_err-word.ensures))

pub loop_statement-returns-in_err-body : goal.loop_statement-returns-in_err-body
loop_statement-returns-in_err-body t c = goes_out c.from_residual-in_err-body.ensures.1 (fails_node (fails_within c.in_ok-word.ensures (fails_first (fails c.in_err-body.ensures))))

pub loop_statement-returns-in_err-end : goal.loop_statement-returns-in_err-end
loop_statement-returns-in_err-end t c = goes_out c.from_residual-in_err-end.ensures.1 (fails_node (fails_within c.in_ok-word.ensures (fails_then (did c.in_ok-body.ensures) (fails_expect c.in_err-end.ensures))))

pub loop_statement-stats-requires : goal.loop_statement-stats-requires
loop_statement-stats-requires t c =
    let h₁ = on_falls c.in_ok-word.ensures.1 c.in_ok-word.ensures.0 in
    (omega arith, tt)

pub loop_statement-returns : goal.loop_statement-returns
loop_statement-returns t c =
    goes_ok c.push.ensures.is (did_node (did_map
    (λ v g x.
    let y = x.one in
    let a = y.two in
    unary_lays {m = 1} {n = 1} y.one.passed a.one a.two.passed x.two (entry_same c.placed.ensures refl (place_is y.one) (place_is a.two) (rooted c.in_ok-body.ensures) refl) 0 (omega arith))
    (did_push (did_within c.in_ok-word.ensures (did_seq (did c.in_ok-body.ensures) (did_expect c.in_ok-end.ensures))) c.push.ensures)))
