use Rattle.std.proofs.Common.{[], ◌∷◌, refl, ap, inl, rules}
use Rattle.grammar.specs.Codes.{code}
use Rattle.grammar.specs.Language.{Elem}
use Rattle.syntax.specs.Actions.{act}
use Rattle.syntax.specs.Steps.{On}
use Rattle.syntax.proofs.Joins.{on_by, off_by, goes_as, goes_ok, goes_out, did_map, did_node, did_left, did_right, did_inl, did_inr, did_none, did_seq, did_on, did_expect, did_push, fails_node, fails_left, fails_right, fails_then, fails_expect, place_is, number_is, keeps_both}
use Rattle.syntax.proofs.Lays.{lays_as, lays_passed, leaf_lays, passed_both, entry_same}
use Rattle.syntax.proofs.step.Descent.elem.Goals as goal

pub returns-in_err-number-in-Minus : goal.returns-in_err-number-in-Minus
returns-in_err-number-in-Minus c d e =
    let k = c.in-Minus.ensures.coded in
    let o : On c.args.self.now (44 ∷ []) = on_by 44 k tt tt in
    goes_out c.from_residual.ensures.1 (fails_node (fails_left (on_by 44 k tt tt) (fails_then (did_inl o (did_on c.pass-sign.ensures o)) (fails_expect c.in_err-number-in-Minus.ensures))))

pub returns-in_ok-number-in-Minus : goal.returns-in_ok-number-in-Minus
returns-in_ok-number-in-Minus c d e =
    let k = c.in-Minus.ensures.coded in
    let o : On c.args.self.now (44 ∷ []) = on_by 44 k tt tt in
    let s = c.args.self.now.source.now in
    let rs = c.args.self.now.symbols.now in
    goes_ok c.push.ensures.is (did_node (did_left (on_by 44 k tt tt) (did_map
    (λ v g x.
    let a = x.one.one in
    lays_as (ap (λ y. act s rs Elem (inl (y, v.1))) a.is)
    (leaf_lays {n = 1} _ (passed_both a.wrote.passed x.one.two.passed)
    (entry_same c.placed.ensures refl (place_is a.wrote) (number_is (keeps_both c.pass-sign.ensures.keeps c.in_ok-number-in-Minus.ensures.1.keeps) x.one.two c.number_at-value.ensures) refl refl) x.two))
    (did_push (did_seq (did_inl o (did_on c.pass-sign.ensures o)) (did_expect c.in_ok-number-in-Minus.ensures)) c.push.ensures))))

pub returns-in-Number : goal.returns-in-Number
returns-in-Number c d e =
    let k = c.in-Number.ensures.coded in
    let s = c.args.self.now.source.now in
    let rs = c.args.self.now.symbols.now in
    goes_as
    (λ a. did_node (did_left (on_by 42 k tt tt) (did_map (λ v g x. lays_as (ap (λ y. act s rs Elem (inl (y, v.1))) x.one.is) (lays_passed x.one.wrote x.two)) (did_seq (did_inr (off_by 42 k tt tt) (did_none refl)) a))))
    (λ z a. fails_node (fails_left (on_by 42 k tt tt) (fails_then (did_inr (off_by 42 k tt tt) (did_none refl)) a))) (c.numeral.ensures d e)

pub returns-in_default : goal.returns-in_default
returns-in_default c d e =
    let k = c.next.ensures.coded in
    goes_as (λ a. did_node (did_right (off_by (code c.next.result) k tt (search rules)) a)) (λ z a. fails_node (fails_right (off_by (code c.next.result) k tt (search rules)) a)) (c.name.ensures d e)
