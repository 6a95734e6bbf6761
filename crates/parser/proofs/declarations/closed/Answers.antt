use Rattle.std.proofs.Common.{refl, arith}
use Rattle.syntax.proofs.Joins.{did, did_expect, did_map, did_push, did_seq, fails, fails_expect, fails_first, fails_then, goes_ok, goes_out, keeps_both, length_is, place_is, rooted}
use Rattle.syntax.proofs.Lays.{entry_same, passed_none, unary_lays}
use Rattle.parser.proofs.declarations.closed.Goals as goal

pub returns-in_err-inner : goal.returns-in_err-inner
returns-in_err-inner c = goes_out c.from_residual.ensures.1 (fails_first (fails c.in_err-inner.ensures))

pub returns-in_err-name : goal.returns-in_err-name
returns-in_err-name c = goes_out c.from_residual-in_err-name.ensures.1 (fails_then (did c.in_ok-inner.ensures) (fails_expect c.in_err-name.ensures))

pub returns : goal.returns
returns c =
    let a = c.in_ok-inner.ensures in
    let b = c.in_ok-name.ensures in
    goes_ok c.push.ensures.is (did_map
    (λ v g x.
    let y = x.one in
    unary_lays {m = 0} {n = 1} passed_none y.one y.two.passed x.two
    (entry_same c.placed.ensures refl (place_is y.two) (length_is (keeps_both (did a).keeps b.1.keeps) y.two c.word_length-length.ensures) (rooted a) refl) 0 (omega arith))
    (did_push (did_seq (did c.in_ok-inner.ensures) (did_expect c.in_ok-name.ensures)) c.push.ensures))
