use Rattle.std.proofs.Common.{◌≡◌, Some, None, Err, refl, ap, ◌∙◌, w32, SFits, arith, rules}
use Rattle.std.proofs.lemmas.Int.{to_z-of_z}
use Rattle.std.proofs.lemmas.Result.{err_from_is_err_and}
use Rattle.board.specs.declared.refusal.Refusal.{Refusal}
use Rattle.board.specs.declared.refusal.Refusal.TheVariants.{NoWord}
use Rattle.board.specs.Refusals.{number_of}
use Rattle.board.specs.Seen.{view, shown_word}
use Rattle.board.proofs.Showing.{peek_there, peek_absent}
use Rattle.board.proofs.machine.Board.peek.Goals as goal

only : (why : Refusal) → number_of why ≡ 53
only NoWord = refl

pub returns-in_err-z : goal.returns-in_err-z
returns-in_err-z g c =
    let p = err_from_is_err_and c.from_residual.result c.from_residual.ensures.1 in
    let none : c.word.result ≡ None = grind arith in
    rw p.1 (ap Err (only p.0) ∙ peek_absent (view g.P.Port.meaning c.args.self.now) c.args.w _ c.word.ensures none)

pub returns : goal.returns
returns g c =
    let z = c.in_ok-z.z in
    let some : c.word.result ≡ Some z = grind arith in
    let f : SFits w32 z = search rules in
    let r : SFits w32 c.shown_word.result = search rules in
    peek_there (view g.P.Port.meaning c.args.self.now) c.args.w _ c.word.ensures z _ some (to_z-of_z w32 c.shown_word.result r ∙ c.shown_word.ensures ∙ ap shown_word (to_z-of_z w32 z f))
