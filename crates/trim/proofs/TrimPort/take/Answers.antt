use Rattle.std.proofs.Common.{◌≡◌, get_or, ℤ, pos, Some, None, Ok, Option, refl, ap, ◌∙◌, rules}
use Rattle.std.specs.Option.{MatchOption, IsSomeAnd}
use Rattle.ports.specs.Stored.{stored}
use Rattle.trim.specs.Trims.{less, trimmed}
use Rattle.trim.proofs.Trimming.{lowered, trimmed_took, trimmed_take}
use Rattle.trim.proofs.TrimPort.take.Goals as goal

mapped : (o : ℤ) (got r : Option ℤ) (P : ℤ → ℤ → Type 0) → MatchOption got (r ≡ None) (λ x. IsSomeAnd r (P x)) → ((x y : ℤ) → got ≡ Some x → P x y → y ≡ less o x) → Ok r ≡ lowered o (Ok got)
mapped o None r P e h = ap Ok e
mapped o (Some x) None P e h = absurd e
mapped o (Some x) (Some y) P e h = ap (λ z. Ok (Some z)) (h x y refl e)

pub returns-clause-answer : goal.returns-clause-answer
unfolding less stored
returns-clause-answer g c =
    let os = c.args.self.now.offsets.each in
    let k = c.args.c in
    let o = get_or os k (pos 0) in
    mapped (stored o) c.in_ok-got.got c.map.result _ c.map.ensures.cases (λ x y is p. search rules) ∙ ap (lowered (stored o)) c.in_ok-got.ensures.answer ∙ trimmed_take os (g.P.Port.meaning c.args.self.now.lower) k

pub returns-clause-after : goal.returns-clause-after
returns-clause-after g c =
    let os = c.args.self.now.offsets.each in
    ap (trimmed os) c.take.ensures.after ∙ trimmed_took os (g.P.Port.meaning c.args.self.now.lower) c.args.c
