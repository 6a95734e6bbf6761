use Rattle.std.proofs.Common.{◌≡◌, List, [], ◌∷◌, length, refl, arith}
use Rattle.player.proofs.serve.answer_lines.Goals as goal

none : {A : Type 0} (xs : List A) → length xs ≡ 0 → xs ≡ []
none [] h = refl
none (x ∷ xs) h = absurd (omega arith)

pub returns : goal.returns
returns g c =
    let s = c.loop-line.answer in
    (s, c.loop-line.invariant.1 s (rw (none c.loop-line.rest.now c.in_default.ensures.cases) refl))
