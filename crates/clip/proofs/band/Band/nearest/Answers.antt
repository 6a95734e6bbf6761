use Rattle.std.proofs.Common.{◌≡◌, ℤ, FitsSigned, arith, w32, to_z, of_z, sym, subst, rules}
use Rattle.std.proofs.lemmas.Int.{ints}
use Rattle.integer.specs.Ends.{clamped}
use Rattle.ports.specs.Law.{Integer}
use Rattle.ports.specs.Stored.{stored}
use Rattle.ports.proofs.Integers.{clamped_integer, narrowed, stored_same}
use Rattle.ports.proofs.Width.{width, Fits}
use Rattle.clip.specs.Clips.{nearest}
use Rattle.clip.proofs.band.Band.nearest.Goals as goal

-- a sample is an INTEGER
fits_integer : (z : ℤ) → Fits z → Integer z
fits_integer z fits = (grind (arith, ints), grind (arith, ints))

-- and the same number where it is widened
widened : (z : ℤ) → Fits z → to_z w32 (of_z w32 (to_z width (of_z width z))) ≡ z
widened z fits = omega (arith, ints)

-- and one that fits where it is narrowed
fits_narrowed : (z : ℤ) → Integer z → FitsSigned width (to_z w32 (of_z w32 z))
fits_narrowed z i = grind (arith, ints)

-- a sample that is held between two samples is an INTEGER
held_integer : (low high v r : ℤ) → Fits low → Fits high → Fits v →
    r ≡ clamped (to_z w32 (of_z w32 (to_z width (of_z width low)))) (to_z w32 (of_z w32 (to_z width (of_z width high)))) (to_z w32 (of_z w32 (to_z width (of_z width v)))) → Integer r
held_integer low high v r fl fh fv is =
    let el = widened low fl in
    let eh = widened high fh in
    let ev = widened v fv in
    let e : r ≡ clamped low high v = cc in
    subst Integer (sym e) (clamped_integer low high v (fits_integer low fl) (fits_integer high fh) (fits_integer v fv))

pub overflow_cast-result : goal.overflow_cast-result
overflow_cast-result c =
    let fl : Fits c.self.inside.low = search rules in
    let fh : Fits c.self.inside.high = search rules in
    fits_narrowed c.clamp.result (held_integer _ _ c.args.v _ fl fh c.ranges.v c.clamp.ensures.answer)

pub returns : goal.returns
unfolding nearest
returns c =
    let low = c.self.inside.low in
    let high = c.self.inside.high in
    let v = c.args.v in
    let fl : Fits low = search rules in
    let fh : Fits high = search rules in
    let el = widened low fl in
    let eh = widened high fh in
    let ev = widened v c.ranges.v in
    let sl = stored_same low fl in
    let sh = stored_same high fh in
    let value = c.clamp.ensures.answer in
    let is : c.clamp.result ≡ clamped low high v = cc in
    let er = narrowed c.clamp.result (held_integer low high v _ fl fh c.ranges.v value) in
    let answer : to_z width (of_z width (to_z w32 (of_z w32 c.clamp.result))) ≡ clamped (stored low) (stored high) v = cc in
    rw (← c.self.view_is) answer
