use Rattle.std.proofs.Common.{◌≡◌, ◌<◌, length, get_or, sym, ap, ◌∙◌, to_z, of_z, rules}
use Rattle.std.proofs.lemmas.List.{get_or_read}
use Rattle.integer.specs.Ends.{Ends}
use Rattle.ports.specs.Calls.{set_after}
use Rattle.ports.specs.Stored.{stored}
use Rattle.ports.proofs.Width.{width, Fits, same}
use Rattle.clip.specs.Clips.{nearest, no_band, clipped}
use Rattle.clip.proofs.Clipping.{clipped_set}
use Rattle.clip.proofs.ClipPort.set.Goals as goal

pub returns-clause-after : goal.returns-clause-after
returns-clause-after g c =
    let bands = c.args.self.now.bands.each in
    let m = g.P.Port.meaning c.args.self.now.lower in
    let k = c.args.c in
    let v = c.args.v in
    let within : c.in_ok-band.field-0 < length bands = search rules in
    let read = rw c.in_ok-band.ensures.0 at (get_or_read bands _ _ within c.index-self-branch.is no_band) in
    let fits : Fits c.nearest.result = search rules in
    let is : to_z width (of_z width c.nearest.result) ≡ nearest (stored (get_or bands k no_band).low) (stored (get_or bands k no_band).high) v =
    same c.nearest.result fits ∙ c.nearest.ensures
    ∙ ap (λ (b : Ends). nearest (stored b.low) (stored b.high) (to_z width (of_z width v))) (sym c.index-self-branch.is ∙ read)
    ∙ ap (nearest (stored (get_or bands k no_band).low) (stored (get_or bands k no_band).high)) (same v c.ranges.v)
    in
    ap (clipped bands) (c.set.ensures.after ∙ ap (set_after m k) is) ∙ clipped_set bands m k v
