-- How a refusal, and what a look sees, are shown.
use Rattle.std.specs.Prelude.{ℕ, List, ◌++◌, codes, decimal}
use Rattle.std.specs.Fmt.{signed_decimal}
use Rattle.ports.specs.declared.refusal.Refusal.{Refusal}
use Rattle.ports.specs.declared.seen.Seen.{Seen}
use Rattle.ports.specs.Refusals.{number_of}

-- a refusal, by its number
abbrev pub shown_refusal : Refusal → List ℕ
shown_refusal r = codes "refused " ++ decimal (number_of r)

-- how many samples wait, and the value last set
abbrev pub shown_seen : Seen → List ℕ
shown_seen s = decimal s.waiting ++ codes " " ++ signed_decimal s.last
