-- Lines of a script that are answered one after another.
use Rattle.std.specs.Prelude.{◌≡◌, Some, None, Option}

-- a line that asks something is answered by a call, which leads from one state to another; no other line calls
abbrev pub Answered : {F L A : Type 0} → (F → L → A → F → Type 0) → F → Option L → F → Type 0
Answered step p None q = q ≡ p
Answered {A = A} step p (Some l) q = (a : A) × step p l a q
