-- Functions of words that are handed over.
use Rattle.std.specs.Prelude.{◌≡◌, ℤ, FitsSigned}
use Rattle.std.specs.Int.{w32}

-- each call at a word answers as g does
abbrev pub OfOne : {R : Type 0} → (ℤ → R → Type 0) → (ℤ → R) → Type 0
OfOne post g = (x : ℤ) (r : _) → FitsSigned w32 x → post x r → r ≡ g x

-- each call at two words answers as g does
abbrev pub OfTwo : {R : Type 0} → (ℤ → ℤ → R → Type 0) → (ℤ → ℤ → R) → Type 0
OfTwo post g = (x y : ℤ) (r : _) → FitsSigned w32 x → FitsSigned w32 y → post x y r → r ≡ g x y
