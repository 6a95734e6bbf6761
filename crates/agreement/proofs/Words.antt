-- Words with types: how many there are.
use Rattle.std.proofs.Common.{◌≡◌, ℕ, zero, suc, ◌<◌, List, [], ◌∷◌, length, ℤ, refl, ap, arith}
use mathlib.Core.Option.{some}
use lib.ListN.{get_elem?}
use Rattle.semantics.specs.Program.{BasicType}
use Rattle.semantics.specs.Laws.{Valued}

pub valued_length : (τs : List BasicType) (vs : List ℤ) → Valued τs vs → length vs ≡ length τs
valued_length [] [] h = refl
valued_length [] (v ∷ vs) h = absurd h
valued_length (τ ∷ τs) [] h = absurd h
valued_length (τ ∷ τs) (v ∷ vs) h = ap suc (valued_length τs vs h.1)

-- a declared word is there
pub word_there : (τs : List BasicType) (vs : List ℤ) (i : ℕ) (τ : BasicType) → Valued τs vs → get_elem? τs i ≡ some τ → i < length vs
word_there [] vs i τ h e = absurd (let z : ◌≡◌ {A = ℕ} 0 1 = cc in omega arith)
word_there (υ ∷ τs) [] i τ h e = absurd h
word_there (υ ∷ τs) (v ∷ vs) zero τ h e = omega arith
word_there (υ ∷ τs) (v ∷ vs) (suc i) τ h e = let r = word_there τs vs i τ h.1 e in omega arith
