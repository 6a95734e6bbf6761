-- What stands at a place, by its first byte.
use Rattle.std.proofs.Common.{◌≡◌, ℕ, ◌+◌, ◌-◌, ◌≤◌, List, [], length, take, drop, Some, None, Ok, Err, Option, Result, arith}
use Rattle.std.proofs.lemmas.List.{at_drop_all, length-take, length-drop}
use Rattle.vocabulary.specs.declared.tag.Tag.TheVariants.{EndOfSource}
use Rattle.lexer.specs.Scan.{front_of, placed, symbol_at}

pub some_same : {X : Type 0} {a b : X} → Some a ≡ Some b → a ≡ b
some_same e = cc

pub none_some : {X : Type 0} (b : X) → ◌≡◌ {A = Option X} None (Some b) → ⊥
none_some b e = let z : ◌≡◌ {A = ℕ} 0 1 = cc in omega arith

pub ok_same : {X Y : Type 0} {a b : X} → ◌≡◌ {A = Result X Y} (Ok a) (Ok b) → a ≡ b
ok_same e = cc

pub err_same : {X Y : Type 0} {a b : Y} → ◌≡◌ {A = Result X Y} (Err a) (Err b) → a ≡ b
err_same e = cc

pub err_ok : {X Y : Type 0} {y : Y} (b : X) → ◌≡◌ {A = Result X Y} (Err y) (Ok b) → ⊥
err_ok b e = let z : ◌≡◌ {A = ℕ} 0 1 = cc in omega arith

-- a stretch of a source is as long as its places say
pub stretch_length : (s : List ℕ) (at to : ℕ) → at ≤ to → to ≤ length s → to ≡ at + length (take (to - at) (drop at s))
stretch_length s at to h k = simp (length-take, length-drop) (omega arith)

pub at_end : (s : List ℕ) (at : ℕ) → length s ≤ at → symbol_at s at ≡ Ok (record { tag = EndOfSource; place = at; text = [] })
at_end s at h = at_drop_all (λ xs. placed at xs (front_of xs)) s at h
