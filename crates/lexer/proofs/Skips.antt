-- One turn of the search for the next symbol.
use Rattle.std.proofs.Common.{◌≡◌, ℕ, ◌+◌, ◌-◌, Bool, true, false, cond, ◌&&◌, ◌||◌, eqb, ltb, List, [], ◌∷◌, length, take, drop, min, Ok, Err, Result, sym, refl, ap, ◌∙◌, arith, ltb-false}
use Rattle.std.proofs.lemmas.List.{take_rest, drop-drop}
use Rattle.faults.specs.declared.kind.FaultKind.TheVariants.{OpenComment}
use Rattle.faults.specs.declared.kind.Fault.{Fault}
use Rattle.lexer.specs.declared.symbol.Lead.{Lead}
use Rattle.lexer.specs.declared.symbol.Lead.TheVariants.{Done, Open, Nest, Close, Pass, Stop}
use Rattle.vocabulary.specs.Characters.{separator}
use Rattle.lexer.specs.Leads.{lead_of, opens, closes}
use Rattle.lexer.specs.Scan.{skipped, place_from, fault}

abbrev pub ended : ℕ → ℕ → ℕ → Result ℕ Fault
ended depth opened at = cond (eqb depth 0) (Ok at) (Err (fault OpenComment opened))

-- what is left to do after one turn
abbrev pub turned : Lead → ℕ → ℕ → ℕ → List ℕ → Result ℕ Fault
turned Done depth opened at xs = ended depth opened at
turned Open depth opened at xs = skipped 1 at (at + 2) (drop 2 xs)
turned Nest depth opened at xs = skipped (depth + 1) opened (at + 2) (drop 2 xs)
turned Close depth opened at xs = skipped (depth - 1) opened (at + 2) (drop 2 xs)
turned Pass depth opened at xs = skipped depth opened (at + 1) (drop 1 xs)
turned Stop depth opened at xs = Ok at

one_left : (i s : Bool) (depth opened at a : ℕ) → cond (i || s) (ended depth opened (at + 1)) (Ok at) ≡ turned (cond (i || s) Pass Stop) depth opened at (a ∷ [])
unfolding skipped
one_left true s depth opened at a = refl
one_left false true depth opened at a = refl
one_left false false depth opened at a = refl

two_left : (o i c s : Bool) (depth opened at a b : ℕ) (cs : List ℕ) → ltb 0 depth ≡ i
    → cond o (skipped (depth + 1) (cond i opened at) (at + 2) cs) (cond (i && c) (skipped (depth - 1) opened (at + 2) cs) (cond (i || s) (skipped depth opened (at + 1) (b ∷ cs)) (Ok at)))
    ≡ turned (cond o (cond i Nest Open) (cond (i && c) Close (cond (i || s) Pass Stop))) depth opened at (a ∷ (b ∷ cs))
two_left true true c s depth opened at a b cs e = refl
two_left true false c s depth opened at a b cs e =
    let z : depth + 1 ≡ 1 = omega (arith, ltb-false 0 depth e) in ap (λ d. skipped d at (at + 2) cs) z
two_left false true true s depth opened at a b cs e = refl
two_left false true false s depth opened at a b cs e = refl
two_left false false c true depth opened at a b cs e = refl
two_left false false c false depth opened at a b cs e = refl

pub skipped_step : (depth opened at : ℕ) (xs : List ℕ) → skipped depth opened at xs ≡ turned (lead_of (ltb 0 depth) xs) depth opened at xs
unfolding skipped
skipped_step depth opened at [] = refl
skipped_step depth opened at (a ∷ []) = one_left (ltb 0 depth) (separator a) depth opened at a
skipped_step depth opened at (a ∷ (b ∷ cs)) = two_left (opens a b) (ltb 0 depth) (closes a b) (separator a) depth opened at a b cs refl

-- the same at the place `at` of a source
abbrev pub at_place : Lead → ℕ → ℕ → ℕ → List ℕ → Result ℕ Fault
at_place Done depth opened at s = ended depth opened at
at_place Open depth opened at s = skipped 1 at (at + 2) (drop (at + 2) s)
at_place Nest depth opened at s = skipped (depth + 1) opened (at + 2) (drop (at + 2) s)
at_place Close depth opened at s = skipped (depth - 1) opened (at + 2) (drop (at + 2) s)
at_place Pass depth opened at s = skipped depth opened (at + 1) (drop (at + 1) s)
at_place Stop depth opened at s = Ok at

there : (l : Lead) (depth opened at : ℕ) (s : List ℕ) → turned l depth opened at (drop at s) ≡ at_place l depth opened at s
there Done depth opened at s = refl
there Open depth opened at s = ap (skipped 1 at (at + 2)) (drop-drop 2 at s)
there Nest depth opened at s = ap (skipped (depth + 1) opened (at + 2)) (drop-drop 2 at s)
there Close depth opened at s = ap (skipped (depth - 1) opened (at + 2)) (drop-drop 2 at s)
there Pass depth opened at s = ap (skipped depth opened (at + 1)) (drop-drop 1 at s)
there Stop depth opened at s = refl

pub turn : (s : List ℕ) (at depth opened : ℕ) (l : Lead) → l ≡ lead_of (ltb 0 depth) (take (length s - at) (drop at s)) → skipped depth opened at (drop at s) ≡ at_place l depth opened at s
turn s at depth opened l e =
    let same : lead_of (ltb 0 depth) (drop at s) ≡ l = rw take_rest at (sym e) in
    skipped_step depth opened at (drop at s) ∙ ap (λ k. turned k depth opened at (drop at s)) same ∙ there l depth opened at s

-- the same where the search began at `start`
pub arrives : (s : List ℕ) (from start at depth opened : ℕ) (l : Lead) → start ≡ min from (length s) → skipped depth opened at (drop at s) ≡ skipped 0 0 start (drop start s) → l ≡ lead_of (ltb 0 depth) (take (length s - at) (drop at s)) → at_place l depth opened at s ≡ place_from s from
arrives s from start at depth opened l b e h =
    sym (turn s at depth opened l h) ∙ e ∙ ap (λ n. skipped 0 0 n (drop n s)) b
