-- Comments that are never closed.
use Rattle.std.proofs.Common.{◌≡◌, ℕ, ◌+◌, ◌<◌, true, ◌⊎◌, List, [], ◌∷◌, ◌++◌, length, take, drop, Ok, Err, Result, sym, refl, ap, ◌∙◌, inl, inr, arith}
use Rattle.std.proofs.lemmas.List.{take-append-drop, take_at}
use Rattle.std.proofs.lemmas.Bool.{false≢true}
use Rattle.faults.specs.declared.kind.FaultKind.TheVariants.{OpenComment}
use Rattle.faults.specs.declared.kind.Fault.{Fault}
use Rattle.lexer.specs.Scan.{skipped, fault}
use Rattle.lexer.specs.Reading.{opening, Inside, Gap}
use Rattle.lexer.proofs.Fronts.{err_same, err_ok}
use Rattle.lexer.proofs.Walks.{Walk, walk, both_eqb, skip_halt, skip_enter, skip_pass, skip_short, skip_deeper, skip_leave, skip_stay}
use Rattle.lexer.proofs.Walks.Walk.{halt, enter, pass, short, deeper, leave, stay}
use Rattle.lexer.proofs.Gaps.{Skipped, skipped_none, skipped_pass, skipped_enter, skipped_deeper, skipped_leave, skipped_stay, skipped_sound, inside_skipped, gap_onward}

-- bytes that begin with a comment of which the definition finds no end
abbrev pub Opens : Fault → List ℕ → Type 0
Opens e xs = (e.kind ≡ OpenComment) × (opening xs ≡ true) × (skipped 1 e.place (e.place + 2) (drop 2 xs) ≡ Err e)

opens_here : (at : ℕ) (xs : List ℕ) → skipped 1 at (at + 2) xs ≡ Err (fault OpenComment at) → Skipped (Opens (fault OpenComment at)) 0 at (40 ∷ (42 ∷ xs)) at
opens_here at xs k = skipped_none at (40 ∷ (42 ∷ xs)) (refl, refl, k)

-- the definition refuses the comment that is open already, or a later one
pub skipped_fault : {depth : ℕ} {xs : List ℕ} → Walk depth xs → (opened at : ℕ) (e : Fault) → skipped depth opened at xs ≡ Err e → ((0 < depth) × (e ≡ fault OpenComment opened)) ⊎ Skipped (Opens e) depth at xs e.place
skipped_fault (halt {xs} o s) opened at e q = absurd (err_ok at (sym q ∙ skip_halt opened at xs o s))
skipped_fault (enter {xs} w) opened at e q =
    let k = sym (skip_enter opened at xs) ∙ q in
    elim (skipped_fault w at (at + 2) e k) [
      | inl f ↦ inr (rw f.1 (opens_here at xs (k ∙ ap Err f.1)))
      | inr r ↦ inr (skipped_enter at xs e.place r)
    ]
skipped_fault (pass {c} {xs} s w) opened at e q =
    elim (skipped_fault w opened (at + 1) e (sym (skip_pass opened at c xs s) ∙ q)) [
      | inl f ↦ absurd (omega (arith, f.0))
      | inr r ↦ inr (skipped_pass at c xs e.place s r)
    ]
skipped_fault (short {depth}) opened at e q = inl (omega arith, err_same (sym q ∙ skip_short depth opened at))
skipped_fault (deeper {depth} {xs} w) opened at e q =
    elim (skipped_fault w opened (at + 2) e (sym (skip_deeper depth opened at xs) ∙ q)) [
      | inl f ↦ inl (omega arith, f.1)
      | inr r ↦ inr (skipped_deeper depth at xs e.place r)
    ]
skipped_fault (leave {depth} {xs} w) opened at e q =
    elim (skipped_fault w opened (at + 2) e (sym (skip_leave depth opened at xs) ∙ q)) [
      | inl f ↦ inl (omega arith, f.1)
      | inr r ↦ inr (skipped_leave depth at xs e.place r)
    ]
skipped_fault (stay {depth} {c} {xs} o k w) opened at e q =
    elim (skipped_fault w opened (at + 1) e (sym (skip_stay depth opened at c xs o k) ∙ q)) [
      | inl f ↦ inl (omega arith, f.1)
      | inr r ↦ inr (skipped_stay depth at c xs e.place o k r)
    ]

-- such a comment is never closed
pub opens_unclosed : (e : Fault) (xs : List ℕ) → Opens e xs → (n : ℕ) → Inside 1 (take n (drop 2 xs)) → ⊥
opens_unclosed e xs o n i =
    let ys : List ℕ = drop 2 xs in
    let p : ℕ = e.place in
    let past = ap (skipped 1 p (p + 2)) (sym (take-append-drop n ys)) ∙ inside_skipped i p (p + 2) (drop n ys) in
    elim (skipped_fault (walk (drop n ys) 0) p (p + 2 + length (take n ys)) e (sym past ∙ o.2)) [
      | inl f ↦ omega (arith, f.0)
      | inr r ↦ omega (arith, r.counts)
    ]

-- and of a comment that is never closed the definition finds no end
closed_part : {Rest : List ℕ → Type 0} (at : ℕ) (xs : List ℕ) (to : ℕ) → Skipped Rest 1 at xs to → (n : ℕ) × Inside 1 (take n xs)
closed_part at xs to r =
    let n : ℕ = length r.inner in
    let t : take n xs ≡ r.inner = ap (take n) r.parts ∙ take_at r.inner (r.gap ++ r.rest) n refl in
    (n, rw t r.comments)

unclosed_by : (at : ℕ) (xs : List ℕ) (r : Result ℕ Fault) → skipped 1 at (at + 2) xs ≡ r → ((n : ℕ) → Inside 1 (take n xs) → ⊥) → r ≡ Err (fault OpenComment at)
unclosed_by at xs (Ok to) q never = let c = closed_part (at + 2) xs to (skipped_sound (walk xs 1) at (at + 2) to q) in absurd (never c.0 c.1)
unclosed_by at xs (Err e) q never =
    elim (skipped_fault (walk xs 1) at (at + 2) e q) [
      | inl f ↦ ap Err f.1
      | inr r ↦ let c = closed_part (at + 2) xs e.place r in absurd (never c.0 c.1)
    ]

unclosed_opening : (opened at : ℕ) (xs : List ℕ) → opening xs ≡ true → ((n : ℕ) → Inside 1 (take n (drop 2 xs)) → ⊥) → skipped 0 opened at xs ≡ Err (fault OpenComment at)
unclosed_opening opened at [] o never = absurd (false≢true o)
unclosed_opening opened at (a ∷ []) o never = absurd (false≢true o)
unclosed_opening opened at (a ∷ (b ∷ cs)) o never =
    let z = both_eqb a b 40 42 o in
    rw (z.0, z.1) (skip_enter opened at cs ∙ unclosed_by at cs (skipped 1 at (at + 2) cs) refl never)

pub gap_unclosed : {g : List ℕ} → Gap g → (opened at : ℕ) (rest : List ℕ) → opening rest ≡ true → ((n : ℕ) → Inside 1 (take n (drop 2 rest)) → ⊥) → skipped 0 opened at (g ++ rest) ≡ Err (fault OpenComment (at + length g))
gap_unclosed {g} b opened at rest o never =
    let n = gap_onward b opened at rest in
    n.1 ∙ unclosed_opening n.0 (at + length g) rest o never
