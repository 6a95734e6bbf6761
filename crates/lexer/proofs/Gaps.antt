-- What is skipped between two symbols is separators and closed comments.
use Rattle.std.proofs.Common.{◌≡◌, ℕ, zero, suc, ◌+◌, true, false, List, [], ◌∷◌, ◌++◌, length, Ok, sym, refl, ap, ◌∙◌, arith}
use Rattle.std.proofs.lemmas.List.{append_assoc, length-append}
use Rattle.vocabulary.specs.Characters.{separator}
use Rattle.lexer.specs.Scan.{skipped}
use Rattle.lexer.specs.Reading.{opening, closing, Inside, Gap}
use Rattle.lexer.specs.Reading.Inside.{closed, close, nest, byte}
use Rattle.lexer.specs.Reading.Gap.{none, blank, comment}
use Rattle.lexer.proofs.Fronts.{ok_same, err_ok}
use Rattle.lexer.proofs.Walks.{Halts, Walk, skip_halt, skip_enter, skip_pass, skip_short, skip_deeper, skip_leave, skip_stay}
use Rattle.lexer.proofs.Walks.Walk.{halt, enter, pass, short, deeper, leave, stay}

-- the bytes that are skipped from a place on: what is left of the open comments, then a gap; and what holds of the bytes behind
pub record Skipped (Rest : List ℕ → Type 0) (depth at : ℕ) (xs : List ℕ) (to : ℕ) : Type 0 where
  pub inner : List ℕ
  pub gap : List ℕ
  pub rest : List ℕ
  pub parts : xs ≡ inner ++ (gap ++ rest)
  pub counts : to ≡ at + (length inner + length gap)
  pub comments : Inside depth inner
  pub blanks : Gap gap
  pub behind : Rest rest

pub skipped_none : {Rest : List ℕ → Type 0} (at : ℕ) (xs : List ℕ) → Rest xs → Skipped Rest 0 at xs at
skipped_none at xs r =
    record { inner = []; gap = []; rest = xs; parts = refl; counts = omega arith; comments = closed; blanks = none; behind = r }

pub no_inner : {k : List ℕ} → Inside zero k → k ≡ []
no_inner closed = refl

pub skipped_pass : {Rest : List ℕ → Type 0} (at c : ℕ) (xs : List ℕ) (to : ℕ) → separator c ≡ true → Skipped Rest 0 (at + 1) xs to → Skipped Rest 0 at (c ∷ xs) to
skipped_pass at c xs to e r =
    let z = no_inner r.comments in
    record { inner = []; gap = c ∷ r.gap; rest = r.rest; parts = ap (λ l. c ∷ l) (rw z at r.parts); counts = omega (arith, ap length z); comments = closed; blanks = blank e r.blanks; behind = r.behind }

pub skipped_enter : {Rest : List ℕ → Type 0} (at : ℕ) (xs : List ℕ) (to : ℕ) → Skipped Rest 1 (at + 2) xs to → Skipped Rest 0 at (40 ∷ (42 ∷ xs)) to
skipped_enter at xs to r =
    record { inner = []; gap = 40 ∷ (42 ∷ (r.inner ++ r.gap)); rest = r.rest; parts = ap (λ l. 40 ∷ (42 ∷ l)) (r.parts ∙ sym (append_assoc r.inner r.gap r.rest)); counts = simp length-append (omega arith); comments = closed; blanks = comment r.comments r.blanks; behind = r.behind }

pub skipped_deeper : {Rest : List ℕ → Type 0} (depth at : ℕ) (xs : List ℕ) (to : ℕ) → Skipped Rest (suc (suc depth)) (at + 2) xs to → Skipped Rest (suc depth) at (40 ∷ (42 ∷ xs)) to
skipped_deeper depth at xs to r =
    record { inner = 40 ∷ (42 ∷ r.inner); gap = r.gap; rest = r.rest; parts = ap (λ l. 40 ∷ (42 ∷ l)) r.parts; counts = omega arith; comments = nest r.comments; blanks = r.blanks; behind = r.behind }

pub skipped_leave : {Rest : List ℕ → Type 0} (depth at : ℕ) (xs : List ℕ) (to : ℕ) → Skipped Rest depth (at + 2) xs to → Skipped Rest (suc depth) at (42 ∷ (41 ∷ xs)) to
skipped_leave depth at xs to r =
    record { inner = 42 ∷ (41 ∷ r.inner); gap = r.gap; rest = r.rest; parts = ap (λ l. 42 ∷ (41 ∷ l)) r.parts; counts = omega arith; comments = close r.comments; blanks = r.blanks; behind = r.behind }

-- what is left of open comments has a first byte
inside_first : {depth : ℕ} {xs : List ℕ} → Inside (suc depth) xs → (b : ℕ) × (bs : List ℕ) × (xs ≡ b ∷ bs)
inside_first (close i) = (_, _, refl)
inside_first (nest i) = (_, _, refl)
inside_first (byte o c i) = (_, _, refl)

-- so a test of two bytes in front sees no more than that
front_same : {X : Type 0} (F : List ℕ → X) → ((a b : ℕ) (cs ds : List ℕ) → F (a ∷ (b ∷ cs)) ≡ F (a ∷ (b ∷ ds))) → {depth : ℕ} {k : List ℕ} → Inside (suc depth) k → (c : ℕ) (more : List ℕ) → F (c ∷ (k ++ more)) ≡ F (c ∷ k)
front_same F same i c more =
    let f = inside_first i in
    rw f.2 (same c f.0 (f.1 ++ more) f.1)

opening_same : {depth : ℕ} {k : List ℕ} → Inside (suc depth) k → (c : ℕ) (more : List ℕ) → opening (c ∷ (k ++ more)) ≡ opening (c ∷ k)
opening_same = front_same opening (λ a b cs ds. refl)

closing_same : {depth : ℕ} {k : List ℕ} → Inside (suc depth) k → (c : ℕ) (more : List ℕ) → closing (c ∷ (k ++ more)) ≡ closing (c ∷ k)
closing_same = front_same closing (λ a b cs ds. refl)

pub skipped_stay : {Rest : List ℕ → Type 0} (depth at c : ℕ) (xs : List ℕ) (to : ℕ) → opening (c ∷ xs) ≡ false → closing (c ∷ xs) ≡ false → Skipped Rest (suc depth) (at + 1) xs to → Skipped Rest (suc depth) at (c ∷ xs) to
skipped_stay depth at c xs to o e r =
    let p = sym (opening_same r.comments c (r.gap ++ r.rest)) ∙ ap (λ l. opening (c ∷ l)) (sym r.parts) ∙ o in
    let q = sym (closing_same r.comments c (r.gap ++ r.rest)) ∙ ap (λ l. closing (c ∷ l)) (sym r.parts) ∙ e in
    record { inner = c ∷ r.inner; gap = r.gap; rest = r.rest; parts = ap (λ l. c ∷ l) r.parts; counts = omega arith; comments = byte p q r.comments; blanks = r.blanks; behind = r.behind }

-- what the definition passes over is so made
pub skipped_sound : {depth : ℕ} {xs : List ℕ} → Walk depth xs → (opened at to : ℕ) → skipped depth opened at xs ≡ Ok to → Skipped Halts depth at xs to
skipped_sound (halt {xs} o s) opened at to e =
    rw (← ok_same (sym (skip_halt opened at xs o s) ∙ e)) (skipped_none at xs (o, s))
skipped_sound (enter {xs} w) opened at to e =
    skipped_enter at xs to (skipped_sound w at (at + 2) to (sym (skip_enter opened at xs) ∙ e))
skipped_sound (pass {c} {xs} s w) opened at to e =
    skipped_pass at c xs to s (skipped_sound w opened (at + 1) to (sym (skip_pass opened at c xs s) ∙ e))
skipped_sound (short {depth}) opened at to e =
    absurd (err_ok to (sym (skip_short depth opened at) ∙ e))
skipped_sound (deeper {depth} {xs} w) opened at to e =
    skipped_deeper depth at xs to (skipped_sound w opened (at + 2) to (sym (skip_deeper depth opened at xs) ∙ e))
skipped_sound (leave {depth} {xs} w) opened at to e =
    skipped_leave depth at xs to (skipped_sound w opened (at + 2) to (sym (skip_leave depth opened at xs) ∙ e))
skipped_sound (stay {depth} {c} {xs} o k w) opened at to e =
    skipped_stay depth at c xs to o k (skipped_sound w opened (at + 1) to (sym (skip_stay depth opened at c xs o k) ∙ e))

-- the definition passes over what is left of open comments
pub inside_skipped : {depth : ℕ} {ks : List ℕ} → Inside depth ks → (opened at : ℕ) (more : List ℕ) → skipped depth opened at (ks ++ more) ≡ skipped 0 opened (at + length ks) more
inside_skipped closed opened at more = ap (λ n. skipped 0 opened n more) (omega arith)
inside_skipped (close {depth} {xs} i) opened at more =
    skip_leave depth opened at (xs ++ more) ∙ inside_skipped i opened (at + 2) more ∙ ap (λ n. skipped 0 opened n more) (omega arith)
inside_skipped (nest {depth} {xs} i) opened at more =
    skip_deeper depth opened at (xs ++ more) ∙ inside_skipped i opened (at + 2) more ∙ ap (λ n. skipped 0 opened n more) (omega arith)
inside_skipped (byte {depth} {c} {xs} o k i) opened at more =
    skip_stay depth opened at c (xs ++ more) (opening_same i c more ∙ o) (closing_same i c more ∙ k) ∙ inside_skipped i opened (at + 1) more ∙ ap (λ n. skipped 0 opened n more) (omega arith)

-- and over a gap
pub gap_onward : {g : List ℕ} → Gap g → (opened at : ℕ) (rest : List ℕ) → (since : ℕ) × (skipped 0 opened at (g ++ rest) ≡ skipped 0 since (at + length g) rest)
gap_onward none opened at rest = (opened, ap (λ n. skipped 0 opened n rest) (omega arith))
gap_onward (blank {c} {xs} s g) opened at rest =
    let h = gap_onward g opened (at + 1) rest in
    (h.0, skip_pass opened at c (xs ++ rest) s ∙ h.1 ∙ ap (λ n. skipped 0 h.0 n rest) (omega arith))
gap_onward (comment {ks} {xs} i g) opened at rest =
    let n : at + 2 + length ks + length xs ≡ at + length (40 ∷ (42 ∷ (ks ++ xs))) = simp length-append (omega arith) in
    let h = gap_onward g at (at + 2 + length ks) rest in
    (h.0, skip_enter opened at ((ks ++ xs) ++ rest) ∙ ap (skipped 1 at (at + 2)) (append_assoc ks xs rest) ∙ inside_skipped i at (at + 2) (xs ++ rest) ∙ h.1 ∙ ap (λ m. skipped 0 h.0 m rest) n)

pub gap_skipped : {g : List ℕ} → Gap g → (opened at : ℕ) (rest : List ℕ) → Halts rest → skipped 0 opened at (g ++ rest) ≡ Ok (at + length g)
gap_skipped {g} b opened at rest h =
    let n = gap_onward b opened at rest in
    n.1 ∙ skip_halt n.0 (at + length g) rest h.0 h.1
