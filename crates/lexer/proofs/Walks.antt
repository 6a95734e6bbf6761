-- The way through separators and comments, step by step.
use Rattle.std.proofs.Common.{◌≡◌, ℕ, zero, suc, ◌+◌, ◌-◌, Bool, true, false, ◌&&◌, eqb, ltb, List, [], ◌∷◌, get_or, Ok, Err, refl, add-one, arith}
use Rattle.std.proofs.lemmas.Bool.{lt-ltb, eqb-true, ne_eqb, and_parts}
use Rattle.std.proofs.lemmas.Bool.Decides.{nat_tests}
use Rattle.faults.specs.declared.kind.FaultKind.TheVariants.{OpenComment}
use Rattle.vocabulary.specs.Characters.{separator}
use Rattle.lexer.specs.Leads.{opens, closes}
use Rattle.lexer.specs.Scan.{skipped, fault}
use Rattle.lexer.specs.Reading.{opening, closing}

-- neither a comment nor a separator
abbrev pub Halts : List ℕ → Type 0
Halts xs = (opening xs ≡ false) × (separator (get_or xs 0 0) ≡ false)

-- the way through bytes inside so many open comments, up to what is neither a separator nor a comment
pub data Walk : ℕ → List ℕ → Type 0 where
  halt : {xs : List ℕ} → opening xs ≡ false → separator (get_or xs 0 0) ≡ false → Walk zero xs
  enter : {xs : List ℕ} → Walk 1 xs → Walk zero (40 ∷ (42 ∷ xs))
  pass : {c : ℕ} {xs : List ℕ} → separator c ≡ true → Walk zero xs → Walk zero (c ∷ xs)
  short : {depth : ℕ} → Walk (suc depth) []
  deeper : {depth : ℕ} {xs : List ℕ} → Walk (suc (suc depth)) xs → Walk (suc depth) (40 ∷ (42 ∷ xs))
  leave : {depth : ℕ} {xs : List ℕ} → Walk depth xs → Walk (suc depth) (42 ∷ (41 ∷ xs))
  stay : {depth c : ℕ} {xs : List ℕ} → opening (c ∷ xs) ≡ false → closing (c ∷ xs) ≡ false → Walk (suc depth) xs → Walk (suc depth) (c ∷ xs)

pub both_eqb : (a b m n : ℕ) → (eqb a m && eqb b n) ≡ true → (a ≡ m) × (b ≡ n)
both_eqb a b m n e = let p = and_parts (eqb a m) (eqb b n) e in (eqb-true a m p.0, eqb-true b n p.1)

walk_one : (s : Bool) (a : ℕ) → separator a ≡ s → Walk zero (a ∷ [])
walk_one true a e = pass e (halt refl refl)
walk_one false a e = halt refl e

walk_outside : (o s : Bool) (a b : ℕ) (cs : List ℕ) → opens a b ≡ o → separator a ≡ s → Walk 1 cs → Walk zero (b ∷ cs) → Walk zero (a ∷ (b ∷ cs))
walk_outside true s a b cs e k p q = let z = both_eqb a b 40 42 e in rw (z.0, z.1) (enter p)
walk_outside false true a b cs e k p q = pass k q
walk_outside false false a b cs e k p q = halt e k

walk_inside : (o c : Bool) (depth a b : ℕ) (cs : List ℕ) → opens a b ≡ o → closes a b ≡ c → Walk (suc (suc depth)) cs → Walk depth cs → Walk (suc depth) (b ∷ cs) → Walk (suc depth) (a ∷ (b ∷ cs))
walk_inside true c depth a b cs e k p q r = let z = both_eqb a b 40 42 e in rw (z.0, z.1) (deeper p)
walk_inside false true depth a b cs e k p q r = let z = both_eqb a b 42 41 k in rw (z.0, z.1) (leave q)
walk_inside false false depth a b cs e k p q r = stay e k r

-- there is a way through all bytes
pub walk : (xs : List ℕ) (depth : ℕ) → Walk depth xs
walk [] zero = halt refl refl
walk [] (suc depth) = short
walk (a ∷ []) zero = walk_one (separator a) a refl
walk (a ∷ []) (suc depth) = stay refl refl short
walk (a ∷ (b ∷ cs)) zero = walk_outside (opens a b) (separator a) a b cs refl refl (walk cs 1) (walk (b ∷ cs) zero)
walk (a ∷ (b ∷ cs)) (suc depth) = walk_inside (opens a b) (closes a b) depth a b cs refl refl (walk cs (suc (suc depth))) (walk cs depth) (walk (b ∷ cs) (suc depth))

-- one step of the definition, for each step of the way
inside_some : (depth : ℕ) → ltb 0 (suc depth) ≡ true
inside_some depth = lt-ltb 0 (suc depth) (omega arith)

separator_opens : (c b : ℕ) → separator c ≡ true → opens c b ≡ false
separator_opens c b e = grind (arith, nat_tests)

pub skip_halt : (opened at : ℕ) (xs : List ℕ) → opening xs ≡ false → separator (get_or xs 0 0) ≡ false → skipped 0 opened at xs ≡ Ok at
unfolding skipped
skip_halt opened at [] o e = refl
skip_halt opened at (a ∷ []) o e = rw e refl
skip_halt opened at (a ∷ (b ∷ cs)) o e = rw (o, e) refl

pub skip_enter : (opened at : ℕ) (xs : List ℕ) → skipped 0 opened at (40 ∷ (42 ∷ xs)) ≡ skipped 1 at (at + 2) xs
unfolding skipped
skip_enter opened at xs = refl

pub skip_pass : (opened at c : ℕ) (xs : List ℕ) → separator c ≡ true → skipped 0 opened at (c ∷ xs) ≡ skipped 0 opened (at + 1) xs
unfolding skipped
skip_pass opened at c [] e = rw e refl
skip_pass opened at c (b ∷ cs) e = rw (separator_opens c b e, e) refl

pub skip_short : (depth opened at : ℕ) → skipped (suc depth) opened at [] ≡ Err (fault OpenComment opened)
unfolding skipped
skip_short depth opened at = rw (ne_eqb (suc depth) 0 (omega arith)) refl

pub skip_deeper : (depth opened at : ℕ) (xs : List ℕ) → skipped (suc depth) opened at (40 ∷ (42 ∷ xs)) ≡ skipped (suc (suc depth)) opened (at + 2) xs
unfolding skipped
skip_deeper depth opened at xs = rw (inside_some depth, add-one (suc depth)) refl

pub skip_leave : (depth opened at : ℕ) (xs : List ℕ) → skipped (suc depth) opened at (42 ∷ (41 ∷ xs)) ≡ skipped depth opened (at + 2) xs
unfolding skipped
skip_leave depth opened at xs = let m : suc depth - 1 ≡ depth = omega arith in rw (inside_some depth, m) refl

pub skip_stay : (depth opened at c : ℕ) (xs : List ℕ) → opening (c ∷ xs) ≡ false → closing (c ∷ xs) ≡ false → skipped (suc depth) opened at (c ∷ xs) ≡ skipped (suc depth) opened (at + 1) xs
unfolding skipped
skip_stay depth opened at c [] o e = rw (inside_some depth, ne_eqb (suc depth) 0 (omega arith)) refl
skip_stay depth opened at c (b ∷ cs) o e = rw (o, inside_some depth, e) refl
