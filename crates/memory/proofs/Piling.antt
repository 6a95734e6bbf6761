-- Activation records pushed and popped.
use Rattle.std.proofs.Common.{◌≡◌, ℕ, zero, suc, ◌+◌, ◌-◌, ◌*◌, ◌<◌, ◌≤◌, min, true, false, List, length, get_or, take, set, Ok, Err, Result, is_err, MatchResult, sym, ap, ◌∙◌, subst, add-one, arith, length-set}
use Rattle.std.proofs.lemmas.List.{get_or-set_same, get_or_default, length-take-le}
use Rattle.memory.specs.declared.activation.Activation.{Activation}
use Rattle.memory.specs.Nested.{blank, Nested}
use Rattle.memory.proofs.Rows.{nested_later}

-- the record that was popped is the last of the first d
pub popped_is : (cs cs₁ : List Activation) (d n m : ℕ) (a : Activation) → d ≤ length cs → n ≡ min d (length cs) → n ≡ m + 1 → a ≡ get_or cs₁ m a → cs₁ ≡ cs → (0 < d) × (a ≡ get_or cs (d - 1) blank)
popped_is cs cs₁ d n m a l e f g h =
    let k : d - 1 ≡ m = omega arith in
    let i : m < length cs = omega arith in
    (omega arith, g ∙ ap (λ xs. get_or xs m a) h ∙ get_or_default cs m a blank i ∙ ap (λ j. get_or cs j blank) (sym k))

pub none_popped : (cs : List Activation) (d n : ℕ) → d ≤ length cs → n ≡ min d (length cs) → n ≡ 0 → d ≡ 0
none_popped cs d n l e f = omega arith

-- what is known of the last of the first d
pub nested_last : (cs : List Activation) (d above : ℕ) (a : Activation) → 0 < d → a ≡ get_or cs (d - 1) blank → Nested cs d above → (a.base + (a.variables + a.operands) ≤ above) × (a.variables + a.operands ≤ 256) × (a.base ≤ (d - 1) * 256) × Nested cs (d - 1) a.base
nested_last cs zero above a h e n = absurd (omega arith)
nested_last cs (suc d) above a h e n =
    let q : suc d - 1 ≡ d = omega arith in
    let f : a ≡ get_or cs d blank = e ∙ ap (λ j. get_or cs j blank) q in
    let P : Activation → Type 0 = λ x. (x.base + (x.variables + x.operands) ≤ above) × (x.variables + x.operands ≤ 256) × (x.base ≤ d * 256) × Nested cs d x.base in
    rw q (subst P (sym f) n)

-- one record more
pub nested_more : (cs : List Activation) (d : ℕ) (a : Activation) → d < length cs → a.variables + a.operands ≤ 256 → a.base ≤ d * 256 → Nested cs d a.base → Nested (set cs d a) (d + 1) (a.base + (a.variables + a.operands))
nested_more cs d a l h b n =
    let q : get_or (set cs d a) d blank ≡ a = get_or-set_same cs d a blank l in
    let e : a.base + (a.variables + a.operands) ≤ a.base + (a.variables + a.operands) = omega arith in
    let P : Activation → Type 0 = λ x. (x.base + (x.variables + x.operands) ≤ a.base + (a.variables + a.operands)) × (x.variables + x.operands ≤ 256) × (x.base ≤ d * 256) × Nested (set cs d a) d x.base in
    rw add-one (subst P (sym q) (e, h, b, nested_later cs d d a.base a (omega arith) n))

-- a push that was refused found every slot taken
pub full_at : (cs cs₁ : List Activation) (d n : ℕ) → n ≤ length cs₁ → n ≡ min d (length cs) → cs₁ ≡ cs → length (take n cs₁) ≡ length cs₁ → length cs ≤ d
full_at cs cs₁ d n l e h f = let k : length cs₁ ≡ length cs = ap length h in omega (arith, length-take-le n cs₁ l)

-- a push that was not refused put its record at d
pub room_at : (cs cs₁ cs₂ : List Activation) (d n m : ℕ) (a : Activation) → d ≤ length cs → n ≡ min d (length cs) → cs₁ ≡ cs → m ≡ n + 1 → cs₂ ≡ set cs₁ n a → m ≤ length cs₂ → (d < length cs) × (cs₂ ≡ set cs d a)
room_at cs cs₁ cs₂ d n m a l e h f g low =
    let k : length cs₂ ≡ length cs = ap length g ∙ length-set cs₁ n a ∙ ap length h in
    let q : n ≡ d = omega arith in
    (omega arith, g ∙ ap (λ xs. set xs n a) h ∙ ap (λ i. set cs i a) q)

-- what is known of a push that was refused, and of one that was not
pub refused : {E : Type 0} (r : Result Unit E) (P Q : Type 0) → MatchResult r (λ _. P) (λ _. Q) → is_err r ≡ true → Q
refused (Ok u) P Q h e = absurd (let z : ◌≡◌ {A = ℕ} 0 1 = cc in omega arith)
refused (Err x) P Q h e = h

pub pushed : {E : Type 0} (r : Result Unit E) (P Q : Type 0) → MatchResult r (λ _. P) (λ _. Q) → is_err r ≡ false → P
pushed (Ok u) P Q h e = h
pushed (Err x) P Q h e = absurd (let z : ◌≡◌ {A = ℕ} 0 1 = cc in omega arith)
