-- Where the code of each part lies in a list, and how long it is.
use Rattle.std.proofs.Common.{◌≡◌, ℕ, zero, suc, ◌+◌, ◌*◌, ◌<◌, ◌≤◌, List, [], ◌∷◌, ◌++◌, length, get_or, drop, refl, ap, ◌∙◌, subst, le_refl, arith}
use Rattle.instructions.specs.Steps.{none as no_instruction}
use Rattle.instructions.specs.declared.instruction.Instruction.{Instruction}
use Rattle.instructions.specs.declared.operation.Operation.TheVariants as op
use Rattle.semantics.specs.Program.{Expr, constant, variable, element, unary, binary, member, both, either, call, Args, none, more, Target, whole, item, Update, increase, decrease, include, exclude, Stat, skip, assign, update, take, put, perform, seq, choose, while, repeat, loop, for, exit, return, give, halt, Procedure, Program, missing}
use Rattle.semantics.specs.Extent.{symbols, args_symbols, target_symbols, stat_symbols, procedures_symbols, program_symbols, for_depth}
use Rattle.agreement.specs.Generator.{plain, further, expr_end, args_end, target_end, fetch_end, raise_end, update_end, stat_end, procedure_end, procedures_end, entry, first, module_start, expr_code, args_code, target_code, fetch_code, raise_code, update_code, stat_code, procedure_code, procedures_code, generate}
use Rattle.agreement.proofs.Executing.{At}

-- the instructions is lie from p on
abbrev pub Has : List Instruction → ℕ → List Instruction → Type 0
Has c p [] = Unit {0}
Has c p (i ∷ is) = At c p i × Has c (suc p) is

unfoldable pub adv : ℕ → List Instruction → ℕ
adv p [] = p
adv p (i ∷ is) = adv (suc p) is

pub adv_append : (p : ℕ) (xs ys : List Instruction) → adv p (xs ++ ys) ≡ adv (adv p xs) ys
unfolding adv
adv_append p [] ys = refl
adv_append p (x ∷ xs) ys = adv_append (suc p) xs ys

adv_length : (p : ℕ) (is : List Instruction) → adv p is ≡ p + length is
unfolding adv
adv_length p [] = omega arith
adv_length p (i ∷ is) = let h = adv_length (suc p) is in omega arith

has_append : (c : List Instruction) (p : ℕ) (xs ys : List Instruction) → Has c p (xs ++ ys) → Has c p xs × Has c (adv p xs) ys
unfolding adv
has_append c p [] ys h = (tt, h)
has_append c p (x ∷ xs) ys h = let r = has_append c (suc p) xs ys h.1 in ((h.0, r.0), r.1)

has_to : (c : List Instruction) (p q : ℕ) (xs ys : List Instruction) → adv p xs ≡ q → Has c p (xs ++ ys) → Has c p xs × Has c q ys
has_to c p q xs ys e h = let r = has_append c p xs ys h in (r.0, subst (λ x. Has c x ys) e r.1)

module _ (P : Program) where
  mutual
    unfolding adv

    pub adv_e : (e : Expr) (p : ℕ) → adv p (expr_code P e p) ≡ expr_end e p
    adv_e (constant τ z) p = refl
    adv_e (variable v) p = refl
    adv_e (element pl a e) p = simp (adv_append, adv_e e p)
    adv_e (unary pl o e) p = simp (adv_append, adv_e e p)
    adv_e (binary pl o a b) p = simp (adv_append, adv_e a p, adv_e b (expr_end a p))
    adv_e (member pl a b) p = simp (adv_append, adv_e a p, adv_e b (suc (expr_end a p)))
    adv_e (both a b) p = simp (adv_append, adv_e a p, adv_e b (suc (expr_end a p)))
    adv_e (either a b) p = simp (adv_append, adv_e a p, adv_e b (suc (expr_end a p)))
    adv_e (call pl g es) p = simp (adv_append, adv_a es p)

    pub adv_a : (es : Args) (p : ℕ) → adv p (args_code P es p) ≡ args_end es p
    adv_a none p = refl
    adv_a (more e es) p = simp (adv_append, adv_e e p, adv_a es (expr_end e p))

  pub adv_t : (t : Target) (p : ℕ) → adv p (target_code P t p) ≡ target_end t p
  unfolding adv
  adv_t (whole v) p = refl
  adv_t (item pl a e) p = simp (adv_append, adv_e e p)

  pub adv_f : (t : Target) (p : ℕ) → adv p (fetch_code P t) ≡ fetch_end t p
  unfolding adv
  adv_f (whole v) p = refl
  adv_f (item pl a e) p = refl

  pub adv_r : (t : Target) (p : ℕ) → adv p (raise_code P t) ≡ raise_end t p
  unfolding adv
  adv_r (whole v) p = refl
  adv_r (item pl a e) p = refl

  pub adv_u : (pl : ℕ) (o : Update) (p : ℕ) → adv p (update_code pl o) ≡ update_end o p
  unfolding adv
  adv_u pl increase p = refl
  adv_u pl decrease p = refl
  adv_u pl include p = refl
  adv_u pl exclude p = refl

  pub adv_s : (w d x : ℕ) (s : Stat) (p : ℕ) → adv p (stat_code P w d x s p) ≡ stat_end s p
  unfolding adv
  adv_s w d x skip p = refl
  adv_s w d x (assign t e) p = simp (adv_append, adv_t t p, adv_e e (target_end t p))
  adv_s w d x (update pl o t e) p = simp (adv_append, adv_t t p, adv_e e (target_end t p), adv_f t (expr_end e (target_end t p)), adv_u pl o (fetch_end t (expr_end e (target_end t p))))
  adv_s w d x (take pl e t) p = simp (adv_append, adv_e e p, adv_t t (suc (expr_end e p)), adv_r t (target_end t (suc (expr_end e p))))
  adv_s w d x (put pl e k) p = simp (adv_append, adv_e e p, adv_e k (suc (expr_end e p)))
  adv_s w d x (perform pl g es) p = simp (adv_append, adv_a es p)
  adv_s w d x (seq s t) p = simp (adv_append, adv_s w d x s p, adv_s w d x t (stat_end s p))
  adv_s w d x (choose e s t) p = simp (adv_append, adv_e e p, adv_s w d x s (suc (expr_end e p)), adv_s w d x t (suc (stat_end s (suc (expr_end e p)))))
  adv_s w d x (while e s) p = simp (adv_append, adv_e e p, adv_s w d x s (suc (expr_end e p)))
  adv_s w d x (repeat s e) p = simp (adv_append, adv_s w d x s p, adv_e e (stat_end s p))
  adv_s w d x (loop s) p = simp (adv_append, adv_s w d (stat_end (loop s) p) s p)
  adv_s w d x (for v a b c s) p = simp (adv_append, adv_e a p, adv_e b (suc (expr_end a p)), adv_s w (suc d) x s (further 7 (expr_end b (suc (expr_end a p)))))
  adv_s w d x exit p = refl
  adv_s w d x return p = refl
  adv_s w d x (give e) p = simp (adv_append, adv_e e p)
  adv_s w d x halt p = refl

  pub adv_p : (f : Procedure) (p : ℕ) → adv p (procedure_code P f p) ≡ procedure_end f p
  unfolding adv
  adv_p f p = simp (adv_append, adv_s (length f.words) 0 0 f.body (suc p))

  pub adv_ps : (fs : List Procedure) (p : ℕ) → adv p (procedures_code P fs p) ≡ procedures_end fs p
  unfolding adv
  adv_ps [] p = refl
  adv_ps (f ∷ fs) p = adv_append p (procedure_code P f p) (procedures_code P fs (procedure_end f p)) ∙ ap (λ q. adv q (procedures_code P fs (procedure_end f p))) (adv_p f p) ∙ adv_ps fs (procedure_end f p)

  module _ (c : List Instruction) where
    pub has_e : (e : Expr) (p : ℕ) (ys : List Instruction) → Has c p (expr_code P e p ++ ys) → Has c p (expr_code P e p) × Has c (expr_end e p) ys
    has_e e p ys h = has_to c p _ (expr_code P e p) ys (adv_e e p) h

    pub has_a : (es : Args) (p : ℕ) (ys : List Instruction) → Has c p (args_code P es p ++ ys) → Has c p (args_code P es p) × Has c (args_end es p) ys
    has_a es p ys h = has_to c p _ (args_code P es p) ys (adv_a es p) h

    pub has_t : (t : Target) (p : ℕ) (ys : List Instruction) → Has c p (target_code P t p ++ ys) → Has c p (target_code P t p) × Has c (target_end t p) ys
    has_t t p ys h = has_to c p _ (target_code P t p) ys (adv_t t p) h

    pub has_f : (t : Target) (p : ℕ) (ys : List Instruction) → Has c p (fetch_code P t ++ ys) → Has c p (fetch_code P t) × Has c (fetch_end t p) ys
    has_f t p ys h = has_to c p _ (fetch_code P t) ys (adv_f t p) h

    pub has_r : (t : Target) (p : ℕ) (ys : List Instruction) → Has c p (raise_code P t ++ ys) → Has c p (raise_code P t) × Has c (raise_end t p) ys
    has_r t p ys h = has_to c p _ (raise_code P t) ys (adv_r t p) h

    pub has_u : (pl : ℕ) (o : Update) (p : ℕ) (ys : List Instruction) → Has c p (update_code pl o ++ ys) → Has c p (update_code pl o) × Has c (update_end o p) ys
    has_u pl o p ys h = has_to c p _ (update_code pl o) ys (adv_u pl o p) h

    pub has_s : (w d x : ℕ) (s : Stat) (p : ℕ) (ys : List Instruction) → Has c p (stat_code P w d x s p ++ ys) → Has c p (stat_code P w d x s p) × Has c (stat_end s p) ys
    has_s w d x s p ys h = has_to c p _ (stat_code P w d x s p) ys (adv_s w d x s p) h

    -- a procedure's code lies at its entry
    pub has_procedure : (fs : List Procedure) (p : ℕ) → Has c p (procedures_code P fs p) → (g : ℕ) → g < length fs → Has c (entry fs p g) (procedure_code P (get_or fs g missing) (entry fs p g))
    unfolding entry
    has_procedure [] p h g l = absurd (omega arith)
    has_procedure (f ∷ fs) p h zero l = (has_to c p _ (procedure_code P f p) _ (adv_p f p) h).0
    has_procedure (f ∷ fs) p h (suc g) l = has_procedure fs (procedure_end f p) (has_to c p _ (procedure_code P f p) _ (adv_p f p) h).1 g (omega arith)

-- parts end behind where they begin
mutual
  pub up_e : (e : Expr) (p : ℕ) → p < expr_end e p
  up_e (constant τ z) p = le_refl _
  up_e (variable v) p = le_refl _
  up_e (element pl a e) p = let x = up_e e p in omega arith
  up_e (unary pl o e) p = let x = up_e e p in omega arith
  up_e (binary pl o a b) p = let x = up_e a p in let y = up_e b (expr_end a p) in omega arith
  up_e (member pl a b) p = let x = up_e a p in let y = up_e b (suc (expr_end a p)) in omega arith
  up_e (both a b) p = let x = up_e a p in let y = up_e b (suc (expr_end a p)) in omega arith
  up_e (either a b) p = let x = up_e a p in let y = up_e b (suc (expr_end a p)) in omega arith
  up_e (call pl g es) p = let x = up_a es p in omega arith

  pub up_a : (es : Args) (p : ℕ) → p ≤ args_end es p
  up_a none p = le_refl _
  up_a (more e es) p = let x = up_e e p in let y = up_a es (expr_end e p) in omega arith

pub up_t : (t : Target) (p : ℕ) → p ≤ target_end t p
up_t (whole v) p = le_refl _
up_t (item pl a e) p = let x = up_e e p in omega arith

pub up_f : (t : Target) (p : ℕ) → p ≤ fetch_end t p
up_f (whole v) p = omega arith
up_f (item pl a e) p = omega arith

pub up_r : (t : Target) (p : ℕ) → p ≤ raise_end t p
up_r (whole v) p = le_refl _
up_r (item pl a e) p = omega arith

pub up_u : (o : Update) (p : ℕ) → p ≤ update_end o p
up_u increase p = omega arith
up_u decrease p = omega arith
up_u include p = omega arith
up_u exclude p = omega arith

pub up_s : (s : Stat) (p : ℕ) → p ≤ stat_end s p
up_s skip p = le_refl _
up_s (assign t e) p = let x = up_t t p in let y = up_e e (target_end t p) in omega arith
up_s (update pl o t e) p =
    let x = up_t t p in let y = up_e e (target_end t p) in let z = up_f t (expr_end e (target_end t p)) in
    let u = up_u o (fetch_end t (expr_end e (target_end t p))) in omega arith
up_s (take pl e t) p = let x = up_e e p in let y = up_t t (suc (expr_end e p)) in let z = up_r t (target_end t (suc (expr_end e p))) in omega arith
up_s (put pl e k) p = let x = up_e e p in let y = up_e k (suc (expr_end e p)) in omega arith
up_s (perform pl g es) p = let x = up_a es p in omega arith
up_s (seq s t) p = let x = up_s s p in let y = up_s t (stat_end s p) in omega arith
up_s (choose e s t) p = let x = up_e e p in let y = up_s s (suc (expr_end e p)) in let z = up_s t (suc (stat_end s (suc (expr_end e p)))) in omega arith
up_s (while e s) p = let x = up_e e p in let y = up_s s (suc (expr_end e p)) in omega arith
up_s (repeat s e) p = let x = up_s s p in let y = up_e e (stat_end s p) in omega arith
up_s (loop s) p = let x = up_s s p in omega arith
up_s (for v a b c s) p = let x = up_e a p in let y = up_e b (suc (expr_end a p)) in let z = up_s s (further 7 (expr_end b (suc (expr_end a p)))) in omega arith
up_s exit p = omega arith
up_s return p = omega arith
up_s (give e) p = let x = up_e e p in omega arith
up_s halt p = omega arith

-- and at most four instructions behind for each symbol
mutual
  few_e : (e : Expr) (p : ℕ) → expr_end e p ≤ p + 4 * symbols e
  few_e (constant τ z) p = omega arith
  few_e (variable v) p = omega arith
  few_e (element pl a e) p = let x = few_e e p in omega arith
  few_e (unary pl o e) p = let x = few_e e p in omega arith
  few_e (binary pl o a b) p = let x = few_e a p in let y = few_e b (expr_end a p) in omega arith
  few_e (member pl a b) p = let x = few_e a p in let y = few_e b (suc (expr_end a p)) in omega arith
  few_e (both a b) p = let x = few_e a p in let y = few_e b (suc (expr_end a p)) in omega arith
  few_e (either a b) p = let x = few_e a p in let y = few_e b (suc (expr_end a p)) in omega arith
  few_e (call pl g es) p = let x = few_a es p in omega arith

  few_a : (es : Args) (p : ℕ) → args_end es p ≤ p + 4 * args_symbols es
  few_a none p = omega arith
  few_a (more e es) p = let x = few_e e p in let y = few_a es (expr_end e p) in omega arith

few_t : (t : Target) (p : ℕ) → target_end t p + 2 ≤ p + 4 * target_symbols t
few_t (whole v) p = omega arith
few_t (item pl a e) p = let x = few_e e p in omega arith

few_f : (t : Target) (p : ℕ) → fetch_end t p ≤ p + 2
few_f (whole v) p = omega arith
few_f (item pl a e) p = omega arith

few_r : (t : Target) (p : ℕ) → raise_end t p ≤ p + 1
few_r (whole v) p = omega arith
few_r (item pl a e) p = omega arith

few_u : (o : Update) (p : ℕ) → update_end o p ≤ p + 2
few_u increase p = omega arith
few_u decrease p = omega arith
few_u include p = omega arith
few_u exclude p = omega arith

few_s : (s : Stat) (p : ℕ) → stat_end s p ≤ p + 4 * stat_symbols s
few_s skip p = omega arith
few_s (assign t e) p = let x = few_t t p in let y = few_e e (target_end t p) in omega arith
few_s (update pl o t e) p =
    let x = few_t t p in let y = few_e e (target_end t p) in let z = few_f t (expr_end e (target_end t p)) in
    let u = few_u o (fetch_end t (expr_end e (target_end t p))) in omega arith
few_s (take pl e t) p = let x = few_e e p in let y = few_t t (suc (expr_end e p)) in let z = few_r t (target_end t (suc (expr_end e p))) in omega arith
few_s (put pl e k) p = let x = few_e e p in let y = few_e k (suc (expr_end e p)) in omega arith
few_s (perform pl g es) p = let x = few_a es p in omega arith
few_s (seq s t) p = let x = few_s s p in let y = few_s t (stat_end s p) in omega arith
few_s (choose e s t) p = let x = few_e e p in let y = few_s s (suc (expr_end e p)) in let z = few_s t (suc (stat_end s (suc (expr_end e p)))) in omega arith
few_s (while e s) p = let x = few_e e p in let y = few_s s (suc (expr_end e p)) in omega arith
few_s (repeat s e) p = let x = few_s s p in let y = few_e e (stat_end s p) in omega arith
few_s (loop s) p = let x = few_s s p in omega arith
few_s (for v a b c s) p = let x = few_e a p in let y = few_e b (suc (expr_end a p)) in let z = few_s s (further 7 (expr_end b (suc (expr_end a p)))) in omega arith
few_s exit p = omega arith
few_s return p = omega arith
few_s (give e) p = let x = few_e e p in omega arith
few_s halt p = omega arith

pub few_ps : (fs : List Procedure) (p : ℕ) → procedures_end fs p ≤ p + 4 * procedures_symbols fs
few_ps [] p = omega arith
few_ps (f ∷ fs) p = let x = few_s f.body (suc p) in let y = few_ps fs (procedure_end f p) in omega arith

pub up_ps : (fs : List Procedure) (p : ℕ) → p ≤ procedures_end fs p
up_ps [] p = le_refl _
up_ps (f ∷ fs) p = let x = up_s f.body (suc p) in let y = up_ps fs (procedure_end f p) in omega arith

-- procedures begin before their code ends
pub entry_before : (fs : List Procedure) (p g : ℕ) → entry fs p g ≤ procedures_end fs p
unfolding entry
entry_before [] p g = le_refl _
entry_before (f ∷ fs) p zero = let x = up_s f.body (suc p) in let y = up_ps fs (procedure_end f p) in omega arith
entry_before (f ∷ fs) p (suc g) = entry_before fs (procedure_end f p) g

-- the whole program's code
cells : (c : List Instruction) (p : ℕ) (i : Instruction) (is : List Instruction) → drop p c ≡ i ∷ is → (p < length c) × ((get_or c p no_instruction ≡ i) × (drop (suc p) c ≡ is))
cells [] zero i is e = absurd (let z : ◌≡◌ {A = ℕ} 0 1 = cc in omega arith)
cells [] (suc p) i is e = absurd (let z : ◌≡◌ {A = ℕ} 0 1 = cc in omega arith)
cells (x ∷ c) zero i is e = (omega arith, (cc, cc))
cells (x ∷ c) (suc p) i is e = let r = cells c p i is e in (omega arith, r.1)

has_all : (c : List Instruction) (p : ℕ) (is : List Instruction) → drop p c ≡ is → Has c p is
has_all c p [] e = tt
has_all c p (i ∷ is) e = let r = cells c p i is e in (record { inside = r.0; is = r.1.0 }, has_all c (suc p) is r.1.1)

pub record Laid (P : Program) (c : List Instruction) : Type 0 where
  pub start : At c 0 (plain op.Jump (module_start P))
  pub procedures : Has c first (procedures_code P P.procedures first)
  pub opening : At c (module_start P) (plain op.Enter (2 * for_depth P.body))
  pub body : Has c (suc (module_start P)) (stat_code P 0 0 0 P.body (suc (module_start P)))
  pub last : At c (stat_end P.body (suc (module_start P))) (plain op.End 0)
  pub long : length c ≡ suc (stat_end P.body (suc (module_start P)))
  pub few : length c ≤ 4 * program_symbols P

pub laid : (P : Program) → Laid P (generate P)
unfolding generate adv
laid P =
    let c = generate P in
    let h = has_all c 0 c refl in
    let x = has_to c first _ (procedures_code P P.procedures first) _ (adv_ps P P.procedures first) h.1 in
    let y = has_s P c 0 0 0 P.body (suc (module_start P)) _ x.1.1 in
    let n : adv 0 c ≡ suc (stat_end P.body (suc (module_start P))) = simp (adv_append, adv_ps P P.procedures first, adv_s P 0 0 0 P.body (suc (module_start P))) in
    let m : adv 0 c ≡ 0 + length c = adv_length 0 c in
    let l : length c ≡ suc (stat_end P.body (suc (module_start P))) = omega arith in
    let f = few_ps P.procedures first in
    let g = few_s P.body (suc (module_start P)) in
    record { start = h.0; procedures = x.0; opening = x.1.0; body = y.0; last = y.1.0; long = l; few = omega arith }
