-- Jumps to the same or a lower index are those for a loop's next round.
use Rattle.std.proofs.Common.{◌≡◌, ℕ, zero, suc, ◌+◌, ◌<◌, ◌≤◌, Bool, true, false, cond, T, ◌⊎◌, List, [], ◌∷◌, ◌++◌, length, get_or, ℤ, pos, Some, None, Option, sym, refl, ap, subst, inl, inr, arith}
use lib.Signed.{le_z}
use Rattle.std.specs.List.{AllByRecursion}
use Rattle.instructions.specs.Numbers.{number_of}
use Rattle.instructions.specs.Steps.{none as no_instruction}
use Rattle.instructions.specs.declared.instruction.Instruction.{Instruction}
use Rattle.instructions.specs.declared.operation.Operation.{Operation}
use Rattle.instructions.specs.declared.operation.Operation.TheVariants as op
use Rattle.semantics.specs.Program.{BasicType, INTEGER, BOOLEAN, BITSET, Variable, global, local, Unary, negate, complement, absolute, odd, Binary, add, subtract, multiply, divide, modulo, union, difference, intersection, equal, unequal, less, at_most, greater, at_least, Expr, constant, variable, element, unary, binary, member, both, either, call, Args, none, more, Target, whole, item, Update, increase, decrease, include, exclude, Stat, skip, assign, update, take, put, perform, seq, choose, while, repeat, loop, for, exit, return, give, halt, Procedure, Program}
use Rattle.semantics.specs.WellFormed.{Block, block, module_block, Statement, WellFormedProcedure}
use Rattle.agreement.specs.Generator.{plain, at_place, constant_code, load, store, load_element, store_element, unary_operation, binary_operation, further, expr_end, args_end, target_end, fetch_end, raise_end, update_end, stat_end, procedure_end, first, module_start, expr_code, args_code, target_code, fetch_code, raise_code, keep_code, update_code, first_test, stat_code, closing, procedure_code, procedures_code, generate}
use Rattle.agreement.specs.Jumps.{next_rounds, procedures_rounds, Jumps, Among, JumpsBackAreRounds}
use Rattle.agreement.proofs.Positions.{adv, adv_e, adv_a, adv_t, adv_f, adv_r, adv_u, adv_s, adv_p, adv_ps, up_e, up_s, up_ps}

-- a property of each instruction and its index, from p on
abbrev Each : (ℕ → Instruction → Type 0) → ℕ → List Instruction → Type 0
Each Q p [] = Unit {0}
Each Q p (i ∷ is) = Q p i × Each Q (suc p) is

each_to : (Q : ℕ → Instruction → Type 0) (p q : ℕ) (xs ys : List Instruction) → adv p xs ≡ q → Each Q p xs → Each Q q ys → Each Q p (xs ++ ys)
unfolding adv
each_to Q p q [] ys e h k = subst (λ z. Each Q z ys) (sym e) k
each_to Q p q (x ∷ xs) ys e h k = (h.0, each_to Q (suc p) q xs ys e h.1 k)

each_map : (Q R : ℕ → Instruction → Type 0) → ((p : ℕ) (i : Instruction) → Q p i → R p i) → (p : ℕ) (is : List Instruction) → Each Q p is → Each R p is
each_map Q R f p [] h = tt
each_map Q R f p (i ∷ is) h = (f p i h.0, each_map Q R f (suc p) is h.1)

-- it jumps to a higher index, if at all
record Forward (p : ℕ) (i : Instruction) : Type 0 where
  pub ahead : Jumps i → p < i.operand

-- or for a round of the list
record Fair (L : List ℕ) (p : ℕ) (i : Instruction) : Type 0 where
  pub back : Jumps i → i.operand ≤ p → Among p L

fair : (L : List ℕ) (p : ℕ) (i : Instruction) → Forward p i → Fair L p i
fair L p i f = record { back = λ j l. absurd (let h = f.ahead j in omega arith) }

-- an instruction whose number is no jump's
calm : {Q : Type 0} (i : Instruction) → ((number_of i.operation < 36) ⊎ (38 < number_of i.operation)) → Jumps i → Q
calm i (inl h) (inl e) = absurd (let n = ap number_of e in omega arith)
calm i (inl h) (inr (inl e)) = absurd (let n = ap number_of e in omega arith)
calm i (inl h) (inr (inr e)) = absurd (let n = ap number_of e in omega arith)
calm i (inr h) (inl e) = absurd (let n = ap number_of e in omega arith)
calm i (inr h) (inr (inl e)) = absurd (let n = ap number_of e in omega arith)
calm i (inr h) (inr (inr e)) = absurd (let n = ap number_of e in omega arith)

low : (p pl n : ℕ) (o : Operation) → number_of o < 36 → Forward p (at_place pl o n)
low p pl n o h = record { ahead = λ j. calm (at_place pl o n) (inl h) j }

high : (p pl n : ℕ) (o : Operation) → 38 < number_of o → Forward p (at_place pl o n)
high p pl n o h = record { ahead = λ j. calm (at_place pl o n) (inr h) j }

unary_number : (o : Unary) → number_of (unary_operation o) < 36
unary_number negate = omega arith
unary_number complement = omega arith
unary_number absolute = omega arith
unary_number odd = omega arith

binary_number : (o : Binary) → number_of (binary_operation o) < 36
binary_number add = omega arith
binary_number subtract = omega arith
binary_number multiply = omega arith
binary_number divide = omega arith
binary_number modulo = omega arith
binary_number union = omega arith
binary_number difference = omega arith
binary_number intersection = omega arith
binary_number equal = omega arith
binary_number unequal = omega arith
binary_number less = omega arith
binary_number at_most = omega arith
binary_number greater = omega arith
binary_number at_least = omega arith

forward_constant : (τ : BasicType) (z : ℤ) (p : ℕ) → Forward p (constant_code τ z)
forward_constant INTEGER z p = low p 0 _ op.Integer (omega arith)
forward_constant BOOLEAN z p = low p 0 _ op.Integer (omega arith)
forward_constant BITSET z p = low p 0 _ op.Set (omega arith)

forward_load : (v : Variable) (p : ℕ) → Forward p (load v)
forward_load (global w) p = low p 0 w op.Global (omega arith)
forward_load (local w) p = low p 0 w op.Local (omega arith)

forward_store : (v : Variable) (p : ℕ) → Forward p (store v)
forward_store (global w) p = low p 0 w op.StoreGlobal (omega arith)
forward_store (local w) p = low p 0 w op.StoreLocal (omega arith)

forward_load_element : (v : Variable) (p : ℕ) → Forward p (load_element v)
forward_load_element (global w) p = low p 0 w op.GlobalElement (omega arith)
forward_load_element (local w) p = low p 0 w op.LocalElement (omega arith)

forward_store_element : (v : Variable) (p : ℕ) → Forward p (store_element v)
forward_store_element (global w) p = low p 0 w op.StoreGlobalElement (omega arith)
forward_store_element (local w) p = low p 0 w op.StoreLocalElement (omega arith)

module _ (P : Program) where
  behind_e : (Q : ℕ → Instruction → Type 0) (e : Expr) (p : ℕ) (ys : List Instruction) → Each Q p (expr_code P e p) → Each Q (expr_end e p) ys → Each Q p (expr_code P e p ++ ys)
  behind_e Q e p ys h k = each_to Q p (expr_end e p) (expr_code P e p) ys (adv_e P e p) h k

  mutual
    forward_e : (e : Expr) (p : ℕ) → Each Forward p (expr_code P e p)
    forward_e (constant τ z) p = (forward_constant τ z p, tt)
    forward_e (variable v) p = (forward_load v p, tt)
    forward_e (element pl a e) p = behind_e Forward e p _ (forward_e e p) (forward_constant INTEGER a.low _, (low _ pl _ op.Index (omega arith), (forward_load_element a.base _, tt)))
    forward_e (unary pl o e) p = behind_e Forward e p _ (forward_e e p) (low _ pl 0 (unary_operation o) (unary_number o), tt)
    forward_e (binary pl o a b) p = behind_e Forward a p _ (forward_e a p) (behind_e Forward b (expr_end a p) _ (forward_e b (expr_end a p)) (low _ pl 0 (binary_operation o) (binary_number o), tt))
    forward_e (member pl a b) p = behind_e Forward a p _ (forward_e a p) (low _ pl 0 op.Element (omega arith), behind_e Forward b (suc (expr_end a p)) _ (forward_e b (suc (expr_end a p))) (low _ pl 0 op.In (omega arith), tt))
    forward_e (both a b) p =
        let u = up_e b (suc (expr_end a p)) in
        behind_e Forward a p _ (forward_e a p) ((record { ahead = λ j. omega arith }), behind_e Forward b (suc (expr_end a p)) _ (forward_e b (suc (expr_end a p))) ((record { ahead = λ j. omega arith }), (low _ 0 0 op.Integer (omega arith), tt)))
    forward_e (either a b) p =
        let u = up_e b (suc (expr_end a p)) in
        behind_e Forward a p _ (forward_e a p) ((record { ahead = λ j. omega arith }), behind_e Forward b (suc (expr_end a p)) _ (forward_e b (suc (expr_end a p))) ((record { ahead = λ j. omega arith }), (low _ 0 1 op.Integer (omega arith), tt)))
    forward_e (call pl g es) p = each_to Forward p (args_end es p) (args_code P es p) _ (adv_a P es p) (forward_a es p) (high _ pl _ op.Call (omega arith), tt)

    forward_a : (es : Args) (p : ℕ) → Each Forward p (args_code P es p)
    forward_a none p = tt
    forward_a (more e es) p = behind_e Forward e p _ (forward_e e p) (forward_a es (expr_end e p))

  forward_t : (t : Target) (p : ℕ) → Each Forward p (target_code P t p)
  forward_t (whole v) p = tt
  forward_t (item pl a e) p = behind_e Forward e p _ (forward_e e p) (forward_constant INTEGER a.low _, (low _ pl _ op.Index (omega arith), tt))

  forward_f : (t : Target) (p : ℕ) → Each Forward p (fetch_code P t)
  forward_f (whole v) p = (forward_load v p, tt)
  forward_f (item pl a e) p = (low p 0 1 op.Copy (omega arith), (forward_load_element a.base (suc p), tt))

  forward_r : (t : Target) (p : ℕ) → Each Forward p (raise_code P t)
  forward_r (whole v) p = tt
  forward_r (item pl a e) p = (low p 0 0 op.Swap (omega arith), tt)

  forward_k : (t : Target) (p : ℕ) → Forward p (keep_code P t)
  forward_k (whole v) p = forward_store v p
  forward_k (item pl a e) p = forward_store_element a.base p

  forward_u : (pl : ℕ) (o : Update) (p : ℕ) → Each Forward p (update_code pl o)
  forward_u pl increase p = (low p pl 0 op.Add (omega arith), tt)
  forward_u pl decrease p = (low p 0 0 op.Swap (omega arith), (low (suc p) pl 0 op.Subtract (omega arith), tt))
  forward_u pl include p = (low p pl 0 op.Include (omega arith), tt)
  forward_u pl exclude p = (low p pl 0 op.Exclude (omega arith), tt)

  forward_test : (c : ℤ) (p : ℕ) → Forward p (plain (first_test P c) 0)
  forward_test c p = by_sign (le_z (pos 0) c)
    where
      by_sign : (b : Bool) → Forward p (plain (cond b op.LessEqual op.GreaterEqual) 0)
      by_sign true = low p 0 0 op.LessEqual (omega arith)
      by_sign false = low p 0 0 op.GreaterEqual (omega arith)

  -- what goes forward is fair
  fairly : (L : List ℕ) (p : ℕ) (is : List Instruction) → Each Forward p is → Each (Fair L) p is
  fairly L p is h = each_map Forward (Fair L) (fair L) p is h

  fair_e : (L : List ℕ) (e : Expr) (p : ℕ) (ys : List Instruction) → Each (Fair L) (expr_end e p) ys → Each (Fair L) p (expr_code P e p ++ ys)
  fair_e L e p ys k = behind_e (Fair L) e p ys (fairly L p (expr_code P e p) (forward_e e p)) k

  -- a longer list
  left_more : (L M : List ℕ) (n : ℕ) → Among n L → Among n (L ++ M)
  left_more [] M n h = absurd h
  left_more (x ∷ L) M n (inl e) = inl e
  left_more (x ∷ L) M n (inr h) = inr (left_more L M n h)

  right_more : (L M : List ℕ) (n : ℕ) → Among n M → Among n (L ++ M)
  right_more [] M n h = h
  right_more (x ∷ L) M n h = inr (right_more L M n h)

  widen : (L M : List ℕ) → ((n : ℕ) → Among n L → Among n M) → (p : ℕ) (is : List Instruction) → Each (Fair L) p is → Each (Fair M) p is
  widen L M f p is h = each_map (Fair L) (Fair M) (λ q i k. record { back = λ j l. f q (k.back j l) }) p is h

  module _ (B : Block) (words : ℕ) where
    behind_s : (Q : ℕ → Instruction → Type 0) (d x : ℕ) (s : Stat) (p : ℕ) (ys : List Instruction) → Each Q p (stat_code P words d x s p) → Each Q (stat_end s p) ys → Each Q p (stat_code P words d x s p ++ ys)
    behind_s Q d x s p ys h k = each_to Q p (stat_end s p) (stat_code P words d x s p) ys (adv_s P words d x s p) h k

    fair_s : (l : Bool) (d x : ℕ) (s : Stat) → Statement P B l s → (p : ℕ) → (T l → stat_end s p ≤ x) → Each (Fair (next_rounds s p)) p (stat_code P words d x s p)
    fair_s l d x skip w p ex = tt
    fair_s l d x (assign t e) w p ex = fairly [] p _ (each_to Forward p (target_end t p) (target_code P t p) _ (adv_t P t p) (forward_t t p) (behind_e Forward e (target_end t p) _ (forward_e e (target_end t p)) (forward_k t _, tt)))
    fair_s l d x (update pl o t e) w p ex =
        let q = expr_end e (target_end t p) in
        fairly [] p _ (each_to Forward p (target_end t p) (target_code P t p) _ (adv_t P t p) (forward_t t p) (behind_e Forward e (target_end t p) _ (forward_e e (target_end t p))
        (each_to Forward q (fetch_end t q) (fetch_code P t) _ (adv_f P t q) (forward_f t q) (each_to Forward (fetch_end t q) (update_end o (fetch_end t q)) (update_code pl o) _ (adv_u P pl o (fetch_end t q)) (forward_u pl o (fetch_end t q)) (forward_k t _, tt)))))
    fair_s l d x (take pl e t) w p ex =
        let q = suc (expr_end e p) in
        let r = target_end t q in
        fairly [] p _ (behind_e Forward e p _ (forward_e e p) (
          high _ pl 0 op.Channel (omega arith),
          each_to Forward q r (target_code P t q) _ (adv_t P t q) (forward_t t q)
              (each_to Forward r (raise_end t r) (raise_code P t) _ (adv_r P t r) (forward_r t r) (high _ pl 0 op.Take (omega arith), (forward_k t _, tt))),
        ))
    fair_s l d x (put pl e k) w p ex =
        fairly [] p _ (behind_e Forward e p _ (forward_e e p) (high _ pl 0 op.Channel (omega arith), behind_e Forward k (suc (expr_end e p)) _ (forward_e k (suc (expr_end e p))) (high _ pl 0 op.Put (omega arith), tt)))
    fair_s l d x (perform pl g es) w p ex = fairly [] p _ (each_to Forward p (args_end es p) (args_code P es p) _ (adv_a P es p) (forward_a es p) (high _ pl _ op.Call (omega arith), tt))
    fair_s l d x (seq s t) w p ex =
        let u = up_s t (stat_end s p) in
        let L = next_rounds s p in
        let M = next_rounds t (stat_end s p) in
        behind_s (Fair (L ++ M)) d x s p _ (widen L (L ++ M) (left_more L M) p _ (fair_s l d x s w.0 p (λ y. let e = ex y in omega arith))) (widen M (L ++ M) (right_more L M) _ _ (fair_s l d x t w.1 (stat_end s p) ex))
    fair_s l d x (choose e s t) w p ex =
        let q = suc (expr_end e p) in
        let r = suc (stat_end s q) in
        let u₁ = up_s s q in
        let u₂ = up_s t r in
        let L = next_rounds s q in
        let M = next_rounds t r in
        fair_e (L ++ M) e p _ (
          fair (L ++ M) _ _ (record { ahead = λ j. omega arith }),
          behind_s (Fair (L ++ M)) d x s q _ (widen L (L ++ M) (left_more L M) q _ (fair_s l d x s w.1.0 q (λ y. let e = ex y in omega arith)))
              (fair (L ++ M) _ _ (record { ahead = λ j. omega arith }), widen M (L ++ M) (right_more L M) r _ (fair_s l d x t w.1.1 r ex)),
        )
    fair_s l d x (while e s) w p ex =
        let q = suc (expr_end e p) in
        let z = stat_end s q in
        let u₁ = up_s s q in
        let M = next_rounds s q in
        fair_e (z ∷ M) e p _ (fair (z ∷ M) _ _ (record { ahead = λ j. omega arith }), behind_s (Fair (z ∷ M)) d x s q _ (widen M (z ∷ M) (λ n h. inr h) q _ (fair_s l d x s w.1 q (λ y. let e = ex y in omega arith))) (record { back = λ j k. inl refl }, tt))
    fair_s l d x (repeat s e) w p ex =
        let q = stat_end s p in
        let z = expr_end e q in
        let u = up_e e q in
        let M = next_rounds s p in
        behind_s (Fair (z ∷ M)) d x s p _ (widen M (z ∷ M) (λ n h. inr h) p _ (fair_s l d x s w.0 p (λ y. let e = ex y in omega arith))) (fair_e (z ∷ M) e q _ (record { back = λ j k. inl refl }, tt))
    fair_s l d x (loop s) w p ex =
        let z = stat_end s p in
        let M = next_rounds s p in
        behind_s (Fair (z ∷ M)) d (suc z) s p _ (widen M (z ∷ M) (λ n h. inr h) p _ (fair_s true d (suc z) s w p (λ y. omega arith))) (record { back = λ j k. inl refl }, tt)
    fair_s l d x (for v a b c s) w p ex =
        let q₁ = suc (expr_end a p) in
        let q₂ = expr_end b q₁ in
        let z = stat_end s (further 7 q₂) in
        let u = up_s s (further 7 q₂) in
        let M = next_rounds s (further 7 q₂) in
        let L = further 5 z ∷ M in
        fair_e L a p _ (
          fair L _ _ (low _ 0 _ op.StoreLocal (omega arith)),
          fair_e L b q₁ _ (
            fair L _ _ (low _ 0 _ op.StoreLocal (omega arith)),
            (
              fair L _ _ (low _ 0 _ op.Local (omega arith)),
              (
                fair L _ _ (low _ 0 _ op.Local (omega arith)),
                (
                  fair L _ _ (forward_test c _),
                  (
                    fair L _ _ (record { ahead = λ j. omega arith }),
                    (
                      fair L _ _ (low _ 0 _ op.Local (omega arith)),
                      (
                        fair L _ _ (forward_store v _),
                        behind_s (Fair L) (suc d) x s (further 7 q₂) _ (widen M L (λ n h. inr h) _ _ (fair_s l (suc d) x s w.1.1.1.1.1 (further 7 q₂) (λ y. let e = ex y in omega arith)))
                            (fair L _ _ (low _ 0 _ op.Local (omega arith)), (fair L _ _ (low _ 0 _ op.Local (omega arith)), (fair L _ _ (forward_constant INTEGER c _), (fair L _ _ (high _ 0 0 op.Advance (omega arith)), (fair L _ _ (low _ 0 _ op.StoreLocal (omega arith)), (record { back = λ j k. inl refl }, tt)))))),
                      ),
                    ),
                  ),
                ),
              ),
            ),
          ),
        )
    fair_s l d x exit w p ex = (fair [] _ _ (record { ahead = λ j. ex w }), tt)
    fair_s l d x return w p ex = (fair [] _ _ (high _ 0 0 op.Return (omega arith)), tt)
    fair_s l d x (give e) w p ex = fair_e [] e p _ (fair [] _ _ (high _ 0 0 op.ReturnValue (omega arith)), tt)
    fair_s l d x halt w p ex = (fair [] _ _ (low _ 0 0 op.End (omega arith)), tt)

  forward_closing : (o : Option BasicType) (pl p : ℕ) → Forward p (closing P o pl)
  forward_closing (Some τ) pl p = high p pl 0 op.NoResult (omega arith)
  forward_closing None pl p = high p 0 0 op.Return (omega arith)

  fair_p : (f : Procedure) (p : ℕ) → WellFormedProcedure P f → Each (Fair (next_rounds f.body (suc p))) p (procedure_code P f p)
  fair_p f p w =
      let L = next_rounds f.body (suc p) in
      (fair L _ _ (high _ 0 _ op.Enter (omega arith)), behind_s (block f) (length f.words) (Fair L) 0 0 f.body (suc p) _ (fair_s (block f) (length f.words) false 0 0 f.body w.body (suc p) (λ y. absurd y)) (fair L _ _ (forward_closing f.result f.end _), tt))

  fair_ps : (fs : List Procedure) (p : ℕ) → AllByRecursion (WellFormedProcedure P) fs → Each (Fair (procedures_rounds fs p)) p (procedures_code P fs p)
  fair_ps [] p w = tt
  fair_ps (f ∷ fs) p w =
      let L = next_rounds f.body (suc p) in
      let M = procedures_rounds fs (procedure_end f p) in
      each_to (Fair (L ++ M)) p (procedure_end f p) (procedure_code P f p) _ (adv_p P f p) (widen L (L ++ M) (left_more L M) p (procedure_code P f p) (fair_p f p w.0)) (widen M (L ++ M) (right_more L M) _ _ (fair_ps fs (procedure_end f p) w.1))

-- one of a list
each_at : (Q : ℕ → Instruction → Type 0) (p : ℕ) (is : List Instruction) → Each Q p is → (n : ℕ) → n < length is → Q (p + n) (get_or is n no_instruction)
each_at Q p [] h n l = absurd (omega arith)
each_at Q p (i ∷ is) h zero l = subst (λ z. Q z i) (let e : p ≡ p + 0 = omega arith in e) h.0
each_at Q p (i ∷ is) h (suc n) l = subst (λ z. Q z (get_or is n no_instruction)) (let e : suc p + n ≡ p + suc n = omega arith in e) (each_at Q (suc p) is h.1 n (omega arith))

pub jumps_back_are_rounds : JumpsBackAreRounds
unfolding generate
jumps_back_are_rounds P wf i l j k =
    let L = procedures_rounds P.procedures first in
    let M = next_rounds P.body (suc (module_start P)) in
    let u = up_ps P.procedures first in
    let all : Each (Fair (L ++ M)) 0 (generate P) = (
      fair (L ++ M) _ _ (record { ahead = λ j. omega arith }),
      each_to (Fair (L ++ M)) first (module_start P) (procedures_code P P.procedures first) _ (adv_ps P P.procedures first) (widen P L (L ++ M) (left_more P L M) first _ (fair_ps P P.procedures first wf.procedures))
          (fair (L ++ M) _ _ (high _ 0 _ op.Enter (omega arith)), behind_s P module_block 0 (Fair (L ++ M)) 0 0 P.body (suc (module_start P)) _ (widen P M (L ++ M) (right_more P L M) _ _ (fair_s P module_block 0 false 0 0 P.body wf.body (suc (module_start P)) (λ y. absurd y))) (fair (L ++ M) _ _ (low _ 0 0 op.End (omega arith)), tt)),
    ) in
    (subst (λ z. Fair (L ++ M) z (get_or (generate P) i no_instruction)) (let e : 0 + i ≡ i = omega arith in e) (each_at (Fair (L ++ M)) 0 (generate P) all i l)).back j k
