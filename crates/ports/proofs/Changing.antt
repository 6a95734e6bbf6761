-- When a meaning is another with one channel changed, and what a call answers on a channel that there is.
use Rattle.std.proofs.Common.{◌≡◌, ℕ, ◌<◌, ◌≤◌, Bool, true, false, cond, eqb, ltb, List, [], ◌∷◌, ◌++◌, length, get_or, set, replicate, ℤ, Ok, Err, Result, sym, refl, ap, ◌∙◌, inl, inr}
use mathlib.Core.Path.{fun_ext}
use Rattle.std.proofs.lemmas.List.{get_or-replicate, get_or_past, get_or-set_same, get_or-set_other, length-replicate}
use Rattle.std.proofs.lemmas.Bool.{eqb-true, eqb-false, lt-ltb, le-ltb, cases_lt, cond-true, cond-false}
use Rattle.ports.specs.Channels.{Channel, Meaning, channels, holding}
use Rattle.ports.specs.Calls.{on_channel, room, fed, changed, feed_answer, feed_after}

-- a row of one value holds that value, past its end too
pub get_or_row : {X : Type 0} (n k : ℕ) (x : X) → get_or (replicate n x) k x ≡ x
get_or_row n k x = elim (cases_lt k n) [ inl h ↦ get_or-replicate n k x x h | inr h ↦ (let p : length (replicate n x) ≤ k = simp length-replicate h in get_or_past (replicate n x) k x p) ]

-- on a channel that there is, the answer stands
pub answered : {X : Type 0} (c : ℕ) (r : Result X ℕ) → c < channels → on_channel c r ≡ r
answered c r h = cond-true (ltb c channels) r (Err 51) (lt-ltb c channels h)

-- on any other it is 51
pub no_channel : {X : Type 0} (c : ℕ) (r : Result X ℕ) → channels ≤ c → on_channel c r ≡ Err 51
no_channel c r h = cond-false (ltb c channels) r (Err 51) (le-ltb c channels h)

-- and nothing changes
pub unchanged : (m : Meaning) (c : ℕ) (x : Channel) → channels ≤ c → m ≡ changed m c x
unchanged m c x h = sym (cond-false (ltb c channels) (λ k. cond (eqb k c) x (m k)) m (le-ltb c channels h))

-- a meaning that is x at c and elsewhere as m
pub changed_by : (m m' : Meaning) (c : ℕ) (x : Channel) → c < channels → m' c ≡ x → ((k : ℕ) → (k ≡ c → ⊥) → m' k ≡ m k) → m' ≡ changed m c x
changed_by m m' c x h e other = fun_ext (λ k. here k (eqb k c) (eqb-true k c) (eqb-false k c)) ∙ sym (cond-true (ltb c channels) (λ k. cond (eqb k c) x (m k)) m (lt-ltb c channels h))
  where
    here : (k : ℕ) (b : Bool) → (b ≡ true → k ≡ c) → (b ≡ false → k ≡ c → ⊥) → m' k ≡ cond b x (m k)
    here k true is not = ap m' (is refl) ∙ e
    here k false is not = other k (not refl)

module _ (m : Meaning) (c : ℕ) (h : c < channels) where
  pub fed_room : (v : ℤ) → length (m c).waiting < (m c).depth → fed (m c) v ≡ holding (m c) ((m c).waiting ++ (m c).reading v ∷ [])
  fed_room v r = cond-true (room (m c)) _ _ (lt-ltb (length (m c).waiting) (m c).depth r)

  pub feed_room : length (m c).waiting < (m c).depth → Ok tt ≡ feed_answer m c
  feed_room r = sym (answered c _ h ∙ cond-true (room (m c)) _ _ (lt-ltb (length (m c).waiting) (m c).depth r))

  pub feed_full : (m c).depth ≤ length (m c).waiting → Err 52 ≡ feed_answer m c
  feed_full r = sym (answered c _ h ∙ cond-false (room (m c)) _ _ (le-ltb (length (m c).waiting) (m c).depth r))

  pub fed_full : (v : ℤ) → (m c).depth ≤ length (m c).waiting → m ≡ feed_after m c v
  fed_full v r = changed_by m m c (fed (m c) v) h (sym (cond-false (room (m c)) _ _ (le-ltb (length (m c).waiting) (m c).depth r))) (λ k ne. refl)

-- a port that keeps a record for each channel, with the record of one channel replaced
pub row_changed : {S : Type 0} (f : S → Channel) (rows : List S) (d s : S) (c : ℕ) → c < channels → c < length rows → (λ k. f (get_or (set rows c s) k d)) ≡ changed (λ k. f (get_or rows k d)) c (f s)
row_changed f rows d s c h l = changed_by (λ k. f (get_or rows k d)) (λ k. f (get_or (set rows c s) k d)) c (f s) h (ap f (get_or-set_same rows c s d l)) (λ k ne. ap f (get_or-set_other rows c k s d ne))
