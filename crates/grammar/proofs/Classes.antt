-- Classes of symbols: what is in one is in another, or is not.
use Rattle.std.proofs.Common.{ℕ, Bool, true, false, cond, not, ◌&&◌, ◌||◌, T, eqb, ◌⊎◌, List, [], ◌∷◌, ◌++◌, sym, subst, inl, inr, eqb→eq, T_not}
use Rattle.grammar.specs.Ebnf.{mem}
use Rattle.grammar.specs.Reader.{hd, fits, subset, apart}

pub or_left : (a b : Bool) → T a → T (a || b)
or_left true b h = tt
or_left false b h = absurd h

pub or_right : (a b : Bool) → T b → T (a || b)
or_right true b h = tt
or_right false b h = h

pub both : (a b : Bool) → T (a && b) → T a × T b
both true b h = (tt, h)
both false b h = absurd h

pub either : (a b : Bool) → T (a || b) → T a ⊎ T b
either true b h = inl tt
either false b h = inr h

pub implied : (a b : Bool) → T (not a || b) → T a → T b
implied true b h t = h
implied false b h t = absurd t

pub mem_left : (a : ℕ) (c d : List ℕ) → T (mem a c) → T (mem a (c ++ d))
mem_left a [] d h = absurd h
mem_left a (x ∷ c) d h =
    elim (either (eqb a x) (mem a c) h) [ inl e ↦ or_left (eqb a x) (mem a (c ++ d)) e | inr m ↦ or_right (eqb a x) (mem a (c ++ d)) (mem_left a c d m) ]

pub mem_right : (a : ℕ) (c d : List ℕ) → T (mem a d) → T (mem a (c ++ d))
mem_right a [] d h = h
mem_right a (x ∷ c) d h = or_right (eqb a x) (mem a (c ++ d)) (mem_right a c d h)

pub mem_sub : (a : ℕ) (c d : List ℕ) → T (subset c d) → T (mem a c) → T (mem a d)
mem_sub a [] d k h = absurd h
mem_sub a (x ∷ c) d k h =
    let (k₀, k₁) = both (mem x d) (subset c d) k in
    elim (either (eqb a x) (mem a c) h) [ inl e ↦ subst (λ y. T (mem y d)) (sym (eqb→eq a x e)) k₀ | inr m ↦ mem_sub a c d k₁ m ]

pub mem_apart : (a : ℕ) (c d : List ℕ) → T (apart c d) → T (mem a c) → T (mem a d) → ⊥
mem_apart a [] d k h l = h
mem_apart a (x ∷ c) d k h l =
    let (k₀, k₁) = both (not (mem x d)) (apart c d) k in
    elim (either (eqb a x) (mem a c) h) [ inl e ↦ T_not (mem x d) k₀ (subst (λ y. T (mem y d)) (eqb→eq a x e) l) | inr m ↦ mem_apart a c d k₁ m l ]

pub hd_left : (c d w : List ℕ) → T (hd c w) → T (hd (c ++ d) w)
hd_left c d [] h = h
hd_left c d (a ∷ w) h = mem_left a c d h

pub hd_right : (c d w : List ℕ) → T (hd d w) → T (hd (c ++ d) w)
hd_right c d [] h = h
hd_right c d (a ∷ w) h = mem_right a c d h

pub hd_sub : (c d w : List ℕ) → T (subset c d) → T (hd c w) → T (hd d w)
hd_sub c d [] k h = h
hd_sub c d (a ∷ w) k h = mem_sub a c d k h

pub fits_sub : (c d w : List ℕ) → T (subset c d) → T (fits c w) → T (fits d w)
fits_sub c d [] k h = tt
fits_sub c d (a ∷ w) k h = mem_sub a c d k h

pub fits_left : (c d w : List ℕ) → T (hd c w) → T (fits (c ++ d) w)
fits_left c d [] h = tt
fits_left c d (a ∷ w) h = mem_left a c d h

pub fits_right : (c d w : List ℕ) → T (fits d w) → T (fits (c ++ d) w)
fits_right c d [] h = tt
fits_right c d (a ∷ w) h = mem_right a c d h

pub hd_apart : (c d w : List ℕ) → T (apart c d) → T (hd c w) → T (fits d w) → ⊥
hd_apart c d [] k h l = h
hd_apart c d (a ∷ w) k h l = mem_apart a c d k h l

pub hd_cond : (b : Bool) (c d w : List ℕ) → T b → T (hd d w) → T (hd (c ++ cond b d []) w)
hd_cond true c d w n h = hd_right c d w h
hd_cond false c d w n h = absurd n

pub fits_cond : (b : Bool) (c d w : List ℕ) → T b → T (fits d w) → T (fits (c ++ cond b d []) w)
fits_cond true c d w n h = fits_right c d w h
fits_cond false c d w n h = absurd n

pub both3 : (a b c : Bool) → T (a && b && c) → T a × T b × T c
both3 a b c h = let (x, z) = both (a && b) c h in let (x, y) = both a b x in (x, y, z)

pub both4 : (a b c d : Bool) → T (a && b && c && d) → T a × T b × T c × T d
both4 a b c d h = let (x, z) = both (a && b && c) d h in let (p, q, r) = both3 a b c x in (p, q, r, z)

pub and_in : (a b : Bool) → T a → T b → T (a && b)
and_in true b h k = k
and_in false b h k = absurd h
