-- The claims on lists of symbols, from what is proved of each grammar that passes the check.
use Rattle.std.proofs.Common.{◌≡◌, ℕ, suc, ◌<◌, ◌≤◌, List, [], ◌∷◌, ◌++◌, length, get_or, take, drop, sym, ap, ◌∙◌, subst, append_assoc, append-nil, arith, drop-cons, take-suc}
use native.Mathlib.Decide.{dec_lt}
use Rattle.std.proofs.lemmas.List.{take-append-drop}
use Rattle.grammar.specs.Ebnf.{ref, marks}
use Rattle.grammar.specs.Reader.{Why, wrong, deep, Reads, Stops}
use Rattle.grammar.specs.Language.{Module, rule}
use Rattle.grammar.specs.Sets.{firsts, nulls, follows, rank}
use Rattle.grammar.specs.Claims.{Program, symbols, limit, Seventeenth, BeginsWith, Accepted, Impossible, TooDeep, tree, impossible, too_deep, OneTree, OneAnswer, ReaderRight}
use Rattle.grammar.proofs.Theory.{sound, not_both, stops_det}
use Rattle.grammar.proofs.Prefixes.{same_before, front, drop_place, begun_like, begun_long}
use Rattle.grammar.proofs.Faults as faults
use Rattle.grammar.proofs.Table.{check, least}

pub one_tree : OneTree
one_tree = faults.unique rule firsts nulls follows rank check (ref Module) tt

-- the symbols that a module begins with
alike : (t : Program) (w : List ℕ) (k : ℕ) → k ≤ length w → BeginsWith t (take k w) → take k (symbols t) ≡ take k w
alike t w k h b = begun_like k (symbols t) w b.0 h b.1

-- where the reader goes past symbol j, it is no 17th enclosure
no_earlier : (w : List ℕ) (j : ℕ) → ((k : ℕ) → k ≤ j → k < length w → Stops rule firsts nulls limit limit (ref Module) w deep (drop k w) → ⊥) → j < length w → (t : Program) → BeginsWith t (take (suc j) w) → Seventeenth t j → ⊥
no_earlier w j free h t b s = faults.passed rule firsts nulls follows rank check (ref Module) tt least limit w j free h t (alike t w (suc j) h b) s.0 s.1

unstopped : (w : List ℕ) (k : ℕ) → k ≤ length w → (φ : Why) → Stops rule firsts nulls limit limit (ref Module) w φ (drop k w) → (j : ℕ) → j < k →
    (i : ℕ) → i ≤ j → i < length w → Stops rule firsts nulls limit limit (ref Module) w deep (drop i w) → ⊥
unstopped w k h φ s j l i m n r = let e = drop_place w i k (omega arith) h (stops_det rule firsts nulls r s).1 in omega arith

pub reader_right : ReaderRight
reader_right = record { whole = whole_right; trailing = trailing_right; stopped = stopped_right; deeper = deeper_right }
  where
    whole_right : (w : List ℕ) (t : Program) → Reads rule firsts nulls limit limit (ref Module) w t [] → Accepted w t
    whole_right w t r =
        record {
          all = sym (sound rule firsts nulls r ∙ append-nil (symbols t));
          shallow = λ k s. faults.fits_at limit (marks rule 0 0 t) k s.0 (faults.fitting rule firsts nulls follows rank check (ref Module) tt least limit w [] t r) s.1;
        }

    trailing_right : (w : List ℕ) (t : Program) (k : ℕ) → k < length w → Reads rule firsts nulls limit limit (ref Module) w t (drop k w) → Impossible w k
    trailing_right w t k h r =
        let f = front (symbols t) w k (omega arith) (sound rule firsts nulls r) in
        let r' = subst (λ z. Reads rule firsts nulls limit limit (ref Module) w t z) (drop-cons w k 0 h) r in
        record {
          place = omega arith;
          before = (t, ([], f ∙ sym (append-nil (take k w))));
          dead = λ l b. faults.trailing rule firsts nulls follows rank check (ref Module) tt limit limit w (drop (suc k) w) (get_or w k 0) t r' b.1.0 b.0
              (b.1.1 ∙ ap (λ x. x ++ b.1.0) (take-suc w k 0 h ∙ ap (λ x. x ++ (get_or w k 0 ∷ [])) (sym f)) ∙ append_assoc (symbols t) (get_or w k 0 ∷ []) b.1.0);
          ended = λ e. absurd (omega arith);
          earlier = λ j l s b. no_earlier w j (λ i m n p. not_both rule firsts nulls r p) (omega arith) s b;
        }

    stopped_right : (w : List ℕ) (k : ℕ) → k ≤ length w → Stops rule firsts nulls limit limit (ref Module) w wrong (drop k w) → Impossible w k
    stopped_right w k h s =
        let v = faults.viable rule firsts nulls follows rank check (ref Module) tt least limit limit wrong w k h s in
        record {
          place = h;
          before = (v.1, (v.0, v.2));
          dead = λ l b. faults.dead rule firsts nulls follows rank check (ref Module) tt least limit limit w k h s b.0 (sym (alike b.0 w (suc k) l b.1));
          ended = λ e t q. faults.dead rule firsts nulls follows rank check (ref Module) tt least limit limit w k h s t (ap (take (suc k)) (sym q));
          earlier = λ j l t b. no_earlier w j (unstopped w k h wrong s j l) (omega arith) t b;
        }

    deeper_right : (w : List ℕ) (k : ℕ) → k ≤ length w → Stops rule firsts nulls limit limit (ref Module) w deep (drop k w) → TooDeep w k
    deeper_right w k h s =
        let (l, v) = faults.deep_next rule firsts nulls follows rank check (ref Module) tt least limit w k h s in
        record {
          place = l;
          begun = (v.1, (v.0, v.2));
          always = λ s' b. faults.always rule firsts nulls follows rank check (ref Module) tt least limit w k l s s' (sym (alike s' w (suc k) l b)) (begun_long (suc k) (symbols s') w b.0 l b.1);
          earlier = λ j m t b. no_earlier w j (unstopped w k h deep s j m) (omega arith) t b;
        }

-- a module that begins with the first k symbols begins with the first j
shorter : (w : List ℕ) (t : Program) (j k : ℕ) → j ≤ k → k ≤ length w → BeginsWith t (take k w) → BeginsWith t (take j w)
shorter w t j k h l b =
    (drop j (symbols t), sym (take-append-drop j (symbols t)) ∙ ap (λ x. x ++ drop j (symbols t)) (same_before j k (symbols t) w h (alike t w k l b)))

whole : (w : List ℕ) (t : Program) (k : ℕ) → symbols t ≡ w → BeginsWith t (take k w)
whole w t k e = (drop k w, e ∙ sym (take-append-drop k w))

tree_impossible : (w : List ℕ) (t : Program) (k : ℕ) → Accepted w t → Impossible w k → ⊥
tree_impossible w t k a i =
    elim (dec_lt k (length w)) [
      | yes l ↦ i.dead l (t, whole w t (suc k) a.all)
      | no l ↦ let h = i.place in i.ended (omega arith) t a.all
    ]

tree_deep : (w : List ℕ) (t : Program) (k : ℕ) → Accepted w t → TooDeep w k → ⊥
tree_deep w t k a d = a.shallow k (d.always t (whole w t (suc k) a.all))

impossible_before : (w : List ℕ) (j k : ℕ) → Impossible w j → Impossible w k → j < k → ⊥
impossible_before w j k a b l = let h = b.place in a.dead (omega arith) (b.before.0, shorter w b.before.0 (suc j) k l h b.before.1)

impossible_deep : (w : List ℕ) (j k : ℕ) → Impossible w j → TooDeep w k → ⊥
impossible_deep w j k a b =
    let h = b.place in
    elim (dec_lt k j) [
      | yes l ↦ a.earlier k l b.begun.0 b.begun.1 (b.always b.begun.0 b.begun.1)
      | no l ↦ a.dead (omega arith) (b.begun.0, shorter w b.begun.0 (suc j) (suc k) (omega arith) h b.begun.1)
    ]

deep_before : (w : List ℕ) (j k : ℕ) → TooDeep w j → TooDeep w k → j < k → ⊥
deep_before w j k a b l = b.earlier j l a.begun.0 a.begun.1 (a.always a.begun.0 a.begun.1)

pub one_answer : OneAnswer
one_answer w (tree t) (tree s) a b = ap tree (one_tree t s (a.all ∙ sym b.all))
one_answer w (tree t) (impossible k) a b = absurd (tree_impossible w t k a b)
one_answer w (tree t) (too_deep k) a b = absurd (tree_deep w t k a b)
one_answer w (impossible j) (tree t) a b = absurd (tree_impossible w t j b a)
one_answer w (impossible j) (impossible k) a b =
    elim (dec_lt j k) [
      | yes l ↦ absurd (impossible_before w j k a b l)
      | no l ↦ elim (dec_lt k j) [ yes m ↦ absurd (impossible_before w k j b a m) | no m ↦ ap impossible (omega arith) ]
    ]
one_answer w (impossible j) (too_deep k) a b = absurd (impossible_deep w j k a b)
one_answer w (too_deep j) (tree t) a b = absurd (tree_deep w t j b a)
one_answer w (too_deep j) (impossible k) a b = absurd (impossible_deep w k j b a)
one_answer w (too_deep j) (too_deep k) a b =
    elim (dec_lt j k) [
      | yes l ↦ absurd (deep_before w j k a b l)
      | no l ↦ elim (dec_lt k j) [ yes m ↦ absurd (deep_before w k j b a m) | no m ↦ ap too_deep (omega arith) ]
    ]
