-- The symbols of a source are those that are read from its start.
use Rattle.std.proofs.Common.{◌≡◌, ℕ, zero, suc, ◌+◌, ◌-◌, ◌<◌, ◌≤◌, min, true, false, ◌⊎◌, List, [], ◌∷◌, ◌++◌, length, get_or, take, drop, Some, Ok, Err, Result, sym, refl, ap, ◌∙◌, inl, inr, arith}
use Rattle.std.proofs.lemmas.List.{take-append-drop, drop-drop, take_at, drop_at, length-take-le, length-drop, length-append, at_drop_all}
use Rattle.std.proofs.lemmas.Bool.{cases_lt, ne_eqb}
use Rattle.faults.specs.declared.kind.FaultKind.{FaultKind}
use Rattle.faults.specs.declared.kind.Fault.{Fault}
use Rattle.vocabulary.specs.declared.tag.Tag.{Tag}
use Rattle.vocabulary.specs.declared.tag.Tag.TheVariants.{EndOfSource}
use Rattle.vocabulary.specs.Characters.{separator}
use Rattle.lexer.specs.Scan.{Found, end_of, ends, skipped, front_of, placed, symbol_at, thence, symbol_from, symbols_from, symbol_limit, onto}
use Rattle.lexer.specs.Reading.{stretch, opening, symbol_tag, Gap, IsSymbol, ReadsTo, Reads, Lawful}
use Rattle.lexer.specs.Reading.ReadsTo.{here, next}
use Rattle.lexer.proofs.Fronts.{ok_same, err_ok, none_some, stretch_length, at_end}
use Rattle.lexer.proofs.Turns.{faulty, ended, no_room, goes_on}
use Rattle.lexer.proofs.Walks.{walk}
use Rattle.lexer.proofs.Gaps.{no_inner, skipped_sound, gap_skipped}
use Rattle.lexer.proofs.Longest.{Longest, front_longest, longest_front, longest_apart}

-- a gap from one place to another, and no separator or comment behind it
pub record Between (s : List ℕ) (from to : ℕ) : Type 0 where
  pub order : from ≤ to
  pub within : to ≤ length s
  pub gap : Gap (stretch s from to)
  pub bare : opening (drop to s) ≡ false
  pub apart : separator (get_or (drop to s) 0 0) ≡ false

-- the bytes from one place on are a stretch and the bytes behind it
pub stretch_parts : (s : List ℕ) (from to : ℕ) → from ≤ to → drop from s ≡ stretch s from to ++ drop to s
stretch_parts s from to h =
    let m : from + (to - from) ≡ to = omega arith in
    sym (take-append-drop (to - from) (drop from s)) ∙ ap (λ l. stretch s from to ++ l) (drop-drop (to - from) from s ∙ ap (λ n. drop n s) m)

-- and where they are a gap and a rest, the stretch is the gap
pub parts_stretch : (s : List ℕ) (from to : ℕ) (gap rest : List ℕ) → drop from s ≡ gap ++ rest → to ≡ from + length gap → (stretch s from to ≡ gap) × (drop to s ≡ rest)
parts_stretch s from to gap rest e n =
    let m : length gap ≡ to - from = omega arith in
    (ap (take (to - from)) e ∙ take_at gap rest (to - from) m, ap (λ k. drop k s) n ∙ sym (drop-drop (length gap) from s) ∙ ap (drop (length gap)) e ∙ drop_at gap rest (length gap) refl)

pub skipped_between : (s : List ℕ) (from to opened : ℕ) → from ≤ length s → skipped 0 opened from (drop from s) ≡ Ok to → Between s from to
skipped_between s from to opened h e =
    let k = skipped_sound (walk (drop from s) 0) opened from to e in
    let none = no_inner k.comments in
    let parts : drop from s ≡ k.gap ++ k.rest = rw none at k.parts in
    let n : to ≡ from + length k.gap = omega (arith, ap length none) in
    let size = simp (length-drop, length-append) at (ap length parts) in
    let p = parts_stretch s from to k.gap k.rest parts n in
    record { order = omega arith; within = omega arith; gap = rw p.0 k.blanks; bare = rw p.1 k.behind.0; apart = rw p.1 k.behind.1 }

between_skipped : (s : List ℕ) (from to opened : ℕ) → Between s from to → skipped 0 opened from (drop from s) ≡ Ok to
between_skipped s from to opened b =
    ap (skipped 0 opened from) (stretch_parts s from to b.order) ∙ gap_skipped b.gap opened from (drop to s) (b.bare, b.apart) ∙ ap Ok (sym (stretch_length s from to b.order b.within))

-- the symbol at a place is the longest in front of the bytes from there on
text_taken : (s : List ℕ) (f : Found) → IsSymbol s f → f.text ≡ take (length f.text) (drop f.place s)
text_taken s f i =
    let m : end_of f - f.place ≡ length f.text = omega arith in
    i.stretches ∙ ap (λ n. take n (drop f.place s)) m

symbol_longest : (s : List ℕ) (f : Found) → IsSymbol s f → Longest (drop f.place s) f.tag (length f.text)
symbol_longest s f i =
    let t = text_taken s f i in
    let n : length (drop f.place s) ≡ length s - f.place = length-drop f.place s in
    record { within = omega (arith, i.inside); tagged = rw (← t) i.tagged; longest = λ m h k. i.longest m h (omega arith); valued = rw (← t) i.valued }

longest_symbol : (s : List ℕ) (at : ℕ) (tag : Tag) (n : ℕ) → at ≤ length s → opening (drop at s) ≡ false → Longest (drop at s) tag n → IsSymbol s (record { tag = tag; place = at; text = take n (drop at s) })
longest_symbol s at tag n h o l =
    let k : length (drop at s) ≡ length s - at = length-drop at s in
    let size : length (take n (drop at s)) ≡ n = length-take-le n (drop at s) l.within in
    let m : at + length (take n (drop at s)) - at ≡ n = omega arith in
    record { inside = omega (arith, l.within); stretches = ap (λ x. take x (drop at s)) (sym m); tagged = l.tagged; longest = λ x p q. l.longest x (omega arith) (omega arith); bare = o; valued = l.valued }

placed_ok : (at : ℕ) (xs : List ℕ) (r : Result (Tag × ℕ) FaultKind) (f : Found) → placed at xs r ≡ Ok f → (p : Tag × ℕ) × (r ≡ Ok p) × (record { tag = p.0; place = at; text = take p.1 xs } ≡ f)
placed_ok at xs (Ok p) f e = (p, refl, ok_same e)
placed_ok at xs (Err k) f e = absurd (err_ok f e)

-- what stands at a place before the end is a symbol
at_symbol : (s : List ℕ) (at : ℕ) (f : Found) → at < length s → opening (drop at s) ≡ false → symbol_at s at ≡ Ok f → IsSymbol s f × (f.place ≡ at)
at_symbol s at f h o e =
    let p = placed_ok at (drop at s) (front_of (drop at s)) f e in
    let n : 0 < length (drop at s) = simp length-drop (omega arith) in
    let i = longest_symbol s at p.0.0 p.0.1 (omega arith) o (front_longest (drop at s) p.0 n p.1) in
    (rw p.2 at i, ap (λ (g : Found). g.place) (sym p.2))

-- and a symbol stands at its place
symbol_found : (s : List ℕ) (f : Found) → IsSymbol s f → symbol_at s f.place ≡ Ok f
symbol_found s f i =
    let xs : List ℕ = drop f.place s in
    ap (placed f.place xs) (longest_front xs f.tag (length f.text) (symbol_longest s f i)) ∙ ap (λ t. Ok (record { tag = f.tag; place = f.place; text = t })) (sym (text_taken s f i))

-- the next symbol behind a place
pub record Follows (s : List ℕ) (from : ℕ) (f : Found) : Type 0 where
  pub order : from ≤ f.place
  pub gap : Gap (stretch s from f.place)
  pub symbol : IsSymbol s f

text_positive : (xs : List ℕ) (tag : Tag) → symbol_tag xs ≡ Some tag → 0 < length xs
text_positive [] tag e = absurd (none_some tag e)
text_positive (x ∷ xs) tag e = omega arith

pub symbol_text : (s : List ℕ) (f : Found) → IsSymbol s f → ends f ≡ false
symbol_text s f i = let p = text_positive f.text f.tag i.tagged in ne_eqb (length f.text) 0 (omega arith)

pub from_here : (s : List ℕ) (from : ℕ) → from ≤ length s → symbol_from s from ≡ thence s (skipped 0 0 from (drop from s))
from_here s from h =
    let m : min from (length s) ≡ from = omega arith in
    ap (λ n. thence s (skipped 0 0 n (drop n s))) m

thence_ok : (s : List ℕ) (r : Result ℕ Fault) (f : Found) → thence s r ≡ Ok f → (at : ℕ) × (r ≡ Ok at) × (symbol_at s at ≡ Ok f)
thence_ok s (Ok at) f e = (at, refl, e)
thence_ok s (Err k) f e = absurd (err_ok f e)

pub between_from : (s : List ℕ) (from to : ℕ) → Between s from to → symbol_from s from ≡ symbol_at s to
between_from s from to b =
    let h : from ≤ length s = omega arith in
    from_here s from h ∙ ap (thence s) (between_skipped s from to 0 b)

from_between : (s : List ℕ) (from : ℕ) (f : Found) → from ≤ length s → symbol_from s from ≡ Ok f → (to : ℕ) × Between s from to × (symbol_at s to ≡ Ok f)
from_between s from f h e =
    let t = thence_ok s _ f (sym (from_here s from h) ∙ e) in
    (t.0, skipped_between s from t.0 0 h t.1, t.2)

-- the first symbol at a place or behind it is the end, with only a gap before it, or the next symbol
pub from_follows : (s : List ℕ) (from : ℕ) (f : Found) → from ≤ length s → symbol_from s from ≡ Ok f → ((ends f ≡ true) × Gap (stretch s from (length s))) ⊎ Follows s from f
from_follows s from f h e =
    let b = from_between s from f h e in
    elim (cases_lt b.0 (length s)) [
      | inl l ↦
          let i = at_symbol s b.0 f l b.1.bare b.2 in
          inr (record { order = omega arith; gap = rw i.1 b.1.gap; symbol = i.0 })
      | inr l ↦
          let n : b.0 ≡ length s = omega arith in
          inl (ap ends (sym (ok_same (sym (at_end s b.0 l) ∙ b.2))), rw n at b.1.gap)
    ]

pub follows_from : (s : List ℕ) (from : ℕ) (f : Found) → Follows s from f → symbol_from s from ≡ Ok f
follows_from s from f w =
    let b : Between s from f.place = record { order = w.order; within = omega (arith, w.symbol.inside); gap = w.gap; bare = w.symbol.bare; apart = longest_apart _ _ _ (symbol_longest s f w.symbol) } in
    between_from s from f.place b ∙ symbol_found s f w.symbol

end_from : (s : List ℕ) (from : ℕ) → from ≤ length s → Gap (stretch s from (length s)) → symbol_from s from ≡ Ok (record { tag = EndOfSource; place = length s; text = [] })
end_from s from h g =
    let b : Between s from (length s) = record { order = h; within = omega arith; gap = g; bare = at_drop_all opening s (length s) (omega arith); apart = at_drop_all (λ xs. separator (get_or xs 0 0)) s (length s) (omega arith) } in
    between_from s from (length s) b ∙ at_end s (length s) (omega arith)

-- one turn: nothing is left, or a symbol follows
turn_sound : (room : ℕ) (s : List ℕ) (from : ℕ) (fs : List Found) (r : Result Found Fault) → symbol_from s from ≡ r → from ≤ length s → symbols_from room s from ≡ Ok fs → ((fs ≡ []) × Gap (stretch s from (length s))) ⊎ ((f : Found) × (symbol_from s from ≡ Ok f) × Follows s from f)
turn_sound room s from fs (Err k) q h e = absurd (err_ok fs (sym (faulty room s from k q) ∙ e))
turn_sound room s from fs (Ok f) q h e =
    elim (from_follows s from f h q) [
      | inl o ↦ inl (ok_same (sym e ∙ ended room s from f q o.0), o.1)
      | inr w ↦ inr (f, q, w)
    ]

onto_ok : (f : Found) (r : Result (List Found) Fault) (fs : List Found) → onto f r ≡ Ok fs → (more : List Found) × (r ≡ Ok more) × (f ∷ more ≡ fs)
onto_ok f (Ok more) fs e = (more, refl, ok_same e)
onto_ok f (Err k) fs e = absurd (err_ok fs e)

reads_none : (s : List ℕ) (from room : ℕ) (fs : List Found) → (fs ≡ []) × Gap (stretch s from (length s)) → Reads s from fs × (length fs ≤ room)
reads_none s from room fs o = rw o.0 (record { up_to = from; symbols = here; rest = o.1 }, omega arith)

symbols_read : (room : ℕ) (s : List ℕ) (from : ℕ) (fs : List Found) → from ≤ length s → symbols_from room s from ≡ Ok fs → Reads s from fs × (length fs ≤ room)
symbols_read zero s from fs h e =
    elim (turn_sound zero s from fs (symbol_from s from) refl h e) [
      | inl o ↦ reads_none s from zero fs o
      | inr t ↦ absurd (err_ok fs (sym (no_room zero s from t.0 refl t.1 (symbol_text s t.0 t.2.symbol)) ∙ e))
    ]
symbols_read (suc room) s from fs h e =
    elim (turn_sound (suc room) s from fs (symbol_from s from) refl h e) [
      | inl o ↦ reads_none s from (suc room) fs o
      | inr t ↦
          let m : suc room - 1 ≡ room = omega arith in
          let g = rw m at (goes_on (suc room) s from t.0 (omega arith) t.1 (symbol_text s t.0 t.2.symbol)) in
          let o = onto_ok t.0 (symbols_from room s (end_of t.0)) fs (sym g ∙ e) in
          let r = symbols_read room s (end_of t.0) o.0 t.2.symbol.inside o.1 in
          rw (← o.2) (record { up_to = r.0.up_to; symbols = next t.2.order t.2.gap t.2.symbol r.0.symbols; rest = r.0.rest }, omega (arith, r.1))
    ]

read_symbols : {s : List ℕ} {from : ℕ} {fs : List Found} {to : ℕ} → ReadsTo s from fs to → Gap (stretch s to (length s)) → from ≤ length s → (room : ℕ) → length fs ≤ room → symbols_from room s from ≡ Ok fs
read_symbols {s} {from} here g h room k = ended room s from _ (end_from s from h g) refl
read_symbols {s} (next {from} {to} {f} {fs} o p i r) g h room k =
    let w : Follows s from f = record { order = o; gap = p; symbol = i } in
    goes_on room s from f (omega arith) (follows_from s from f w) (symbol_text s f i) ∙ ap (onto f) (read_symbols r g i.inside (room - 1) (omega arith))

-- the law
pub lawful : (s : List ℕ) → Lawful s
lawful s =
    record { sound = λ fs e. symbols_read symbol_limit s 0 fs (omega arith) e; complete = λ fs r h. read_symbols r.symbols r.rest (omega arith) symbol_limit h }
