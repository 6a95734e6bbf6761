-- A source is refused with its first fault.
use Rattle.std.proofs.Common.{◌≡◌, ℕ, zero, suc, ◌+◌, ◌-◌, ◌≤◌, true, ◌⊎◌, List, [], ◌∷◌, ◌++◌, length, take, drop, Ok, Err, Result, sym, refl, ap, ◌∙◌, inl, inr, arith}
use Rattle.std.proofs.lemmas.List.{at_drop_all}
use Rattle.std.proofs.lemmas.Bool.{cases_lt, false≢true}
use Rattle.faults.specs.declared.kind.FaultKind.{FaultKind}
use Rattle.faults.specs.declared.kind.FaultKind.TheVariants.{OpenComment, TooManySymbols}
use Rattle.faults.specs.declared.kind.Fault.{Fault}
use Rattle.vocabulary.specs.declared.tag.Tag.{Tag}
use Rattle.lexer.specs.Scan.{Found, fault, end_of, skipped, front_of, placed, symbol_at, thence, symbol_from, symbols_from, symbol_limit, onto}
use Rattle.lexer.specs.Reading.{stretch, opening, Inside, Gap, ReadsTo}
use Rattle.lexer.specs.Reading.ReadsTo.{here, next}
use Rattle.lexer.specs.Refusals.{Unreadable, Wrong, FirstFault, LawfulRefusal}
use Rattle.lexer.specs.Refusals.Unreadable.{unclosed}
use Rattle.lexer.specs.Refusals.Wrong.{unreadable, surplus}
use Rattle.lexer.proofs.Fronts.{err_same, err_ok, stretch_length}
use Rattle.lexer.proofs.Turns.{faulty, ended, no_room, goes_on}
use Rattle.lexer.proofs.Walks.{Halts, walk}
use Rattle.lexer.proofs.Gaps.{no_inner}
use Rattle.lexer.proofs.Unclosed.{skipped_fault, opens_unclosed, gap_unclosed}
use Rattle.lexer.proofs.Unreadables.{front_unreadable, unreadable_front}
use Rattle.lexer.proofs.Readings.{Between, Follows, skipped_between, between_from, from_here, from_follows, follows_from, parts_stretch, stretch_parts, symbol_text}

-- unreadable bytes behind a gap
record Halted (s : List ℕ) (from : ℕ) (e : Fault) : Type 0 where
  pub order : from ≤ e.place
  pub gap : Gap (stretch s from e.place)
  pub wrong : Unreadable e.kind (drop e.place s)

-- a comment that is never closed
open_halted : (s : List ℕ) (from : ℕ) (e : Fault) → skipped 0 0 from (drop from s) ≡ Err e → Halted s from e
open_halted s from e q =
    elim (skipped_fault (walk (drop from s) 0) 0 from e q) [
      | inl f ↦ absurd (omega (arith, f.0))
      | inr k ↦
          let none = no_inner k.comments in
          let parts : drop from s ≡ k.gap ++ k.rest = rw none at k.parts in
          let n : e.place ≡ from + length k.gap = omega (arith, ap length none, k.counts) in
          let p = parts_stretch s from e.place k.gap k.rest parts n in
          record { order = omega arith; gap = rw p.0 k.blanks; wrong = rw (k.behind.0, p.1) (unclosed k.behind.1 (opens_unclosed e k.rest k.behind)) }
    ]

-- bytes that begin no symbol
placed_err : (at : ℕ) (xs : List ℕ) (r : Result (Tag × ℕ) FaultKind) (e : Fault) → placed at xs r ≡ Err e → (k : FaultKind) × (r ≡ Err k) × (fault k at ≡ e)
placed_err at xs (Ok p) e q = absurd (err_ok _ (sym q))
placed_err at xs (Err k) e q = (k, refl, err_same q)

front_halted : (s : List ℕ) (from at : ℕ) (e : Fault) → Between s from at → symbol_at s at ≡ Err e → Halted s from e
front_halted s from at e b q =
    let p = placed_err at (drop at s) (front_of (drop at s)) e q in
    rw (← p.2) record { order = b.order; gap = b.gap; wrong = front_unreadable (drop at s) p.0 (b.bare, b.apart) p.1 }

thence_halted : (s : List ℕ) (from : ℕ) (e : Fault) (r : Result ℕ Fault) → from ≤ length s → skipped 0 0 from (drop from s) ≡ r → thence s r ≡ Err e → Halted s from e
thence_halted s from e (Ok at) h q t = front_halted s from at e (skipped_between s from at 0 h q) t
thence_halted s from e (Err x) h q t = open_halted s from e (q ∙ ap Err (err_same t))

from_halted : (s : List ℕ) (from : ℕ) (e : Fault) → from ≤ length s → symbol_from s from ≡ Err e → Halted s from e
from_halted s from e h q = thence_halted s from e _ h refl (sym (from_here s from h) ∙ q)

-- what no bytes do not have stands in the source
source_left : {Y : Type 0} (F : List ℕ → Y) (y : Y) (s : List ℕ) (at : ℕ) → (F [] ≡ y → ⊥) → F (drop at s) ≡ y → at ≤ length s
source_left F y s at never q =
    elim (cases_lt (length s) at) [
      | inl h ↦ absurd (never (sym (at_drop_all F s at (omega arith)) ∙ q))
      | inr h ↦ h
    ]

halted_open : (s : List ℕ) (from : ℕ) (e : Fault) → from ≤ length s → Halted s from e → e.kind ≡ OpenComment → opening (drop e.place s) ≡ true → ((n : ℕ) → Inside 1 (take n (drop 2 (drop e.place s))) → ⊥) → symbol_from s from ≡ Err e
halted_open s from e h w k o never =
    let within = source_left opening true s e.place false≢true o in
    let place = stretch_length s from e.place w.order within in
    let skips = ap (skipped 0 0 from) (stretch_parts s from e.place w.order) ∙ gap_unclosed w.gap 0 from (drop e.place s) o never in
    from_here s from h ∙ ap (thence s) skips ∙ ap Err (ap (fault OpenComment) (sym place) ∙ ap (λ x. fault x e.place) (sym k))

halted_front : (s : List ℕ) (from : ℕ) (e : Fault) → Halted s from e → Halts (drop e.place s) → front_of (drop e.place s) ≡ Err e.kind → symbol_from s from ≡ Err e
halted_front s from e w h f =
    let within = source_left front_of (Err e.kind) s e.place (λ q. err_ok _ (sym q)) f in
    between_from s from e.place (record { order = w.order; within = within; gap = w.gap; bare = h.0; apart = h.1 }) ∙ ap (placed e.place (drop e.place s)) f

halted_from : (s : List ℕ) (from : ℕ) (e : Fault) → from ≤ length s → Halted s from e → symbol_from s from ≡ Err e
halted_from s from e h w =
    elim (unreadable_front w.wrong) [
      | inl o ↦ halted_open s from e h w o.0 o.1 o.2
      | inr f ↦ halted_front s from e w f.0 f.1
    ]

-- one symbol more before the fault
wrong_more : {s : List ℕ} {room : ℕ} {fs : List Found} {e : Fault} → Wrong s room fs e → (f : Found) → Wrong s (suc room) (f ∷ fs) e
wrong_more (unreadable u) f = unreadable u
wrong_more (surplus n i) f = surplus (ap suc n) i

wrong_less : {s : List ℕ} {f : Found} {fs : List Found} {e : Fault} (room : ℕ) → Wrong s room (f ∷ fs) e → Wrong s (room - 1) fs e
wrong_less room (unreadable u) = unreadable u
wrong_less room (surplus n i) = surplus (omega arith) i

fault_more : (s : List ℕ) (room from : ℕ) (e : Fault) (f : Found) → Follows s from f → FirstFault s room (end_of f) e → FirstFault s (suc room) from e
fault_more s room from e f w r =
    record { before = f ∷ r.before; up_to = r.up_to; symbols = next w.order w.gap w.symbol r.symbols; room = omega (arith, r.room); order = r.order; gap = r.gap; wrong = wrong_more r.wrong f }

fault_here : (s : List ℕ) (room from : ℕ) (e : Fault) → Halted s from e → FirstFault s room from e
fault_here s room from e w =
    record { before = []; up_to = from; symbols = here; room = omega arith; order = w.order; gap = w.gap; wrong = unreadable w.wrong }

fault_surplus : (s : List ℕ) (from : ℕ) (f : Found) → Follows s from f → FirstFault s 0 from (fault TooManySymbols f.place)
fault_surplus s from f w =
    record { before = []; up_to = from; symbols = here; room = omega arith; order = w.order; gap = w.gap; wrong = surplus refl w.symbol }

-- one turn: a fault, or a symbol follows
turn_fault : (room : ℕ) (s : List ℕ) (from : ℕ) (e : Fault) (r : Result Found Fault) → symbol_from s from ≡ r → from ≤ length s → symbols_from room s from ≡ Err e → Halted s from e ⊎ ((f : Found) × (symbol_from s from ≡ Ok f) × Follows s from f)
turn_fault room s from e (Err x) q h k =
    inl (from_halted s from e h (q ∙ ap Err (err_same (sym (faulty room s from x q) ∙ k))))
turn_fault room s from e (Ok f) q h k =
    elim (from_follows s from f h q) [
      | inl o ↦ absurd (err_ok _ (sym k ∙ ended room s from f q o.0))
      | inr w ↦ inr (f, q, w)
    ]

onto_err : (f : Found) (r : Result (List Found) Fault) (e : Fault) → onto f r ≡ Err e → r ≡ Err e
onto_err f (Ok more) e q = absurd (err_ok _ (sym q))
onto_err f (Err x) e q = ap Err (err_same q)

symbols_fault : (room : ℕ) (s : List ℕ) (from : ℕ) (e : Fault) → from ≤ length s → symbols_from room s from ≡ Err e → FirstFault s room from e
symbols_fault zero s from e h k =
    elim (turn_fault zero s from e (symbol_from s from) refl h k) [
      | inl w ↦ fault_here s zero from e w
      | inr t ↦
          let same = err_same (sym (no_room zero s from t.0 refl t.1 (symbol_text s t.0 t.2.symbol)) ∙ k) in
          rw (← same) (fault_surplus s from t.0 t.2)
    ]
symbols_fault (suc room) s from e h k =
    elim (turn_fault (suc room) s from e (symbol_from s from) refl h k) [
      | inl w ↦ fault_here s (suc room) from e w
      | inr t ↦
          let m : suc room - 1 ≡ room = omega arith in
          let g = rw m at (goes_on (suc room) s from t.0 (omega arith) t.1 (symbol_text s t.0 t.2.symbol)) in
          let r = symbols_fault room s (end_of t.0) e t.2.symbol.inside (onto_err t.0 _ e (sym g ∙ k)) in
          fault_more s room from e t.0 t.2 r
    ]

wrong_here : {s : List ℕ} {room : ℕ} {fs : List Found} {e : Fault} → Wrong s room fs e → (from : ℕ) → fs ≡ [] → from ≤ length s → from ≤ e.place → Gap (stretch s from e.place) → symbols_from room s from ≡ Err e
wrong_here {s} {room} (unreadable {e} u) from z h o g = faulty room s from e (halted_from s from e h (record { order = o; gap = g; wrong = u }))
wrong_here {s} {room} (surplus {f} n i) from z h o g =
    no_room room s from f (sym n ∙ ap length z) (follows_from s from f (record { order = o; gap = g; symbol = i })) (symbol_text s f i)

fault_symbols : {s : List ℕ} {from : ℕ} {fs : List Found} {to : ℕ} → ReadsTo s from fs to → (e : Fault) → from ≤ length s → to ≤ e.place → Gap (stretch s to e.place) → (room : ℕ) → length fs ≤ room → Wrong s room fs e → symbols_from room s from ≡ Err e
fault_symbols {s} {from} here e h o g room k w = wrong_here w from refl h o g
fault_symbols {s} (next {from} {to} {f} {fs} p b i r) e h o g room k w =
    goes_on room s from f (omega arith) (follows_from s from f (record { order = p; gap = b; symbol = i })) (symbol_text s f i) ∙ ap (onto f) (fault_symbols r e i.inside o g (room - 1) (omega arith) (wrong_less room w))

-- the law
pub lawful_refusal : (s : List ℕ) → LawfulRefusal s
lawful_refusal s =
    record { sound = λ e q. symbols_fault symbol_limit s 0 e (omega arith) q; complete = λ e f. fault_symbols f.symbols e (omega arith) f.order f.gap symbol_limit f.room f.wrong }
