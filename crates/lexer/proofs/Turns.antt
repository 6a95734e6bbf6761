-- One symbol more in the list of records.
use Rattle.std.proofs.Common.{◌≡◌, ℕ, zero, suc, ◌+◌, ◌-◌, ◌<◌, ◌≤◌, Bool, true, false, List, [], ◌∷◌, ◌++◌, length, take, drop, set, Some, None, Ok, Err, Result, sym, refl, ap, ◌∙◌, arith, le-ltb}
use Rattle.std.proofs.lemmas.List.{take_more_set, append_assoc, drop-drop}
use Rattle.faults.specs.declared.kind.FaultKind.TheVariants.{TooManySymbols}
use Rattle.faults.specs.declared.kind.Fault.{Fault}
use Rattle.lexer.specs.declared.symbol.SymbolRecord.{SymbolRecord}
use Rattle.lexer.specs.declared.symbol.Symbol.{Symbol}
use Rattle.lexer.specs.declared.symbol.Symbol.TheVariants as cases
use Rattle.lexer.specs.Scan.{Found, is_end, byte_limit, fault, symbol_from, symbols_from, end_of, ends, onto, full, followed}
use Rattle.lexer.specs.Records.{record_of, recorded, records_of, kept}

abbrev pub Records : Type 0
Records = Result (List SymbolRecord) Fault

-- records in front of the others
abbrev pub behind : List SymbolRecord → Records → Records
behind xs (Ok ys) = Ok (xs ++ ys)
behind xs (Err e) = Err e

behind_behind : (xs ys : List SymbolRecord) (r : Records) → behind xs (behind ys r) ≡ behind (xs ++ ys) r
behind_behind xs ys (Ok zs) = ap Ok (sym (append_assoc xs ys zs))
behind_behind xs ys (Err e) = refl

-- a record is kept of all but the end
pub kept_none : (end : Bool) (f : Found) → None ≡ kept end f → end ≡ true
kept_none true f e = refl
kept_none false f e = cc

pub kept_some : (end : Bool) (f : Found) (r : SymbolRecord) → Some r ≡ kept end f → (end ≡ false) × (r ≡ record_of f)
kept_some true f r e = (cc, cc)
kept_some false f r e = (refl, cc)

pub not_end : (symbol : Symbol) → (symbol ≡ cases.End → ⊥) → is_end symbol ≡ false
not_end (cases.Reserved tag text) h = refl
not_end (cases.Identifier text) h = refl
not_end (cases.Number text) h = refl
not_end (cases.Sign tag text) h = refl
not_end cases.End h = absurd (h refl)

pub faulty : (n : ℕ) (s : List ℕ) (at : ℕ) (e : Fault) → symbol_from s at ≡ Err e → symbols_from n s at ≡ Err e
unfolding symbols_from
faulty zero s at e h = ap full h
faulty (suc n) s at e h = ap (λ x. followed x (λ f. symbols_from n s (end_of f))) h

pub ended : (n : ℕ) (s : List ℕ) (at : ℕ) (f : Found) → symbol_from s at ≡ Ok f → ends f ≡ true → symbols_from n s at ≡ Ok []
unfolding symbols_from
ended zero s at f h e = ap full h ∙ rw e refl
ended (suc n) s at f h e = ap (λ x. followed x (λ f. symbols_from n s (end_of f))) h ∙ rw e refl

pub no_room : (n : ℕ) (s : List ℕ) (at : ℕ) (f : Found) → n ≡ 0 → symbol_from s at ≡ Ok f → ends f ≡ false → symbols_from n s at ≡ Err (fault TooManySymbols f.place)
unfolding symbols_from
no_room zero s at f z h e = ap full h ∙ rw e refl
no_room (suc n) s at f z h e = absurd (omega arith)

pub goes_on : (n : ℕ) (s : List ℕ) (at : ℕ) (f : Found) → 0 < n → symbol_from s at ≡ Ok f → ends f ≡ false → symbols_from n s at ≡ onto f (symbols_from (n - 1) s (end_of f))
unfolding symbols_from
goes_on zero s at f z h e = absurd (omega arith)
goes_on (suc n) s at f z h e =
    let m : suc n - 1 ≡ n = omega arith in
    rw m (ap (λ x. followed x (λ f. symbols_from n s (end_of f))) h ∙ rw e refl)

recorded_onto : (f : Found) (r : Result (List Found) Fault) → recorded (onto f r) ≡ behind (record_of f ∷ []) (recorded r)
recorded_onto f (Ok fs) = refl
recorded_onto f (Err e) = refl

-- one turn: a record more
pub turn : (s : List ℕ) (rs : List SymbolRecord) (n at : ℕ) (f : Found) (r : SymbolRecord) (all : Records) → n < length rs → symbol_from s at ≡ Ok f → ends f ≡ false → r ≡ record_of f → behind (take n rs) (recorded (symbols_from (length rs - n) s at)) ≡ all → behind (take (n + 1) (set rs n r)) (recorded (symbols_from (length rs - (n + 1)) s (end_of f))) ≡ all
turn s rs n at f r all h e k q i =
    let m : length rs - n - 1 ≡ length rs - (n + 1) = omega arith in
    let p : 0 < length rs - n = omega arith in
    let g = rw m at (goes_on (length rs - n) s at f p e k) in
    rw (q, take_more_set rs n (record_of f) h) (sym (behind_behind (take n rs) (record_of f ∷ []) _) ∙ ap (behind (take n rs)) (sym (recorded_onto f _) ∙ ap recorded (sym g)) ∙ i)

-- what is kept of the source, where it is known of the symbols behind the first n
pub told : (s : List ℕ) (rs : List SymbolRecord) (limit n at : ℕ) (r : Result (List Found) Fault) → length s ≤ byte_limit → limit ≡ length rs → behind (take n rs) (recorded (symbols_from (length rs - n) s at)) ≡ recorded (symbols_from (length rs) s 0) → symbols_from (length rs - n) s at ≡ r → records_of limit s ≡ behind (take n rs) (recorded r)
told s rs limit n at r k l i e =
    rw (le-ltb byte_limit (length s) k) (ap (λ m. recorded (symbols_from m s 0)) l ∙ sym i ∙ ap (λ x. behind (take n rs) (recorded x)) e)

-- lists that agree from a place on agree from a later one on
pub later : (xs ys : List SymbolRecord) (a b : ℕ) → a ≤ b → drop a xs ≡ drop a ys → drop b xs ≡ drop b ys
later xs ys a b h e =
    let m : a + (b - a) ≡ b = omega arith in
    ap (λ k. drop k xs) (sym m) ∙ sym (drop-drop (b - a) a xs) ∙ ap (drop (b - a)) e ∙ drop-drop (b - a) a ys ∙ ap (λ k. drop k ys) m
