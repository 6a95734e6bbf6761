use Rattle.std.proofs.Common.{◌≡◌, ℕ, Bool, true, false, not, ◌<◌, T, eqb, List, [], ◌∷◌, length, get_or, drop, sym, ap, ◌∙◌, subst, rules, arith, drop-cons}
use Rattle.std.proofs.lemmas.List.{drop_all}
use Rattle.std.proofs.Math.Bool.{or-false}
use denote.Enum.Bare.{sameb}
use denote.Enum.Declared.{tag_of}
use Rattle.vocabulary.specs.declared.tag.Tag.{Tag}
use Rattle.vocabulary.specs.contracts.tag.Tag.{the_type}
use Rattle.lexer.specs.declared.symbol.SymbolRecord.{SymbolRecord}
use Rattle.grammar.specs.Codes.{code}
use Rattle.grammar.specs.Reader.{hd}
use Rattle.syntax.specs.declared.step.Descent.{Descent}
use Rattle.syntax.specs.Symbols.{tag_codes}
use Rattle.syntax.specs.Steps.{NextIs, ahead}
use Rattle.syntax.proofs.Tags.{tags_long, tag_in}
use Rattle.syntax.proofs.step.Descent.is_next.Goals as goal

tag_code : (t : Tag) → tag_of the_type t ≡ code t
tag_code t = search rules

same_code : (a b : Tag) → sameb the_type a b ≡ eqb (code a) (code b)
same_code a b = search tag_code

-- whether symbol i is there and has the tag
found : (rs : List SymbolRecord) (i : ℕ) (r : SymbolRecord) (t : Tag) → i < length rs → ((d : SymbolRecord) → r ≡ get_or rs i d) → hd (code t ∷ []) (drop i (tag_codes rs)) ≡ sameb the_type r.tag t
found rs i r t l e =
    let n = tags_long rs in
    let h : i < length (tag_codes rs) = omega arith in
    ap (hd (code t ∷ [])) (drop-cons (tag_codes rs) i 0 h) ∙ or-false (eqb (get_or (tag_codes rs) i 0) (code t))
    ∙ ap (λ x. eqb x (code t)) (sym (tag_in rs i r l) ∙ ap (λ x. code x.tag) (sym (e r))) ∙ sym (same_code r.tag t)

next_is : (k : ℕ) (p : Descent) (b : Bool) → hd (k ∷ []) (ahead p) ≡ b → NextIs k p b
next_is k p true e = record { is = subst T (sym e) tt }
next_is k p false e = record { is_not = subst (λ x. T (not x)) (sym e) tt }

pub returns-in-Some : goal.returns-in-Some
returns-in-Some c =
    next_is _ _ _ (found c.args.self.now.symbols.now c.args.self.now.here.at c.in-Some.symbol.now c.args.tag c.in-Some.ensures.lookup.3.0 c.in-Some.ensures.lookup.3.1 ∙ sym c.eq.ensures)

pub returns-in-None : goal.returns-in-None
returns-in-None c =
    let n = tags_long c.args.self.now.symbols.now in
    let l = c.in-None.ensures.lookup.3 in
    next_is _ _ false (ap (hd (code c.args.tag ∷ [])) (drop_all c.args.self.now.here.at (tag_codes c.args.self.now.symbols.now) (omega arith)))
