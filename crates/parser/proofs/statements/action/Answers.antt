use Rattle.std.proofs.Common.{refl, sym, ap, arith, rules, inl, inr, ◌∙◌, ◌≡◌, ◌∷◌, [], ◌⊎◌, List, ℕ}
use Rattle.grammar.specs.Codes.{code}
use Rattle.grammar.specs.Language.{Action}
use Rattle.syntax.specs.Actions.{act}
use Rattle.syntax.specs.Forms.{assigned}
use Rattle.syntax.specs.Steps.{On, Off}
use Rattle.syntax.specs.Symbols.{word_length, place_of}
use Rattle.std.proofs.Common.{T}
use Rattle.lexer.specs.declared.symbol.SymbolRecord.{SymbolRecord}
use Rattle.grammar.specs.Ebnf.{mem}
use Rattle.syntax.specs.Syntax.{Syntax}
use Rattle.syntax.proofs.Joins.{did, did_expect, did_inl, did_inr, did_map, did_node, did_push, did_seq, fails, fails_expect, fails_first, fails_left, fails_node, fails_right, fails_then, goes_as, goes_ok, goes_out, length_is, off_by, on_by, place_is, rooted}
use Rattle.syntax.proofs.Lays.{entry_same, lays_as, lays_passed, passed_none, unary_lays}
use Rattle.parser.proofs.statements.action.Goals as goal

-- an assignment to a name
assigned_is : (s : List ℕ) (rs : List SymbolRecord) (i : ℕ) (v : (Syntax ⊎ Unit {0}) × (ℕ × Syntax)) → assigned s rs (place_of rs i) (word_length s (place_of rs i)) v ≡ act s rs Action (i, inl v)
assigned_is s rs i (inl x, p) = refl
assigned_is s rs i (inr u, p) = refl

pub returns-in_err-name : goal.returns-in_err-name
returns-in_err-name c e = goes_out c.from_residual.ensures.1 (fails_node (fails_first (fails_expect c.in_err-name.ensures)))

pub returns-in-OpenSquare : goal.returns-in-OpenSquare
returns-in-OpenSquare c e =
    let s = c.args.descent.now.source.now in
    let rs = c.args.descent.now.symbols.now in
    let m : T (mem (code c.next.result) (60 ∷ (52 ∷ []))) = elim c.in-OpenSquare.is [ inl h ↦ rw h tt | inr h ↦ rw h tt ] in
    let n = c.in_ok-name.ensures in
    let o : On c.expect.new.self (60 ∷ (52 ∷ [])) = on_by (code c.next.result) c.next.ensures.coded tt m in
    goes_as
    (λ a. did_node (did_map
    (λ v g x.
    let y = x.two in
    lays_as (ap (λ z. act s rs Action (v.0, z)) y.is ∙ sym (ap (λ r. assigned s rs r.place (word_length s r.place) y.part) x.one.symbol ∙ assigned_is s rs v.0 y.part)) (lays_passed x.one.passed y.wrote))
    (did_seq (did_expect n) (did_inl o a))))
    (λ z a. fails_node (fails_then (did_expect n) (fails_left o a))) (c.assignment.ensures e)

pub returns-in_err-part-in_default : goal.returns-in_err-part-in_default
returns-in_err-part-in_default c e =
    let o : Off c.expect.new.self (60 ∷ (52 ∷ [])) = off_by (code c.next.result) c.next.ensures.coded tt (search rules) in
    goes_out c.from_residual-in_err-part-in_default.ensures.1 (fails_node (fails_then (did_expect c.in_ok-name.ensures) (fails_right o (fails (c.in_err-part-in_default.ensures e)))))

pub returns-in_ok-part-in_default : goal.returns-in_ok-part-in_default
returns-in_ok-part-in_default c e =
    let s = c.args.descent.now.source.now in
    let rs = c.args.descent.now.symbols.now in
    let o : Off c.expect.new.self (60 ∷ (52 ∷ [])) = off_by (code c.next.result) c.next.ensures.coded tt (search rules) in
    let n = c.in_ok-name.ensures in
    let a = c.in_ok-part-in_default.ensures e in
    goes_ok c.push.ensures.is (did_node (did_map
    (λ v g x.
    let y = x.one in
    let z = y.two in
    lays_as (ap (λ q. act s rs Action (v.0, q)) z.is)
    (unary_lays {m = 1} {n = 0} y.one.passed z.wrote passed_none x.two
    (entry_same c.placed.ensures refl (place_is y.one) (length_is n.1.keeps y.one c.word_length-length.ensures) (rooted a) refl) 0 (omega arith)))
    (did_push (did_seq (did_expect n) (did_inr o (did a))) c.push.ensures)))
