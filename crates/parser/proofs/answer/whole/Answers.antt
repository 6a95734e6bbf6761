use Rattle.std.proofs.Common.{◌≡◌, ℕ, List, ◌++◌, Ok, Err, Result, length, take, drop, sym, ap, ◌∙◌, subst, subst₂, arith}
use Rattle.std.proofs.lemmas.List.{drop_all}
use Rattle.std.proofs.lemmas.Result.{err_from_is_err_and}
use Rattle.lexer.specs.declared.symbol.SymbolRecord.{SymbolRecord}
use Rattle.grammar.specs.Ebnf.{ref}
use Rattle.grammar.specs.Reader.{Reads, wrong, deep}
use Rattle.grammar.specs.Language.{Module, rule}
use Rattle.grammar.specs.Sets.{firsts, nulls}
use Rattle.grammar.specs.Claims.{limit}
use Rattle.grammar.proofs.Claimed.{reader_right}
use Rattle.syntax.specs.declared.step.Cursor.{Cursor}
use Rattle.syntax.specs.declared.step.Descent.{Descent}
use Rattle.syntax.specs.declared.step.Stop.{Stop}
use Rattle.syntax.specs.declared.step.Stop.TheVariants as stops
use Rattle.syntax.specs.declared.tree.TreeRecord.{TreeRecord}
use Rattle.syntax.specs.Symbols.{tag_codes}
use Rattle.syntax.specs.Value.{value}
use Rattle.syntax.specs.Actions.{act}
use Rattle.syntax.specs.Syntax.{Syntax, size, lay}
use Rattle.syntax.specs.Steps.{Finishes}
use Rattle.syntax.specs.Post.{Lays, Bad, Did, Made, Fails}
use Rattle.syntax.proofs.Joins.{did, fails}
use Rattle.syntax.proofs.Tags.{tags_long}
use Rattle.parser.specs.Parsing.{Descends, Found}
use Rattle.parser.proofs.answer.whole.Goals as goal

-- where a descent begins
record Begins (s : List ℕ) (rs : List SymbolRecord) (p : Descent) : Type 0 where
  source : p.source.now ≡ s
  symbols : p.symbols.now ≡ rs
  at : p.here.at ≡ 0
  used : p.here.used ≡ 0

-- a stop of the descent
stopped : {s : List ℕ} {rs : List SymbolRecord} {p p' : Descent} (t t' : List TreeRecord) (k : Stop) → Begins s rs p → Fails limit limit (ref Module) p k p' → Descends s rs t (Err k) t'
stopped {rs} {p} t t' (stops.Impossible k) b f =
    let r = subst₂ (λ x i. Bad limit limit wrong (ref Module) (tag_codes x) i k) b.symbols b.at f.refused in
    reader_right.stopped (tag_codes rs) k (r.inside (omega arith)) r.stops
stopped {rs} {p} t t' (stops.TooDeep k) b f =
    let r = subst₂ (λ x i. Bad limit limit deep (ref Module) (tag_codes x) i k) b.symbols b.at f.refused in
    reader_right.deeper (tag_codes rs) k (r.inside (omega arith)) r.stops

-- a module that was read, with or without symbols behind it
finished : {s : List ℕ} {rs : List SymbolRecord} {p p' : Descent} (t t' : List TreeRecord) (r : Result Cursor Stop) → Begins s rs p → Did limit limit (ref Module) (λ s rs v. Lays 0 v) p p' → Finishes p' r → t' ≡ p'.tree.now → Descends s rs t r t'
finished {s} {rs} {p} {p'} t t' (Ok c) b a (f, z) e =
    let m = subst₂ (λ x y. Made x y limit limit (ref Module) (Lays 0) p.here p.tree.now p'.here p'.tree.now) b.source b.symbols a.made in
    let l = tags_long rs in
    let o = b.at in
    let u = b.used in
    let j : length p'.symbols.now ≡ length rs = ap length (a.keeps.symbols ∙ b.symbols) in
    let i = m.got.within (omega arith) in
    let k = m.wrote.few in
    let v : value rule Syntax (act s rs) m.got.tree 0 ≡ m.val = ap (value rule Syntax (act s rs) m.got.tree) (sym o) ∙ m.got.is in
    subst₂ (λ x y. Found s rs x y) (sym z) (sym e) (record {
      program = m.got.tree;
      accepted = reader_right.whole (tag_codes rs) m.got.tree (subst₂ (λ x y. Reads rule firsts nulls limit limit (ref Module) (drop x (tag_codes rs)) m.got.tree y) o (drop_all p'.here.at (tag_codes rs) (omega arith)) m.got.reads);
      few = omega arith;
      count = λ r. let h = m.wrote.laid.count r in (h ∙ omega arith) ∙ sym (ap size v);
      laid = λ r. m.wrote.laid.laid r ∙ ap (λ n. take n p.tree.now ++ lay m.val n) u ∙ sym (ap (λ x. lay x 0) v);
    })
finished {s} {rs} {p} {p'} t t' (Err k) b a (f, z) e =
    let m = subst₂ (λ x y. Made x y limit limit (ref Module) (Lays 0) p.here p.tree.now p'.here p'.tree.now) b.source b.symbols a.made in
    let l = tags_long rs in
    let o = b.at in
    let j : length p'.symbols.now ≡ length rs = ap length (a.keeps.symbols ∙ b.symbols) in
    subst (λ x. Descends s rs t (Err x) t') (sym z)
    (reader_right.trailing (tag_codes rs) m.got.tree p'.here.at (omega arith) (subst (λ x. Reads rule firsts nulls limit limit (ref Module) (drop x (tag_codes rs)) m.got.tree (drop p'.here.at (tag_codes rs))) o m.got.reads))

pub returns-in_err-module : goal.returns-in_err-module
returns-in_err-module c =
    let q = err_from_is_err_and c.from_residual.result c.from_residual.ensures.1 in
    let n = c.new-descent.ensures in
    rw (q.1, q.2) (stopped c.args.tree.now _ c.in_err-module.field-0.0 (record { source = n.read.0; symbols = n.read.1; at = n.here.0; used = n.here.1 }) (fails c.in_err-module.ensures))

pub returns : goal.returns
returns c =
    let n = c.new-descent.ensures in
    let a = did c.in_ok-module.ensures in
    let l = a.keeps.lent ∙ n.lent.1 in
    finished c.args.tree.now _ c.finish.result (record { source = n.read.0; symbols = n.read.1; at = n.here.0; used = n.here.1 }) a c.finish.ensures (grind (arith, l))
