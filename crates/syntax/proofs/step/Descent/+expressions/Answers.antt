use Rattle.std.proofs.Common.{◌≡◌, ℕ, ◌-◌, ◌⊎◌, List, [], ◌∷◌, sym, refl, ap, ◌∙◌, inl, inr, arith, rules}
use Rattle.vocabulary.specs.declared.tag.Tag.TheVariants.{EndOfSource}
use Rattle.grammar.specs.Codes.{code}
use Rattle.grammar.specs.Language.{Expr}
use Rattle.lexer.specs.declared.symbol.SymbolRecord.{SymbolRecord}
use Rattle.syntax.specs.declared.tree.NodeKind.TheVariants as kind
use Rattle.syntax.specs.Symbols.{place_of, word_length}
use Rattle.syntax.specs.Syntax.{Syntax, label}
use Rattle.syntax.specs.Actions.{act, signed, designator}
use Rattle.syntax.specs.Forms.{selected, relations, additions, multiplications, signs}
use Rattle.syntax.specs.Steps.{On, Off, root}
use Rattle.syntax.proofs.Joins.{did, fails, rooted, goes_as, goes_ok, goes_out, did_map, did_node, did_left, did_right, did_inl, did_inr, did_none, did_turn, did_seq, did_on, did_expect, did_around, did_push, did_keeps, did_shrinks, on_falls, fails_first, fails_then, fails_left, fails_right, fails_node, fails_turn, fails_cons, fails_expect, fails_open, fails_around, tag_is, place_is, on_by, off_by, on_class, off_class}
use Rattle.syntax.proofs.Lays.{lays_as, lays_more, lays_passed, lays_close, lays_spend, leaf_adds, unary_lays, binary_lays, extends_item, passed_none, entry_same}
use Rattle.syntax.proofs.Parts.{leads_item, leads_end, leads_first, leads_next, fails_items, fails_next, next_falls, goes_no_items}
use Rattle.syntax.proofs.step.Descent.+expressions.Goals as goal

-- a name and what stands behind it
selected_is : (s : List ℕ) (rs : List SymbolRecord) (i : ℕ) (v : (Syntax ⊎ Syntax) ⊎ Unit {0}) → selected (place_of rs i) (word_length s (place_of rs i)) v ≡ designator s rs i v
selected_is s rs i (inl (inl x)) = refl
selected_is s rs i (inl (inr a)) = refl
selected_is s rs i (inr u) = refl

pub expr-returns-in_err-left : goal.expr-returns-in_err-left
expr-returns-in_err-left t c e = goes_out c.from_residual.ensures.1 (fails_node (fails_first (fails (c.in_err-left.ensures e))))

pub expr-returns-then-not-is_relation : goal.expr-returns-then-not-is_relation
expr-returns-then-not-is_relation t c e =
    let s = c.args.self.now.source.now in
    let rs = c.args.self.now.symbols.now in
    let a = c.in_ok-left.ensures e in
    goes_ok (rooted a) (did_node (did_map (λ v g x. lays_as (ap (λ z. act s rs Expr (v.0, z)) x.two.is) (lays_close x.one x.two.wrote 0 (omega arith)))
    (did_seq (did a) (did_inr (off_class c.next.ensures.coded c.is_relation.ensures c.if-not-is_relation.true tt) (did_none refl)))))

pub expr-sum-requires-2 : goal.expr-sum-requires-2
expr-sum-requires-2 t c =
    let o : On c.sum.new.self relations = on_class c.next.ensures.coded c.is_relation.ensures c.if-not-is_relation.false tt in
    let h = on_falls c.pass-operator.ensures o in
    let i = did_keeps (did (c.in_ok-left.ensures 0)) in
    (omega arith, tt)

pub expr-returns-in_err-right : goal.expr-returns-in_err-right
expr-returns-in_err-right t c e =
    let o : On c.sum.new.self relations = on_class c.next.ensures.coded c.is_relation.ensures c.if-not-is_relation.false tt in
    goes_out c.from_residual-in_err-right.ensures.1 (fails_node (fails_then (did (c.in_ok-left.ensures e)) (fails_left o (fails_then (did_on c.pass-operator.ensures o) (fails (c.in_err-right.ensures e))))))

pub expr-returns : goal.expr-returns
expr-returns t c e =
    let s = c.args.self.now.source.now in
    let rs = c.args.self.now.symbols.now in
    let o : On c.sum.new.self relations = on_class c.next.ensures.coded c.is_relation.ensures c.if-not-is_relation.false tt in
    let a = c.in_ok-left.ensures e in
    let b = c.in_ok-right.ensures e in
    goes_ok c.push.ensures.is (did_node (did_map
    (λ v g x.
    let y = x.one in
    let z = y.two.wrote in
    lays_as (ap (λ q. act s rs Expr (v.0, q)) y.two.is)
    (binary_lays y.one z.one.passed z.two x.two (entry_same c.binary.ensures (tag_is z.one) (place_is z.one) refl (rooted a) (rooted b)) 0 (omega arith)))
    (did_push (did_seq (did a) (did_inl o (did_seq (did_on c.pass-operator.ensures o) (did b)))) c.push.ensures)))

pub sum-returns-in_err-all : goal.sum-returns-in_err-all
sum-returns-in_err-all t c e = goes_out c.from_residual.ensures.1 (fails_node (fails_turn (fails_first (fails (c.in_err-all.ensures e)))))

pub sum-loop-self-init : goal.sum-loop-self-init
sum-loop-self-init t c =
    record {
      leads = λ e.
          let a = c.in_ok-all.ensures e in
          record {
            on = λ p' b. did_node (did_turn (did_map (λ v g x. lays_more x.one x.two) (did_seq (did a) b)));
            off = λ k p' b. fails_node (fails_turn (fails_then (did a) b));
          };
      all = rooted (c.in_ok-all.ensures 0);
      left = did_keeps (did (c.in_ok-all.ensures 0));
    }

pub sum-returns-in_err-right : goal.sum-returns-in_err-right
sum-returns-in_err-right t c e =
    let o : On c.loop-self.self additions = on_class c.next.ensures.coded c.is_addition.ensures c.loop-self-test.true tt in
    let i = c.loop-self.invariant.leads e in
    goes_out c.from_residual-in_err-right.ensures.1 (i.off _ _ (fails_cons o (fails_first (fails_then (did_on c.pass-operator.ensures o) (fails (c.in_err-right.ensures e))))))

pub sum-loop-self-smaller : goal.sum-loop-self-smaller
sum-loop-self-smaller t c =
    let o : On c.loop-self.self additions = on_class c.next.ensures.coded c.is_addition.ensures c.loop-self-test.true tt in
    did_shrinks tt o (did_push (did_seq (did_on {e = 0} c.pass-operator.ensures o) (did (c.in_ok-right.ensures 0))) c.push-all.ensures)

pub sum-loop-self-preserved : goal.sum-loop-self-preserved
sum-loop-self-preserved t c =
    let o : On c.loop-self.self additions = on_class c.next.ensures.coded c.is_addition.ensures c.loop-self-test.true tt in
    let i = c.loop-self.invariant in
    record {
      leads = λ e.
          let a = c.in_ok-right.ensures e in
          leads_item (i.leads e) o (did_map
          (λ v g x. extends_item x.one.one.passed x.one.two x.two (entry_same c.binary.ensures (tag_is x.one.one) (place_is x.one.one) refl i.all (rooted a)) 0 (omega arith))
          (did_push (did_seq (did_on c.pass-operator.ensures o) (did a)) c.push-all.ensures));
      all = c.push-all.ensures.is;
      left =
          let h = i.left in
          let j = did_keeps (did_push (did_seq (did_on {e = 0} c.pass-operator.ensures o) (did (c.in_ok-right.ensures 0))) c.push-all.ensures) in
          omega arith;
    }

pub sum-returns : goal.sum-returns
sum-returns t c e =
    let i = c.loop-self.invariant in
    goes_ok i.all (leads_end (i.leads e) (off_class c.next.ensures.coded c.is_addition.ensures c.loop-self-test.false tt) refl)

pub signed_term-returns-then-not-is_sign : goal.signed_term-returns-then-not-is_sign
signed_term-returns-then-not-is_sign t c e =
    let s = c.args.self.now.source.now in
    let rs = c.args.self.now.symbols.now in
    let o : Off c.args.self.now signs = off_class c.next.ensures.coded c.is_sign.ensures c.if-not-is_sign.true tt in
    goes_as
    (λ a. did_map (λ v g x. lays_as (ap (λ y. signed s rs y v.1) x.one.is) (lays_passed x.one.wrote x.two)) (did_seq (did_inr o (did_none refl)) a))
    (λ z a. fails_then (did_inr o (did_none refl)) a) (c.term.ensures e)

pub signed_term-returns-in_err-operand : goal.signed_term-returns-in_err-operand
signed_term-returns-in_err-operand t c e =
    let o : On c.args.self.now signs = on_class c.next.ensures.coded c.is_sign.ensures c.if-not-is_sign.false tt in
    goes_out c.from_residual.ensures.1 (fails_then (did_inl o (did_on c.pass-sign.ensures o)) (fails (c.in_err-operand.ensures e)))

pub signed_term-returns : goal.signed_term-returns
signed_term-returns t c e =
    let s = c.args.self.now.source.now in
    let rs = c.args.self.now.symbols.now in
    let o : On c.args.self.now signs = on_class c.next.ensures.coded c.is_sign.ensures c.if-not-is_sign.false tt in
    let a = c.in_ok-operand.ensures e in
    goes_ok c.push.ensures.is (did_map
    (λ v g x.
    let y = x.one in
    lays_as (ap (λ z. signed s rs z v.1) y.one.is)
    (unary_lays {n = 0} y.one.wrote.passed y.two passed_none x.two (entry_same c.node.ensures (tag_is y.one.wrote) (place_is y.one.wrote) refl (rooted a) refl) 0 (omega arith)))
    (did_push (did_seq (did_inl o (did_on c.pass-sign.ensures o)) (did a)) c.push.ensures))

pub term-returns-in_err-all : goal.term-returns-in_err-all
term-returns-in_err-all t c e = goes_out c.from_residual.ensures.1 (fails_node (fails_first (fails (c.in_err-all.ensures e))))

pub term-loop-self-init : goal.term-loop-self-init
term-loop-self-init t c =
    record {
      leads = λ e.
          let a = c.in_ok-all.ensures e in
          record {
            on = λ p' b. did_node (did_map (λ v g x. lays_more x.one x.two) (did_seq (did a) b));
            off = λ k p' b. fails_node (fails_then (did a) b);
          };
      all = rooted (c.in_ok-all.ensures 0);
      left = did_keeps (did (c.in_ok-all.ensures 0));
    }

pub term-returns-in_err-right : goal.term-returns-in_err-right
term-returns-in_err-right t c e =
    let o : On c.loop-self.self multiplications = on_class c.next.ensures.coded c.is_multiplication.ensures c.loop-self-test.true tt in
    let i = c.loop-self.invariant.leads e in
    goes_out c.from_residual-in_err-right.ensures.1 (i.off _ _ (fails_cons o (fails_first (fails_then (did_on c.pass-operator.ensures o) (fails (c.in_err-right.ensures e))))))

pub term-loop-self-smaller : goal.term-loop-self-smaller
term-loop-self-smaller t c =
    let o : On c.loop-self.self multiplications = on_class c.next.ensures.coded c.is_multiplication.ensures c.loop-self-test.true tt in
    did_shrinks tt o (did_push (did_seq (did_on {e = 0} c.pass-operator.ensures o) (did (c.in_ok-right.ensures 0))) c.push-all.ensures)

pub term-loop-self-preserved : goal.term-loop-self-preserved
term-loop-self-preserved t c =
    let o : On c.loop-self.self multiplications = on_class c.next.ensures.coded c.is_multiplication.ensures c.loop-self-test.true tt in
    let i = c.loop-self.invariant in
    record {
      leads = λ e.
          let a = c.in_ok-right.ensures e in
          leads_item (i.leads e) o (did_map
          (λ v g x. extends_item x.one.one.passed x.one.two x.two (entry_same c.binary.ensures (tag_is x.one.one) (place_is x.one.one) refl i.all (rooted a)) 0 (omega arith))
          (did_push (did_seq (did_on c.pass-operator.ensures o) (did a)) c.push-all.ensures));
      all = c.push-all.ensures.is;
      left =
          let h = i.left in
          let j = did_keeps (did_push (did_seq (did_on {e = 0} c.pass-operator.ensures o) (did (c.in_ok-right.ensures 0))) c.push-all.ensures) in
          omega arith;
    }

pub term-returns : goal.term-returns
term-returns t c e =
    let i = c.loop-self.invariant in
    goes_ok i.all (leads_end (i.leads e) (off_class c.next.ensures.coded c.is_multiplication.ensures c.loop-self-test.false tt) refl)

pub factor-returns-in-Number : goal.factor-returns-in-Number
factor-returns-in-Number t c e =
    let k = c.in-Number.ensures.coded in
    goes_as (λ a. did_node (did_left (on_by 42 k tt tt) a)) (λ z a. fails_node (fails_left (on_by 42 k tt tt) a)) (c.numeral.ensures c.args.room e)

pub factor-returns-in-OpenCurly : goal.factor-returns-in-OpenCurly
factor-returns-in-OpenCurly t c e =
    let k = c.in-OpenCurly.ensures.coded in
    goes_as (λ a. did_node (did_right (off_by 62 k tt tt) (did_left (on_by 62 k tt tt) a))) (λ z a. fails_node (fails_right (off_by 62 k tt tt) (fails_left (on_by 62 k tt tt) a))) (c.set.ensures c.args.room e)

pub factor-returns-in-Identifier : goal.factor-returns-in-Identifier
factor-returns-in-Identifier t c e =
    let s = c.args.self.now.source.now in
    let rs = c.args.self.now.symbols.now in
    let k = c.in-Identifier.ensures.coded in
    let o : On c.args.self.now (41 ∷ []) = on_by 41 k tt tt in
    goes_as
    (λ a. did_node (did_right (off_by 41 k tt tt) (did_right (off_by 41 k tt tt) (did_left (on_by 41 k tt tt) (did_map
    (λ v g x. lays_as (sym (ap (λ r. selected r.place (word_length s r.place) v.1) x.one.symbol ∙ selected_is s rs v.0 v.1)) (lays_spend x.one.passed x.two))
    (did_seq (did_on c.pass-name.ensures o) a))))))
    (λ z a. fails_node (fails_right (off_by 41 k tt tt) (fails_right (off_by 41 k tt tt) (fails_left (on_by 41 k tt tt) (fails_then (did_on c.pass-name.ensures o) a))))) (c.selection.ensures e)

pub factor-returns-in_err-opening-in-OpenRound : goal.factor-returns-in_err-opening-in-OpenRound
factor-returns-in_err-opening-in-OpenRound t c e =
    let k = c.in-OpenRound.ensures.coded in
    goes_out c.from_residual.ensures.1 (fails_node (fails_right (off_by 58 k tt tt) (fails_right (off_by 58 k tt tt) (fails_right (off_by 58 k tt tt) (fails_left (on_by 58 k tt tt) (fails_open c.in_err-opening-in-OpenRound.ensures))))))

pub factor-returns-in_err-inner-in-OpenRound : goal.factor-returns-in_err-inner-in-OpenRound
factor-returns-in_err-inner-in-OpenRound t c e =
    let k = c.in-OpenRound.ensures.coded in
    goes_out c.from_residual-in_err-inner-in-OpenRound.ensures.1 (fails_node (fails_right (off_by 58 k tt tt) (fails_right (off_by 58 k tt tt) (fails_right (off_by 58 k tt tt) (fails_left (on_by 58 k tt tt)
    (fails_around c.in_ok-opening-in-OpenRound.ensures (fails_first (fails (c.in_err-inner-in-OpenRound.ensures e)))))))))

pub factor-returns-in_err-expect-in-OpenRound : goal.factor-returns-in_err-expect-in-OpenRound
factor-returns-in_err-expect-in-OpenRound t c e =
    let k = c.in-OpenRound.ensures.coded in
    goes_out c.from_residual-in_err-expect-in-OpenRound.ensures.1 (fails_node (fails_right (off_by 58 k tt tt) (fails_right (off_by 58 k tt tt) (fails_right (off_by 58 k tt tt) (fails_left (on_by 58 k tt tt)
    (fails_around c.in_ok-opening-in-OpenRound.ensures (fails_then (did (c.in_ok-inner-in-OpenRound.ensures e)) (fails_expect c.in_err-expect-in-OpenRound.ensures))))))))

pub factor-returns-in_ok-expect-in-OpenRound : goal.factor-returns-in_ok-expect-in-OpenRound
factor-returns-in_ok-expect-in-OpenRound t c e =
    let k = c.in-OpenRound.ensures.coded in
    let a = c.in_ok-inner-in-OpenRound.ensures e in
    goes_ok c.push.ensures.is (did_node (did_right (off_by 58 k tt tt) (did_right (off_by 58 k tt tt) (did_right (off_by 58 k tt tt) (did_left (on_by 58 k tt tt) (did_map
    (λ v g x.
    let y = x.one in
    let z = y.two in
    unary_lays {m = 1} {n = 1} y.one.passed z.one z.two.passed x.two (entry_same c.placed.ensures refl (place_is y.one) refl (rooted a) refl) 0 (omega arith))
    (did_push (did_around c.in_ok-opening-in-OpenRound.ensures (did_seq (did a) (did_expect c.in_ok-expect-in-OpenRound.ensures))) c.push.ensures)))))))

pub factor-returns-in_err-operator-in_default : goal.factor-returns-in_err-operator-in_default
factor-returns-in_err-operator-in_default t c e =
    let k = c.next.ensures.coded in
    goes_out c.from_residual-in_err-operator-in_default.ensures.1
    (fails_node (fails_right (off_by (code c.next.result) k tt (search rules)) (fails_right (off_by (code c.next.result) k tt (search rules)) (fails_right (off_by (code c.next.result) k tt (search rules)) (fails_right (off_by (code c.next.result) k tt (search rules))
    (fails_open c.in_err-operator-in_default.ensures))))))

pub factor-returns-in_err-operand-in_default : goal.factor-returns-in_err-operand-in_default
factor-returns-in_err-operand-in_default t c e =
    let k = c.next.ensures.coded in
    goes_out c.from_residual-in_err-operand-in_default.ensures.1
    (fails_node (fails_right (off_by (code c.next.result) k tt (search rules)) (fails_right (off_by (code c.next.result) k tt (search rules)) (fails_right (off_by (code c.next.result) k tt (search rules)) (fails_right (off_by (code c.next.result) k tt (search rules))
    (fails_around c.in_ok-operator-in_default.ensures (fails (c.in_err-operand-in_default.ensures e))))))))

pub factor-returns-in_ok-operand-in_default : goal.factor-returns-in_ok-operand-in_default
factor-returns-in_ok-operand-in_default t c e =
    let k = c.next.ensures.coded in
    let a = c.in_ok-operand-in_default.ensures e in
    goes_ok c.push-in_default.ensures.is (did_node (did_right (off_by (code c.next.result) k tt (search rules)) (did_right (off_by (code c.next.result) k tt (search rules)) (did_right (off_by (code c.next.result) k tt (search rules)) (did_right (off_by (code c.next.result) k tt (search rules)) (did_map
    (λ v g x.
    let y = x.one in
    unary_lays {m = 1} {n = 0} y.one.passed y.two passed_none x.two (entry_same c.node.ensures (tag_is y.one) (place_is y.one) refl (rooted a) refl) 0 (omega arith))
    (did_push (did_around c.in_ok-operator-in_default.ensures (did a)) c.push-in_default.ensures)))))))

pub selection-returns-in_err-part-in-OpenSquare : goal.selection-returns-in_err-part-in-OpenSquare
selection-returns-in_err-part-in-OpenSquare t c e =
    let k = c.in-OpenSquare.ensures.coded in
    goes_out c.from_residual.ensures.1 (fails_left (on_by 60 k tt tt) (fails_left (on_by 60 k tt tt) (fails (c.in_err-part-in-OpenSquare.ensures e))))

pub selection-returns-in_ok-part-in-OpenSquare : goal.selection-returns-in_ok-part-in-OpenSquare
selection-returns-in_ok-part-in-OpenSquare t c e =
    let s = c.args.self.now.source.now in
    let k = c.in-OpenSquare.ensures.coded in
    let a = c.in_ok-part-in-OpenSquare.ensures e in
    goes_ok c.push.ensures.is (did_map
    (λ v g x.
    let y = x.one in
    let z = y.wrote in
    lays_as (ap (selected c.args.name.place (word_length s c.args.name.place)) (y.is ∙ ap inl z.is))
    (unary_lays {m = 0} {n = 0} passed_none z.wrote passed_none x.two (entry_same c.placed.ensures refl refl c.word_length-length.ensures (rooted a) refl) 1 (omega arith)))
    (did_push (did_inl (on_by 60 k tt tt) (did_inl (on_by 60 k tt tt) (did a))) c.push.ensures))

pub selection-returns-in_err-part-in-OpenRound : goal.selection-returns-in_err-part-in-OpenRound
selection-returns-in_err-part-in-OpenRound t c e =
    let k = c.in-OpenRound.ensures.coded in
    goes_out c.from_residual-in_err-part-in-OpenRound.ensures.1 (fails_left (on_by 58 k tt tt) (fails_right (off_by 58 k tt tt) (fails (c.in_err-part-in-OpenRound.ensures e))))

pub selection-returns-in_ok-part-in-OpenRound : goal.selection-returns-in_ok-part-in-OpenRound
selection-returns-in_ok-part-in-OpenRound t c e =
    let s = c.args.self.now.source.now in
    let k = c.in-OpenRound.ensures.coded in
    let a = c.in_ok-part-in-OpenRound.ensures e in
    goes_ok c.push-in-OpenRound.ensures.is (did_map
    (λ v g x.
    let y = x.one in
    let z = y.wrote in
    lays_as (ap (selected c.args.name.place (word_length s c.args.name.place)) (y.is ∙ ap inl z.is))
    (unary_lays {m = 0} {n = 0} passed_none z.wrote passed_none x.two (entry_same c.placed-in-OpenRound.ensures refl refl c.word_length-length.ensures (rooted a) refl) 1 (omega arith)))
    (did_push (did_inl (on_by 58 k tt tt) (did_inr (off_by 58 k tt tt) (did a))) c.push-in-OpenRound.ensures))

pub selection-returns-in_default : goal.selection-returns-in_default
selection-returns-in_default t c e =
    let s = c.args.self.now.source.now in
    goes_ok c.push-in_default.ensures.is (did_map
    (λ v g x.
    let y = x.one in
    lays_as (ap (selected c.args.name.place (word_length s c.args.name.place)) y.is)
    (leaf_adds (label kind.Name EndOfSource c.args.name.place (word_length s c.args.name.place)) y.wrote (entry_same c.placed-in_default.ensures refl refl c.word_length-length.ensures refl refl) x.two))
    (did_push (did_inr (off_by (code c.next.result) c.next.ensures.coded tt (search rules)) (did_none refl)) c.push-in_default.ensures))

pub index-returns-in_err-opening : goal.index-returns-in_err-opening
index-returns-in_err-opening t c e = goes_out c.from_residual.ensures.1 (fails_node (fails_open c.in_err-opening.ensures))

pub index-expr-requires : goal.index-expr-requires
index-expr-requires t c =
    let h = on_falls c.in_ok-opening.ensures.1 c.in_ok-opening.ensures.0 in
    (omega arith, tt)

pub index-returns-in_err-inner : goal.index-returns-in_err-inner
index-returns-in_err-inner t c e = goes_out c.from_residual-in_err-inner.ensures.1 (fails_node (fails_around c.in_ok-opening.ensures (fails_first (fails (c.in_err-inner.ensures e)))))

pub index-returns-in_err-expect : goal.index-returns-in_err-expect
index-returns-in_err-expect t c e = goes_out c.from_residual-in_err-expect.ensures.1 (fails_node (fails_around c.in_ok-opening.ensures (fails_then (did (c.in_ok-inner.ensures e)) (fails_expect c.in_err-expect.ensures))))

pub index-returns : goal.index-returns
index-returns t c e =
    let a = c.in_ok-inner.ensures e in
    goes_ok c.push.ensures.is (did_node (did_map
    (λ v g x.
    let y = x.one in
    let z = y.two in
    unary_lays {m = 1} {n = 1} y.one.passed z.one z.two.passed x.two (entry_same c.placed.ensures refl (place_is y.one) refl (rooted a) refl) 0 (omega arith))
    (did_push (did_around c.in_ok-opening.ensures (did_seq (did a) (did_expect c.in_ok-expect.ensures))) c.push.ensures)))

pub args-returns-in_err-inside : goal.args-returns-in_err-inside
args-returns-in_err-inside t c e = goes_out c.from_residual.ensures.1 (fails_node (fails_open c.in_err-inside.ensures))

pub args-arguments-requires : goal.args-arguments-requires
args-arguments-requires t c =
    let h = on_falls c.in_ok-inside.ensures.1 c.in_ok-inside.ensures.0 in
    (omega arith, tt)

pub args-returns-in_err-all : goal.args-returns-in_err-all
args-returns-in_err-all t c e = goes_out c.from_residual-in_err-all.ensures.1 (fails_node (fails_around c.in_ok-inside.ensures (fails_first (fails (c.in_err-all.ensures e)))))

pub args-returns-in_err-expect : goal.args-returns-in_err-expect
args-returns-in_err-expect t c e = goes_out c.from_residual-in_err-expect.ensures.1 (fails_node (fails_around c.in_ok-inside.ensures (fails_then (did (c.in_ok-all.ensures e)) (fails_expect c.in_err-expect.ensures))))

pub args-returns : goal.args-returns
args-returns t c e =
    let a = c.in_ok-all.ensures e in
    goes_ok (rooted a ∙ ap (λ n. n - 1) (sym c.in_ok-expect.ensures.1.used)) (did_node (did_map
    (λ v g x. lays_close {n = 1} (lays_passed x.one.passed x.two.one) x.two.two.passed 0 (omega arith))
    (did_around c.in_ok-inside.ensures (did_seq (did a) (did_expect c.in_ok-expect.ensures)))))

pub arguments-returns-then-not-begins_expr : goal.arguments-returns-then-not-begins_expr
arguments-returns-then-not-begins_expr t c e = goes_no_items c.push-all.ensures c.bare.ensures (off_class c.next.ensures.coded c.begins_expr.ensures c.if-not-begins_expr.true tt)

pub arguments-returns-in_err-first : goal.arguments-returns-in_err-first
arguments-returns-in_err-first t c e =
    goes_out c.from_residual.ensures.1 (fails_items c.push-all.ensures (on_class c.next.ensures.coded c.begins_expr.ensures c.if-not-begins_expr.false tt) (fails (c.in_err-first.ensures e)))

pub arguments-loop-self-init : goal.arguments-loop-self-init
arguments-loop-self-init t c =
    record {
      leads = λ e. leads_first c.push-all.ensures c.bare.ensures (on_class c.next.ensures.coded c.begins_expr.ensures c.if-not-begins_expr.false tt) (c.in_ok-first.ensures e) c.push-all-2.ensures c.bare-2.ensures;
      all = c.push-all-2.ensures.is;
      left =
          let h = did_keeps (did_push (did_none {d = 0} {e = 0} refl) c.push-all.ensures) in
          let i = did_keeps (did_push (did (c.in_ok-first.ensures 0)) c.push-all-2.ensures) in
          omega arith;
    }

pub arguments-returns-in_err-item : goal.arguments-returns-in_err-item
arguments-returns-in_err-item t c e = goes_out c.from_residual-in_err-item.ensures.1 (fails_next (c.loop-self.invariant.leads e) c.loop-self-test.ensures (fails (c.in_err-item.ensures e)))

pub arguments-loop-self-smaller : goal.arguments-loop-self-smaller
arguments-loop-self-smaller t c = next_falls c.loop-self-test.ensures (c.in_ok-item.ensures 0) c.push-all-in-loop-self.ensures

pub arguments-loop-self-preserved : goal.arguments-loop-self-preserved
arguments-loop-self-preserved t c =
    let i = c.loop-self.invariant in
    record {
      leads = λ e. leads_next (i.leads e) c.loop-self-test.ensures (c.in_ok-item.ensures e) c.push-all-in-loop-self.ensures c.bare-in-loop-self.ensures i.all (omega arith);
      all = c.push-all-in-loop-self.ensures.is;
      left = let h = i.left in let j = next_falls c.loop-self-test.ensures (c.in_ok-item.ensures 0) c.push-all-in-loop-self.ensures in omega arith;
    }

pub arguments-returns : goal.arguments-returns
arguments-returns t c e =
    let h = c.loop-self-test.ensures in
    let i = c.loop-self.invariant in
    goes_ok (i.all ∙ ap root (sym h.1)) (leads_end (i.leads e) h.0 h.1)
