use Rattle.std.proofs.Common.{vec_items, sym, ◌∙◌, arith}
use Rattle.std.proofs.lemmas.Result.{on_ok_weaker}
use Rattle.outline.proofs.Outlines.{no_part, one_part, two_parts}
use Rattle.outline.proofs.order.+add_part.Goals as goal

pub add-returns-then-parts-eq0 : goal.add-returns-then-parts-eq0
add-returns-then-parts-eq0 t c n s p z =
    no_part c.args.tree.now n c.args.at c.args.depth s p z (sym c.parts-parts.ensures ∙ c.if-parts-eq0.true) (vec_items c.args.lines.now) (vec_items c.head.new.lines)
    c.in_ok-inside.ensures.1

pub add-returns-then-parts-eq1 : goal.add-returns-then-parts-eq1
add-returns-then-parts-eq1 t c n s p z =
    one_part c.args.tree.now n c.args.at c.args.depth s p z (sym c.parts-parts.ensures ∙ c.if-parts-eq1.true) c.in_ok-inside.inside c.in_ok-inside.ensures.0
    (vec_items c.args.lines.now) (vec_items c.head.new.lines) (vec_items c.part.new.lines) c.in_ok-inside.ensures.1 c.in_ok-part.ensures

pub add-returns : goal.add-returns
add-returns t c =
    let e = c.parts-parts.ensures in
    let h₀ = c.if-parts-eq0.false in
    let h₁ = c.if-parts-eq1.false in
    on_ok_weaker c.part-2.result
    (λ q n s p z. two_parts c.args.tree.now n c.args.at c.args.depth s p z (omega arith) c.in_ok-inside.inside c.in_ok-inside.ensures.0
    (vec_items c.args.lines.now) (vec_items c.head.new.lines) (vec_items c.part.new.lines) (vec_items c.part-2.new.lines) c.in_ok-inside.ensures.1
    c.in_ok-part.ensures q) c.part-2.ensures
