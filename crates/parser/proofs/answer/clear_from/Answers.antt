use Rattle.std.proofs.Common.{◌≡◌, ℕ, ◌-◌, ◌≤◌, List, ◌++◌, length, take, drop, replicate, ap, ◌∙◌, ap₂, append-nil, arith}
use borrow.Rule.Slice.PartMut.{put_mid}
use Rattle.std.proofs.lemmas.List.{length-take, length-drop, drop_all}
use Rattle.syntax.specs.declared.tree.TreeRecord.{TreeRecord}
use Rattle.parser.specs.Parsing.{zero_node}
use Rattle.parser.proofs.answer.clear_from.Goals as goal

-- zeros in the place of all that stands from an index on
zeroed : (xs ys : List TreeRecord) (n : ℕ) → n ≤ length xs → ys ≡ replicate (length (take (length xs - n) (drop n xs))) zero_node → put_mid n (length xs - n) xs ys ≡ take n xs ++ replicate (length xs - n) zero_node
zeroed xs ys n h e =
    let d = length-drop n xs in
    let l : length (take (length xs - n) (drop n xs)) ≡ length xs - n = length-take (length xs - n) (drop n xs) ∙ omega arith in
    ap (λ r. take n xs ++ r) (ap₂ ◌++◌ (e ∙ ap (λ k. replicate k zero_node) l) (drop_all (length xs - n) (drop n xs) (omega arith)) ∙ append-nil (replicate (length xs - n) zero_node))

pub returns : goal.returns
returns c = zeroed c.args.tree.now c.clear.new.tree c.args.from c.requires c.clear.ensures
