use Rattle.std.proofs.Common.{rules, tests}
use Rattle.std.proofs.lemmas.Iterator.{YieldsList-from_slice}
use Rattle.std.proofs.lemmas.Iterator.Search.{find_from_yields_List}
use Rattle.std.specs.Str.{bytes_eq}
use Rattle.vocabulary.specs.Tags.{spelt}
use Rattle.vocabulary.proofs.words.tag_among.Goals as goal

pub returns : goal.returns
returns c =
    cc (find_from_yields_List (λ tag. bytes_eq (spelt tag) c.args.word.now) _ _ c.find.result c.find.ensures.ran (YieldsList-from_slice c.args.tags.now (cc)) (λ x b q k. search (rules, tests)))
