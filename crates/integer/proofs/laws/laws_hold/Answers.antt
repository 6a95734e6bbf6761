use Rattle.integer.proofs.Euclid as euclid
use Rattle.integer.proofs.Between.{within_tested, held_nearest}
use Rattle.integer.proofs.Words.{word_set, elements_fix}
use Rattle.integer.proofs.laws.laws_hold.Goals as goal

pub returns : goal.returns
returns c = record {
  tested = within_tested;
  held = held_nearest;
  unique = euclid.unique;
  within = euclid.within;
  examples = euclid.examples_hold;
  word = word_set;
  fixed = elements_fix;
}
