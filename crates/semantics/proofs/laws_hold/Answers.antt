use Rattle.semantics.proofs.Examples.{examples_hold}
use Rattle.semantics.proofs.Fuel.{more_fuel_law, one_outcome}
use Rattle.semantics.proofs.Courses.{one_course, events_stay}
use Rattle.semantics.proofs.Samples.{more_samples_law}
use Rattle.semantics.proofs.Counting.{for_terms}
use Rattle.semantics.proofs.Typing.{words_keep_types}
use Rattle.semantics.proofs.laws_hold.Goals as goal

pub returns : goal.returns
returns c = record { fuel = more_fuel_law; outcome = one_outcome; course = one_course; samples = more_samples_law; stay = events_stay; terms = for_terms; types = words_keep_types; examples = examples_hold }
