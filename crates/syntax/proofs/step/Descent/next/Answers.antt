use Rattle.std.proofs.Common.{ap, ◌∙◌}
use Rattle.grammar.specs.Codes.{code}
use Rattle.syntax.proofs.Tags.{tag_in, tag_past}
use Rattle.syntax.proofs.step.Descent.next.Goals as goal

pub returns-in-Some-clause-coded : goal.returns-in-Some-clause-coded
returns-in-Some-clause-coded c =
    let l = c.in-Some.ensures.lookup.3 in
    ap (λ x. code x.tag) (l.1 c.in-Some.symbol.now) ∙ tag_in c.args.self.now.symbols.now c.args.self.now.here.at _ l.0

pub returns-in-None-clause-coded : goal.returns-in-None-clause-coded
returns-in-None-clause-coded c = tag_past c.args.self.now.symbols.now c.args.self.now.here.at c.in-None.ensures.lookup.3
