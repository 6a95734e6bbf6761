use Rattle.std.proofs.Common.{rules, not, unsigned_abs}
use Rattle.integer.specs.Division.{divided}
use Rattle.integer.specs.Sets.{has, if_element}
use Rattle.instructions.specs.Values.{quotient, remainder, odd, same, truth}
use Rattle.processor.proofs.obey.obey.Goals as goal

pub returns-in-Divide : goal.returns-in-Divide
returns-in-Divide c = rw c.in-Divide.is (c.binary-in-Divide.ensures (λ x y. quotient (divided x y)) (λ x y r f h p. search rules))

pub returns-in-Modulo : goal.returns-in-Modulo
returns-in-Modulo c = rw c.in-Modulo.is (c.binary-in-Modulo.ensures (λ x y. remainder (divided x y)) (λ x y r f h p. search rules))

pub returns-in-Odd : goal.returns-in-Odd
returns-in-Odd c = rw c.in-Odd.is (c.test.ensures odd (λ x r f p. search rules))

pub returns-in-Unequal : goal.returns-in-Unequal
returns-in-Unequal c = rw c.in-Unequal.is (c.relate-in-Unequal.ensures (λ x y. not (same x y)) (λ x y r f h p. search rules))

pub returns-in-In : goal.returns-in-In
returns-in-In c = rw c.in-In.is (c.binary-in-In.ensures (λ x s. if_element x (truth (has (unsigned_abs x) s))) (λ x y r f h p. search rules))
