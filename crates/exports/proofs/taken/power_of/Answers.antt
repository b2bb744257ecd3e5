-- `exports::taken::power_of` meets its contract: the tests in turn.
use Rattle.exports.specs.Taken.{power_taken}
use borrow.Author.Tests.{ne_eqb}
use Rattle.exports.proofs.taken.power_of.Goals as goal

pub returns-in-0 : goal.returns-in-0
unfolding power_taken
returns-in-0 c = simp c.in-0.is

pub returns-in-1 : goal.returns-in-1
unfolding power_taken
returns-in-1 c = simp c.in-1.is

pub returns-in_default : goal.returns-in_default
unfolding power_taken
returns-in_default c = simp (ne_eqb _ _ c.in_default.in_default-own.rest.0.1, ne_eqb _ _ c.in_default.in_default-own.rest.1)
