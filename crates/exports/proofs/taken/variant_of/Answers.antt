-- `exports::taken::variant_of` meets its contract: one test.
use Rattle.exports.specs.Taken.{variant_taken}
use borrow.Author.Tests.{ne_eqb}
use Rattle.exports.proofs.taken.variant_of.Goals as goal

pub returns-in-0 : goal.returns-in-0
unfolding variant_taken
returns-in-0 c = simp c.in-0.is

pub returns-in_default : goal.returns-in_default
unfolding variant_taken
returns-in_default c = simp (ne_eqb _ _ c.in_default.in_default-own.rest.1)
