-- `exports::taken::work_of` meets its contract: the tests in turn.
use Rattle.exports.specs.Taken.{work_taken}
use borrow.Author.Tests.{ne_eqb}
use Rattle.exports.proofs.taken.work_of.Goals as goal

pub returns-in-0 : goal.returns-in-0
unfolding work_taken
returns-in-0 c = simp c.in-0.is

pub returns-in-1 : goal.returns-in-1
unfolding work_taken
returns-in-1 c = simp c.in-1.is

pub returns-in-2 : goal.returns-in-2
unfolding work_taken
returns-in-2 c = simp c.in-2.is

pub returns-in-3 : goal.returns-in-3
unfolding work_taken
returns-in-3 c = simp c.in-3.is

pub returns-in-4 : goal.returns-in-4
unfolding work_taken
returns-in-4 c = simp c.in-4.is

pub returns-in-5 : goal.returns-in-5
unfolding work_taken
returns-in-5 c = simp c.in-5.is

pub returns-in_default : goal.returns-in_default
unfolding work_taken
returns-in_default c = simp (ne_eqb _ _ c.in_default.in_default-own.rest.0.0.0.0.0.1, ne_eqb _ _ c.in_default.in_default-own.rest.0.0.0.0.1, ne_eqb _ _ c.in_default.in_default-own.rest.0.0.0.1, ne_eqb _ _ c.in_default.in_default-own.rest.0.0.1, ne_eqb _ _ c.in_default.in_default-own.rest.0.1, ne_eqb _ _ c.in_default.in_default-own.rest.1)
