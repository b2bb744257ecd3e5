-- `exports::handed::params_numbers` meets its contract: by the cases.
use borrow.Author.Rules.{rules}
use Rattle.exports.proofs.handed.params_numbers.Goals as goal

pub returns-in-Exactly : goal.returns-in-Exactly
returns-in-Exactly c = simp c.in-Exactly.is

pub returns-in-Between : goal.returns-in-Between
returns-in-Between c = simp c.in-Between.is

pub returns-in-Stream : goal.returns-in-Stream
returns-in-Stream c = simp c.in-Stream.is
