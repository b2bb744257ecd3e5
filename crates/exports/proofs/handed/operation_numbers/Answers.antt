-- `exports::handed::operation_numbers` meets its contract: the work's numbers, and the rest as it is.
use borrow.Author.Rules.{rules}
use Rattle.exports.proofs.handed.operation_numbers.Goals as goal

pub returns : goal.returns
returns c = simp c.work_numbers-work.ensures
