-- `exports::taken::operation_of` meets its contract: the work of its numbers, and the rest as it is.
use borrow.Author.Rules.{rules}
use Rattle.exports.proofs.taken.operation_of.Goals as goal

pub returns : goal.returns
returns c = simp (c.work_of-work.ensures, c.refresh_kind_of-kind.ensures)
