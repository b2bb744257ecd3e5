-- `exports::handed::active_numbers` meets its contract: the kind's numbers, and the rest as it is.
use borrow.Author.Rules.{rules}
use Rattle.exports.proofs.handed.active_numbers.Goals as goal

pub returns : goal.returns
returns c = simp c.kind_numbers-kind.ensures
