-- `exports::handed::refresh_numbers` meets its contract: the kind's number, and the area as it is.
use borrow.Author.Rules.{rules}
use Rattle.exports.proofs.handed.refresh_numbers.Goals as goal

pub returns : goal.returns
returns c = simp c.refresh_number.ensures
