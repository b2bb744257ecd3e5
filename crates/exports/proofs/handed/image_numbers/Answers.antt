-- `exports::handed::image_numbers` meets its contract: the kind's number, and the rest as it is.
use borrow.Author.Rules.{rules}
use Rattle.exports.proofs.handed.image_numbers.Goals as goal

pub returns : goal.returns
returns c = simp c.refresh_number-kind.ensures
