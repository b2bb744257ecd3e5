-- `exports::taken::image_of` meets its contract: the kind of its number, and the rest as it is.
use borrow.Author.Rules.{rules}
use Rattle.exports.proofs.taken.image_of.Goals as goal

pub returns : goal.returns
returns c = simp c.refresh_kind_of-kind.ensures
