-- `exports::taken::config_of` meets its contract: the variant of its number, and the rest as it is.
use borrow.Author.Rules.{rules}
use Rattle.exports.proofs.taken.config_of.Goals as goal

pub returns : goal.returns
returns c = simp c.variant_of-variant.ensures
