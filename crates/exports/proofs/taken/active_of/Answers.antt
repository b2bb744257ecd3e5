-- `exports::taken::active_of` meets its contract: the kind of its numbers, and the rest as it is.
use borrow.Author.Rules.{rules}
use Rattle.exports.proofs.taken.active_of.Goals as goal

pub returns : goal.returns
returns c = simp (c.kind_of-kind.ensures, c.params_of-params.ensures)
