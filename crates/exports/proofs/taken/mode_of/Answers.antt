-- `exports::taken::mode_of` meets its contract: the power of its number, and the rest as it is.
use borrow.Author.Rules.{rules}
use Rattle.exports.proofs.taken.mode_of.Goals as goal

pub returns : goal.returns
returns c = simp c.power_of-power.ensures
