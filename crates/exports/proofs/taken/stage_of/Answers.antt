-- `exports::taken::stage_of` meets its contract: the command of its numbers.
use borrow.Author.Rules.{rules}
use Rattle.exports.proofs.taken.stage_of.Goals as goal

pub returns : goal.returns
returns c = simp (c.current_of-current.ensures, c.active_of-active.ensures)
