-- `exports::handed::current_numbers` meets its contract: by the cases.
use borrow.Author.Rules.{rules}
use Rattle.exports.proofs.handed.current_numbers.Goals as goal

pub returns-in-Idle : goal.returns-in-Idle
returns-in-Idle c = simp (c.no_active.ensures, c.in-Idle.is)

pub returns-in-Ignoring : goal.returns-in-Ignoring
returns-in-Ignoring c = simp (c.no_active-in-Ignoring.ensures, c.in-Ignoring.is)

pub returns-in-Active : goal.returns-in-Active
returns-in-Active c = simp (c.active_numbers.ensures, c.in-Active.is)
