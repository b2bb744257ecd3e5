-- `exports::handed::refresh_number` meets its contract: by the cases.
use borrow.Author.Rules.{rules}
use Rattle.exports.proofs.handed.refresh_number.Goals as goal

pub returns-in-PowerOn : goal.returns-in-PowerOn
returns-in-PowerOn c = simp c.in-PowerOn.is

pub returns-in-Full : goal.returns-in-Full
returns-in-Full c = simp c.in-Full.is

pub returns-in-Partial : goal.returns-in-Partial
returns-in-Partial c = simp c.in-Partial.is
