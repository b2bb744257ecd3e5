-- `exports::handed::kind_numbers` meets its contract: by the cases.
use borrow.Author.Rules.{rules}
use Rattle.exports.proofs.handed.kind_numbers.Goals as goal

pub returns-in-Write : goal.returns-in-Write
returns-in-Write c = simp (c.params_numbers.ensures, c.in-Write.is)

pub returns-in-Read : goal.returns-in-Read
returns-in-Read c = simp c.in-Read.is

pub returns-in-Unsupported : goal.returns-in-Unsupported
returns-in-Unsupported c = simp (c.params_numbers-in-Unsupported.ensures, c.in-Unsupported.is)

pub returns-in-Unknown : goal.returns-in-Unknown
returns-in-Unknown c = simp c.in-Unknown.is
