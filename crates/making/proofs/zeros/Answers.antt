-- `making::zeros` meets its contract: part by part.
use Rattle.controller.specs.Calls.{zeros}
use borrow.Author.Rules.{rules}
use Rattle.making.proofs.zeros.Goals as goal

pub returns : goal.returns
unfolding zeros
returns c = simp (c.untouched.ensures, c.no_config.ensures, c.no_registers.ensures)
