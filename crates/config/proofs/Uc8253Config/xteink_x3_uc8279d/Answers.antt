-- `config::Uc8253Config::xteink_x3_uc8279d` meets its contract: the X3 with another variant.
use borrow.Author.Rules.{rules}
use Rattle.config.proofs.Uc8253Config.xteink_x3_uc8279d.Goals as goal

pub returns : goal.returns
returns c = simp c.xteink_x3.ensures
