-- `config::Uc8253Config::xteink_x3` meets its contract: each part is the X3's.
use borrow.Author.Rules.{rules}
use Rattle.config.proofs.Uc8253Config.xteink_x3.Goals as goal

pub returns : goal.returns
returns c = simp (c.xteink_x3-panel.ensures, c.xteink_x3-optics.ensures, c.xteink_x3-timing.ensures)
