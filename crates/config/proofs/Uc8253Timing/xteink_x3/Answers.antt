-- `config::Uc8253Timing::xteink_x3` meets its contract: the periods are the table's.
use borrow.Author.Rules.{rules}
use Rattle.config.proofs.Uc8253Timing.xteink_x3.Goals as goal

pub returns : goal.returns
returns c = simp c.ds53_frame_periods-frame_period.ensures
