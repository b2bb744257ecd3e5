-- `config::Uc8253Config::period_refused` meets its contract: the test of the 32 periods.
use borrow.Author.Rules.{rules}
use Rattle.config.specs.Refusal.{period_refused}
use Rattle.config.proofs.Uc8253Config.period_refused.Goals as goal

pub returns : goal.returns
unfolding period_refused
returns c = c.some_zero.ensures
