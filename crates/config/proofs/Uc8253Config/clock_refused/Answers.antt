-- `config::Uc8253Config::clock_refused` meets its contract: the test of the rate.
use borrow.Author.Rules.{rules}
use Rattle.config.specs.Refusal.{rate_refused}
use Rattle.config.proofs.Uc8253Config.clock_refused.Goals as goal

pub returns : goal.returns
unfolding rate_refused
returns c = c.rate_refused.ensures
