-- `config::Uc8253Config::swing_refused` meets its contract: one of two tests.
use borrow.Author.Tests.{eq-eqb, ne_eqb}
use Rattle.config.specs.Refusal.{swing_refused}
use Rattle.config.proofs.Uc8253Config.swing_refused.Goals as goal

pub returns-then-self-eq0 : goal.returns-then-self-eq0
unfolding swing_refused
returns-then-self-eq0 c = simp (eq-eqb _ _ c.if-self-eq0.true)

pub returns-else-self-eq0 : goal.returns-else-self-eq0
unfolding swing_refused
returns-else-self-eq0 c = simp (ne_eqb _ _ c.if-self-eq0.false)
