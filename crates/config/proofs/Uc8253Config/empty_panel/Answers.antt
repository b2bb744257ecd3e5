-- `config::Uc8253Config::empty_panel` meets its contract: one of two tests.
use borrow.Author.Tests.{eq-eqb, ne_eqb}
use Rattle.config.specs.Refusal.{empty_panel}
use Rattle.config.proofs.Uc8253Config.empty_panel.Goals as goal

pub returns-then-self-eq0 : goal.returns-then-self-eq0
unfolding empty_panel
returns-then-self-eq0 c = simp (eq-eqb _ _ c.if-self-eq0.true)

pub returns-else-self-eq0 : goal.returns-else-self-eq0
unfolding empty_panel
returns-else-self-eq0 c = simp (ne_eqb _ _ c.if-self-eq0.false)
