-- `config::ds53_frame_period` meets its contract: the rate is never 0, so the division is safe for every code.
use borrow.Author.Rules.{rules}
use borrow.Author.Tests.{eq-eqb, ne_eqb}
use Rattle.config.specs.X3.{hertz, ds53}
use Rattle.config.proofs.ds53_frame_period.Goals as goal

pub returns-then-code-eq-LAST_CODE : goal.returns-then-code-eq-LAST_CODE
unfolding ds53 hertz
returns-then-code-eq-LAST_CODE c = simp (eq-eqb _ _ c.if-code-eq-LAST_CODE.true)

pub returns : goal.returns
unfolding ds53 hertz
returns c = simp (ne_eqb _ _ c.if-code-eq-LAST_CODE.false)
