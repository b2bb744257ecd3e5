-- `questions::lent_refused` meets its contract, by 6, then 5.
use Rattle.base.proofs.Chain.{yes, no}
use mathlib.Core.Path.{refl, sym, ◌∙◌}
use Rattle.controller.specs.TurnedBack.{lent_refused}
use borrow.Author.Rules.{rules}
use Rattle.questions.proofs.lent_refused.Goals as goal

pub returns-then-foreign : goal.returns-then-foreign
unfolding lent_refused
returns-then-foreign c = yes _ (sym c.foreign.ensures ∙ c.if-foreign.true) refl

pub returns-then-fits : goal.returns-then-fits
unfolding lent_refused
returns-then-fits c = no _ (sym c.foreign.ensures ∙ c.if-foreign.false) (yes _ c.if-fits.true refl)

pub returns : goal.returns
unfolding lent_refused
returns c = no _ (sym c.foreign.ensures ∙ c.if-foreign.false) (no _ c.if-fits.false refl)
