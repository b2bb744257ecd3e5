-- `making::making_refused` meets its contract: 1 to 4, 13, then 5.
use Rattle.controller.specs.TurnedBack.{making_refused}
use Rattle.base.specs.RefusalNumbers.{number_in}
use Rattle.base.proofs.RefusalWords.{taken, turned, handed_on}
use mathlib.Core.Path.{refl, sym, ap, ◌∙◌}
use Rattle.base.proofs.Chain.{yes, no}
use Rattle.making.proofs.making_refused.Goals as goal

pub returns-in_err-validate : goal.returns-in_err-validate
unfolding making_refused
returns-in_err-validate c =
    rw (handed_on _ _ c.from_residual.ensures.1) (no _ (turned _ c.in_err-validate.ensures) c.in_err-validate.ensures)

pub returns-then-lent_fits : goal.returns-then-lent_fits
unfolding making_refused
returns-then-lent_fits c = yes _ (taken c.in_ok-validate.ensures) (yes _ (sym c.lent_fits.ensures ∙ c.if-lent_fits.true) refl)

pub returns : goal.returns
unfolding making_refused
returns c = yes _ (taken c.in_ok-validate.ensures) (no _ (sym c.lent_fits.ensures ∙ c.if-lent_fits.false) refl)
