-- `making::power_on` meets its contract: every buffer filled, or refused.
use Rattle.making.proofs.FirstWorld.{at_level, made_first, made_none}
use Rattle.controller.specs.Calls.{untouched, first_chip}
use Rattle.controller.specs.Lent.{held}
use Rattle.base.proofs.RefusalWords.{taken, turned, handed_on}
use lib.ListN.{length}
use native.Mathlib.Omega.{arith}
use mathlib.Core.Path.{refl, ap, ◌∙◌}
use Rattle.making.proofs.power_on.Goals as goal

pub returns-in_err-making_refused-clause-makes : goal.returns-in_err-making_refused-clause-makes
returns-in_err-making_refused-clause-makes c =
    let a = c.args in
    rw (handed_on _ _ c.from_residual.ensures.1) (
      made_none a.config (held a.lent.now) _ (turned _ c.in_err-making_refused.ensures) refl,
      c.in_err-making_refused.ensures,
    )

pub returns-clause-makes : goal.returns-clause-makes
unfolding first_chip
returns-clause-makes c =
    let a = c.args in (
      made_first a.config (held a.lent.now) c.untouched.result _
          (omega (arith, c.well_formed.0)) (taken c.in_ok-making_refused.ensures)
          (record {
            chip_is = c.untouched.ensures ∙ ap (untouched a.config) c.reset.ensures;
            old_is = c.fill.ensures.after (λ y e. e);
            new_is = c.fill-2.ensures.after (λ y e. e);
            states_is = at_level (length a.lent.now.states.now) c.fill_states.ensures c.level.ensures;
            picture_is = c.fill-3.ensures.after (λ y e. e);
            rows_is = c.fill-4.ensures.after (λ y e. e);
          }),
      c.in_ok-making_refused.ensures,
    )
