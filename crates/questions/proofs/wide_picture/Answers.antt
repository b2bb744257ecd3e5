-- `questions::wide_picture` meets its contract: by its refusal.
use mathlib.Core.Path.{refl, ap}
use Rattle.base.proofs.Chain.{yes, no}
use Rattle.base.proofs.RefusalWords.{taken, turned, handed_on}
use Rattle.controller.specs.Calls.{wide_answer}
use Rattle.controller.specs.Ask as ask
use Rattle.questions.proofs.wide_picture.Goals as goal

pub returns-in_err-wide_refused : goal.returns-in_err-wide_refused
unfolding wide_answer
returns-in_err-wide_refused c =
    let refused = c.in_err-wide_refused.ensures in
    rw (handed_on _ _ c.from_residual.ensures.1) (λ w. (refused, ap ask.wide (no _ (turned _ refused) refl)))

pub returns : goal.returns
unfolding wide_answer
returns c =
    let refused = c.in_ok-wide_refused.ensures in
    λ w. (refused, ap ask.wide (yes _ (taken refused) c.draw_wide.ensures))
