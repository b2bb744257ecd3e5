-- `questions::take_diagnostics` meets its contract: by its refusal.
use Rattle.controller.specs.Calls.{taking_refused, taken_rows}
use Rattle.base.proofs.RefusalWords.{taken, turned, handed_on}
use Rattle.controller.specs.Ask.{record_after, old_after, new_after, rows_after, lent_after, did_by}
use Rattle.controller.specs.Ask as ask
use mathlib.Core.Path.{refl, ap}
use Rattle.base.proofs.Chain.{yes, no}
use Rattle.questions.proofs.take_diagnostics.Goals as goal

pub returns-in_err-lent_refused : goal.returns-in_err-lent_refused
unfolding did_by taking_refused taken_rows
returns-in_err-lent_refused c =
    let refused = c.in_err-lent_refused.ensures in
    let h = turned _ refused in
    rw (handed_on _ _ c.from_residual.ensures.1) record { turns_rows = λ b. no _ h refl; asked = λ b. (refused, ap ask.count (no _ h refl)) }

pub returns : goal.returns
unfolding did_by record_after lent_after old_after new_after rows_after taking_refused taken_rows
returns c =
    let refused = c.in_ok-lent_refused.ensures in
    let h = taken refused in
    record { turns_rows = λ b. yes _ h (simp c.taken-chip.ensures); asked = λ b. (refused, ap ask.count (yes _ h refl)) }
