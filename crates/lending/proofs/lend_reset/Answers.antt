-- `lending::lend_reset` meets its contract: the rows store what the call tells.
use Rattle.lending.specs.InnerSteps.{stored}
use Rattle.controller.specs.declared.notes.Notes.{Notes}
use Rattle.controller.specs.Ask.{rows_after}
use mathlib.Core.Path.{ap, ◌∙◌}
use borrow.Author.Rules.{rules}
use Rattle.lending.proofs.lend_reset.Goals as goal

pub returns : goal.returns
unfolding rows_after
returns c = let g = c.args in c.store.ensures ∙ ap (λ (n : Notes). stored g.at n g.p g.rows.now) c.told_reset.ensures
