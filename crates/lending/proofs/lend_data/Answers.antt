-- `lending::lend_data` meets its contract: the byte goes into its plane once the call has arrived, and the rows store what it tells.
use Rattle.controller.specs.DataByte.{for_old, for_new, plane_byte}
use Rattle.controller.specs.declared.notes.Notes.{Notes}
use Rattle.controller.specs.Ask.{new_after, rows_after}
use Rattle.controller.specs.declared.Uc8253.{Uc8253}
use Rattle.lending.specs.InnerSteps.{stored}
use mathlib.Core.Path.{ap, ◌∙◌}
use Rattle.lending.proofs.lend_data.Goals as goal

pub returns-clause-planes : goal.returns-clause-planes
unfolding new_after
returns-clause-planes c =
    let g = c.args in (
      c.put_byte.ensures.0 ∙ ap (λ (q : Uc8253). plane_byte for_old g.byte q g.old.now) c.arrive.ensures,
      c.put_byte.ensures.1 ∙ ap (λ (q : Uc8253). plane_byte for_new g.byte q g.new.now) c.arrive.ensures,
    )

pub returns-clause-rows : goal.returns-clause-rows
unfolding rows_after
returns-clause-rows c =
    let g = c.args in c.store.ensures ∙ ap (λ (n : Notes). stored g.at n g.p g.rows.now) c.told_data.ensures
