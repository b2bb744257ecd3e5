-- `showing::came_of` meets its contract, for `panel` and for the others.
use mathlib.Core.Path.{sym, ◌∙◌}
use Rattle.showing.proofs.came_of.Goals as goal

pub returns-then-is_panel : goal.returns-then-is_panel
returns-then-is_panel c = rw (sym c.is_panel.ensures ∙ c.if-is_panel.true) c.panel_came.ensures

pub returns : goal.returns
returns c = rw (sym c.is_panel.ensures ∙ c.if-is_panel.false) c.came_by.ensures
