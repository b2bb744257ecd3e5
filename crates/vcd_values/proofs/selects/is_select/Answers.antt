-- `vcd_values::selects::is_select` meets its contract.
use mathlib.Core.Path.{sym, ap, ◌∙◌}
use Rattle.vcd_values.specs.Selects.{is_closed}
use Rattle.vcd_values.proofs.SelectLaws.{select_run, run_over, closed_not}
use Rattle.vcd_values.proofs.selects.is_select.Goals as goal

pub returns-in-Closed : goal.returns-in-Closed
returns-in-Closed c =
    let l = c.loop-b in
    let w = c.args.word.now in
    sym (select_run w ∙ ap is_closed (l.invariant ∙ run_over l.state w l.b-index c.loop-b-test.false ∙ c.in-Closed.is))

pub returns-in_default : goal.returns-in_default
returns-in_default c =
    let l = c.loop-b in
    let w = c.args.word.now in
    sym (select_run w ∙ ap is_closed (l.invariant ∙ run_over l.state w l.b-index c.loop-b-test.false) ∙ closed_not l.state c.in_default.not-Closed)
