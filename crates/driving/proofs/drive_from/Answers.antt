-- `driving::drive_from` meets its contract: past the end nothing is left to drive.
use native.Mathlib.Omega.{arith}
use Rattle.driving.proofs.PanelLaws.{driven_past}
use Rattle.driving.proofs.drive_from.Goals as goal

pub returns-else-at-states : goal.returns-else-at-states
returns-else-at-states c =
    let s = c.args in
    driven_past s.t.ww s.t.kw s.t.wk s.t.kk s.at s.numbers.now s.states.now (omega arith)
