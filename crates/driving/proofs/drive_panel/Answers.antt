-- `driving::drive_panel` meets its contract. After y turns the pixels of the first y rows are driven.
use mathlib.Core.Path.{ap, ◌∙◌}
use Prim.Native.Nat.{ℕ}
use native.Mathlib.Omega.{arith}
use lib.ListN.{length}
use Rattle.numbers.specs.Number.{number_of, panel_numbers}
use Rattle.numbers.proofs.FilledLaws.{length_filled}
use Rattle.pixels.specs.Drive.{driven}
use Rattle.driving.proofs.PanelLaws.{driven_row}
use Rattle.driving.proofs.drive_panel.Invariants.{firstRows}
use Rattle.driving.proofs.drive_panel.Goals as goal

pub loop-y-preserved : goal.loop-y-preserved
loop-y-preserved c =
    let l = c.loop-y in
    let s = c.args in
    let w = s.p.columns.count in
    let f = number_of s.p s.old.now s.new.now in
    record {
      moved = driven_row s.t.ww s.t.kw s.t.wk s.t.kk f w l.y s.states.now l.states _ l.row _
          (omega (arith, l.invariant.long)) l.invariant.moved c.row_of_numbers.ensures c.drive_from.ensures;
      long = ap length c.row_of_numbers.ensures ∙ length_filled (λ x. f x l.y) 0 w l.row ∙ l.invariant.long;
    }

pub returns : goal.returns
unfolding panel_numbers
returns c =
    let l = c.loop-y in
    let s = c.args in
    let t = s.t in
    l.invariant.moved
    ∙ ap (λ (n : ℕ). driven t.ww t.kw t.wk t.kk (firstRows s.p s.old.now s.new.now n) s.states.now) {x = l.y} {y = s.p.rows.count} (omega arith)
