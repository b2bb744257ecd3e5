-- `ram::copy_row` meets its contract. The loop's invariant: the columns passed are copied; each turn passes at least one, and the measure is what is left of them.
use mathlib.Core.Path.{◌≡◌, refl, ◌∙◌}
use Prim.Native.Nat.{◌+◌, ◌-◌}
use native.Mathlib.Omega.{arith}
use Rattle.ram.proofs.BytewiseLaws.{copied_join}
use Rattle.ram.proofs.copy_row.Goals as goal

pub loop-done-init : goal.loop-done-init
loop-done-init c = (refl, omega arith, refl)

pub loop-done-preserved : goal.loop-done-preserved
loop-done-preserved c =
    let w = c.before.before in
    let l = w.loop-done in
    let a = w.args in
    (w.copy_some-n.ensures.2 ∙ rw l.invariant.0 (copied_join a.old.now a.new.now a.area.x0 a.y l.done w.copy_some-n.result), omega arith, w.copy_some-n.auto.old ∙ l.invariant.2)

pub shape_of-old : goal.shape_of-old
shape_of-old c = c.loop-done.invariant.2

pub returns : goal.returns
returns c =
    let l = c.loop-done in
    let a = c.args in
    let e : l.done ≡ a.area.x1 + 1 - a.area.x0 = omega arith in
    l.invariant.0 ∙ rw e
