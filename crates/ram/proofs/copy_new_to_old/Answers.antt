-- `ram::copy_new_to_old` meets its contract. The loop's invariant: the rows passed are copied; the measure is what is left of them.
use mathlib.Core.Path.{◌≡◌, refl, ◌∙◌}
use Prim.Native.Nat.{◌+◌, ◌-◌}
use native.Mathlib.Omega.{arith}
use Rattle.base.proofs.Turns.{turns_more}
use Rattle.ram.specs.Copy.{copied_row, copied}
use Rattle.ram.proofs.copy_new_to_old.Goals as goal

pub loop-j-init : goal.loop-j-init
loop-j-init c = (refl, omega arith, refl)

pub overflow_cast-area : goal.overflow_cast-area
overflow_cast-area c = omega arith

pub overflow_add-area : goal.overflow_add-area
overflow_add-area c = omega arith

pub copy_row-requires : goal.copy_row-requires
copy_row-requires c = omega arith

pub overflow_step-j : goal.overflow_step-j
overflow_step-j c = omega arith

pub loop-j-smaller : goal.loop-j-smaller
loop-j-smaller c = omega arith

pub loop-j-preserved : goal.loop-j-preserved
loop-j-preserved c =
    let w = c.before.before in
    let l = w.loop-j in
    let a = w.args in
    (rw (w.copy_row.ensures, l.invariant.0) (turns_more l.j (λ i p. copied_row p a.new.now a.area (a.area.y0 + i)) a.old.now), omega arith, w.copy_row.auto.old ∙ l.invariant.2)

pub shape_of-old : goal.shape_of-old
shape_of-old c = c.loop-j.invariant.2

pub returns : goal.returns
unfolding copied
returns c =
    let l = c.loop-j in
    let a = c.args in
    let e : l.j ≡ a.area.y1 + 1 - a.area.y0 = omega arith in
    l.invariant.0 ∙ rw e
