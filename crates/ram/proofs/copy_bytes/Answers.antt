-- `ram::copy_bytes` meets its contract. The loop's invariant: the bytes passed are copied; the measure is what is left of them.
use mathlib.Core.Path.{refl, ap, ◌∙◌}
use Prim.Native.Nat.{◌+◌}
use native.Mathlib.Omega.{arith}
use lib.ListN.{get_or, set, length-set}
use Rattle.base.proofs.Turns.{turns_more}
use Rattle.ram.specs.InnerBytewise.{copied_bytes}
use Rattle.ram.proofs.copy_bytes.Goals as goal

pub loop-i-init : goal.loop-i-init
loop-i-init c = (refl, omega arith, refl)

pub loop-i-preserved : goal.loop-i-preserved
loop-i-preserved c =
    let l = c.loop-i in
    let a = c.args in
    (rw l.invariant.0 (turns_more l.i (λ i p. set p (a.at + i) (get_or a.new.now (a.at + i) 0)) a.old.now), omega arith, length-set l.old (a.at + l.i) _ ∙ l.invariant.2)

pub shape_of-old : goal.shape_of-old
shape_of-old c = c.loop-i.invariant.2

pub returns : goal.returns
returns c =
    let l = c.loop-i in
    let a = c.args in
    l.invariant.0 ∙ ap (copied_bytes a.old.now a.new.now a.at) {x = l.i} {y = a.n} (omega arith)
