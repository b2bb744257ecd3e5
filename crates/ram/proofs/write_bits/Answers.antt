-- `ram::write_bits` meets its contract. The loop's invariant: the bits passed are put; the measure is what is left of the eight.
use mathlib.Core.Path.{◌≡◌, refl, ◌∙◌}
use Prim.Native.Nat.{◌+◌}
use native.Mathlib.Omega.{arith}
use Rattle.base.proofs.Turns.{turns_more}
use Rattle.ram.specs.Plane.{bit_of}
use Rattle.ram.specs.Write.{put_inside, written}
use Rattle.ram.proofs.ByteLaws.{bit_small}
use Rattle.ram.proofs.write_bits.Goals as goal

pub loop-k-init : goal.loop-k-init
loop-k-init c = (refl, omega arith, refl)

pub overflow_add-x : goal.overflow_add-x
overflow_add-x c = omega arith

pub bit_of-requires : goal.bit_of-requires
bit_of-requires c = omega arith

pub write_bit-requires : goal.write_bit-requires
write_bit-requires c =
    let a = c.args in
    rw c.bit_of.ensures (bit_small a.byte c.loop-k.k)

pub overflow_step-k : goal.overflow_step-k
overflow_step-k c = omega arith

pub loop-k-smaller : goal.loop-k-smaller
loop-k-smaller c = omega arith

pub loop-k-preserved : goal.loop-k-preserved
loop-k-preserved c =
    let w = c.before.before in
    let l = w.loop-k in
    let a = w.args in
    (rw (w.write_bit.ensures, w.bit_of.ensures, l.invariant.0) (turns_more l.k (λ i q. put_inside a.area q (a.x + i) a.y (bit_of a.byte i)) a.plane.now), omega arith, w.write_bit.auto.plane ∙ l.invariant.2)

pub shape_of-plane : goal.shape_of-plane
shape_of-plane c = c.loop-k.invariant.2

pub returns : goal.returns
unfolding written
returns c =
    let l = c.loop-k in
    let e : l.k ≡ 8 = omega arith in
    l.invariant.0 ∙ rw e
