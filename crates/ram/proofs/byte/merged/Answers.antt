-- `ram::byte::merged` meets its contract. The loop's invariant: the bits passed are put; the measure is what is left of them. All eight bits are the byte itself.
use mathlib.Core.Path.{◌≡◌, refl, sym, ◌∙◌}
use Prim.Native.Nat.{◌+◌}
use native.Mathlib.Omega.{arith}
use Rattle.base.proofs.Turns.{turns_more}
use Rattle.ram.specs.Plane.{bit_of, with_bit}
use Rattle.ram.proofs.ByteLaws.{bit_small, merge_whole}
use Rattle.ram.proofs.byte.merged.Goals as goal

pub returns-then-n-eq8 : goal.returns-then-n-eq8
returns-then-n-eq8 c =
    let a = c.args in
    let whole : a.k ≡ 0 = omega arith in
    rw (c.if-n-eq8.true, whole) (sym (merge_whole a.old a.new (omega arith) (omega arith)))

pub loop-i-init : goal.loop-i-init
loop-i-init c = (refl, omega arith)

pub overflow_add-k : goal.overflow_add-k
overflow_add-k c = omega arith

pub overflow_add-k-in-loop-i : goal.overflow_add-k-in-loop-i
overflow_add-k-in-loop-i c = omega arith

pub bit_of-requires : goal.bit_of-requires
bit_of-requires c = omega arith

pub with_bit-b-requires : goal.with_bit-b-requires
with_bit-b-requires c =
    let a = c.args in
    (omega arith, rw c.bit_of.ensures (bit_small a.new (a.k + c.loop-i.i)))

pub overflow_step-i : goal.overflow_step-i
overflow_step-i c = omega arith

pub loop-i-smaller : goal.loop-i-smaller
loop-i-smaller c = omega arith

pub loop-i-preserved : goal.loop-i-preserved
loop-i-preserved c =
    let a = c.args in
    let l = c.loop-i in
    (c.with_bit-b.ensures ∙ rw (c.bit_of.ensures, l.invariant.0) (turns_more l.i (λ i b. with_bit b (a.k + i) (bit_of a.new (a.k + i))) a.old), omega arith)

pub returns : goal.returns
returns c =
    let l = c.loop-i in
    let e : l.i ≡ c.args.n = omega arith in
    l.invariant.0 ∙ rw e
