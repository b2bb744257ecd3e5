-- `vcd::judging::simulate` meets its contract: part by part. The invariant: the body after what is left is the last one; the measure is what is left.
use mathlib.Core.Path.{refl, sym, ap, ◌∙◌}
use Prim.Native.Nat.{◌≤◌, ◌<◌}
use native.Mathlib.Omega.{arith}
use lib.ListN.{length}
use Rattle.vcd_simulation.specs.Simulation.{Went}
use Rattle.vcd_simulation.specs.Feed.{codes_by}
use Rattle.vcd.specs.Judging.{body_after}
use Rattle.vcd.proofs.JudgeLaws.{rest_none, over_none}
use Rattle.vcd.proofs.judging.simulate.Goals as goal

pub loop-next-init : goal.loop-next-init
unfolding body_after
loop-next-init c =
    (rw c.begun-body.ensures, refl)

pub returns-then-f : goal.returns-then-f
returns-then-f c =
    let a = c.args in
    let f = c.feed-f.ensures in
    let none = f.stops (omega (arith, c.if-f.true, c.loop-next.invariant.1)) in
    rest_none (codes_by a.dump.now a.h) _ _ refl none ∙ sym (ap (λ (w : Went). w.body) f.all) ∙ c.loop-next.invariant.0

pub loop-next-smaller : goal.loop-next-smaller
loop-next-smaller c =
    let f = c.feed-f.ensures in
    let in-dump : c.feed-f.result.next ≤ length c.args.dump.now = f.inside (omega (arith, c.loop-next-test.true)) in
    let on : c.loop-next.next < c.feed-f.result.next = f.moves (omega (arith, c.if-f.false)) in
    omega (arith, in-dump, on)

pub loop-next-preserved : goal.loop-next-preserved
loop-next-preserved c =
    let f = c.feed-f.ensures in
    (sym (ap (λ (w : Went). w.body) f.all) ∙ c.loop-next.invariant.0, f.size ∙ c.loop-next.invariant.1)

pub returns : goal.returns
returns c =
    let a = c.args in
    over_none (codes_by a.dump.now a.h) a.dump.now c.loop-next.next c.loop-next.body c.loop-next-test.false ∙ c.loop-next.invariant.0
