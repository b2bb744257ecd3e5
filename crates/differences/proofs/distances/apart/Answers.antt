-- `differences::distances::apart` meets its contract: what was counted and what is to come give the whole.
use Rattle.std.proofs.Common.{◌≡◌, arith}
use borrow.Author.Tests.{eq-eqb, ne_eqb}
use Rattle.differences.specs.Apart.{differing, farthest, apart_of}
use Rattle.differences.proofs.ApartLaws.{differing_more, farthest_more, differing_done, farthest_done}
use Rattle.differences.proofs.distances.apart.Goals.{then-a-i, else-a-i}
use Rattle.differences.proofs.distances.apart.Goals as goal

pub loop-i-preserved : goal.loop-i-preserved
loop-i-preserved c =
    let a = c.args.a.now in
    let b = c.args.b.now in
    let l = c.loop-i in
    let d = differing_more a b l.i (omega arith) (omega arith) in
    let f = farthest_more a b l.i (omega arith) (omega arith) in
    record {
      counted =
          elim c.if-a-i.branch [
            | then-a-i w ↦ omega (arith, w.count-is, l.invariant.counted, rw (ne_eqb _ _ w.if-a-i.true) at d)
            | else-a-i w ↦ omega (arith, w.count-is, l.invariant.counted, rw (eq-eqb _ _ w.if-a-i.false) at d)
          ];
      farthest_is = omega (arith, l.invariant.farthest_is, f, c.max-most.ensures, c.distance.ensures);
      few =
          elim c.if-a-i.branch [
            | then-a-i w ↦ omega (arith, w.count-is, l.invariant.few)
            | else-a-i w ↦ omega (arith, w.count-is, l.invariant.few)
          ];
    }

pub returns : goal.returns
unfolding apart_of
returns c =
    let a = c.args.a.now in
    let b = c.args.b.now in
    let l = c.loop-i in
    let d = differing_done a b l.i (omega arith) in
    let f = farthest_done a b l.i (omega arith) in
    let n : l.count ≡ differing a b = omega (arith, l.invariant.counted, d) in
    let m : l.most ≡ farthest a b = omega (arith, l.invariant.farthest_is, f) in
    rw (n, m)
