-- `differences::distances::apart` meets its contract: what was counted and what is to come give the whole.
use Rattle.std.proofs.Common.{◌≡◌, ◌≤◌, ◌+◌, max, drop}
use Rattle.differences.specs.Apart.{differing, farthest}
use Rattle.differences.proofs.distances.apart.Given as goal

abbrev pub invariant-loop-i : goal.invariant-loop-i
invariant-loop-i l = record {
  counted : l.count + differing (drop l.i l.a) (drop l.i l.b) ≡ differing l.a l.b;
  farthest_is : max l.most (farthest (drop l.i l.a) (drop l.i l.b)) ≡ farthest l.a l.b;
  few : l.count ≤ l.i;
}
