-- `differences::places::first_place` meets its contract: what is looked for is the first from entry i on.
use Rattle.std.proofs.Common.{◌≡◌, drop}
use Rattle.differences.specs.Places.{first_by}
use Rattle.differences.proofs.places.first_place.Given as goal

abbrev pub invariant-loop-i : goal.invariant-loop-i
invariant-loop-i g l = first_by g.T.PartialEq.eq 0 l.a l.b ≡ first_by g.T.PartialEq.eq l.i (drop l.i l.a) (drop l.i l.b)
