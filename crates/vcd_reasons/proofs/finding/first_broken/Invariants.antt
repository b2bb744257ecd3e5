-- `vcd_reasons::finding::first_broken` meets its contract: the words one by one. The invariant: those before a place do not break; the
-- measure is what is left.
use Rattle.vcd_reasons.proofs.FindLaws.{Sofar}
use Rattle.vcd_simulation.specs.Feed.{codes_by}
use lib.ListN.{length}
use Prim.Native.Nat.{◌-◌}
use mathlib.Core.Path.{◌≡◌}
use Rattle.vcd_reasons.proofs.finding.first_broken.Given as goal

abbrev pub invariant-loop-next : goal.invariant-loop-next
invariant-loop-next l = Sofar (codes_by l.head l.h) l.bytes l.at l.initial.body l.next l.body × (length l.out ≡ 40)

abbrev pub decreases-loop-next : goal.decreases-loop-next
decreases-loop-next l = length l.bytes - l.next
