-- `vcd_simulation::feeding::feed` meets its contract: the words one by one. The invariant: what was read so far, and then the rest, is all; the measure is what is left.
use Prim.Native.Nat.{◌-◌}
use lib.ListN.{length}
use Rattle.vcd_simulation.specs.Feed.{codes_by}
use Rattle.vcd_simulation.proofs.FeedLaws.{Feeding}
use Rattle.vcd_simulation.proofs.feeding.feed.Given as goal

abbrev pub invariant-loop-next : goal.invariant-loop-next
invariant-loop-next l = Feeding (codes_by l.head l.h) l.bytes l.at l.last l.initial.body l.next l.held l.body l.initial.out l.out

abbrev pub decreases-loop-next : goal.decreases-loop-next
decreases-loop-next l = length l.bytes - l.next
