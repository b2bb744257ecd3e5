-- `vcd::judging::simulate` meets its contract: part by part. The invariant: the body after what is left is the last one; the measure is what is left.
use mathlib.Core.Path.{◌≡◌}
use Prim.Native.Nat.{◌-◌}
use lib.ListN.{length, drop}
use Rattle.vcd_words.specs.Words.{words}
use Rattle.vcd_simulation.specs.Simulation.{words_done}
use Rattle.vcd_simulation.specs.Feed.{codes_by}
use Rattle.vcd.specs.Judging.{body_after}
use Rattle.vcd.proofs.judging.simulate.Given as goal

abbrev pub invariant-loop-next : goal.invariant-loop-next
invariant-loop-next l = ((words_done (codes_by l.dump l.h) (words (drop l.next l.dump)) l.body).body ≡ body_after l.dump l.h l.at) × (length l.out ≡ 1000)

abbrev pub decreases-loop-next : goal.decreases-loop-next
decreases-loop-next l = length l.dump - l.next
