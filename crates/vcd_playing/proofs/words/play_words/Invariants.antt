-- `vcd_playing::words::play_words` meets its contract: part by part, the words and then the run of their events. The measure is what is left.
use mathlib.Core.Path.{◌≡◌}
use Prim.Native.Nat.{◌-◌}
use lib.ListN.{length}
use Rattle.controller.specs.World.{world}
use Rattle.controller.specs.Lent.{held, Same}
use Rattle.vcd_simulation.specs.Feed.{codes_by}
use Rattle.vcd_playing.proofs.PlayingLaws.{Playing}
use Rattle.vcd_playing.proofs.words.play_words.Given as goal

abbrev pub invariant-loop-t : goal.invariant-loop-t
invariant-loop-t l =
    let w = world l.initial.t.chip (held l.initial.lent) in
    let v = world l.t.chip (held l.lent) in
    record {
      playing : Playing (codes_by l.head l.h) l.bytes l.at l.last l.initial.t.body l.t.next l.t.body w v;
      kept : Same l.initial.lent l.lent;
      room : length l.out ≡ 10000;
    }

abbrev pub decreases-loop-t : goal.decreases-loop-t
decreases-loop-t l = length l.bytes - l.t.next
