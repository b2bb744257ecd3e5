-- `dumping::reading::play_chunk` meets its contract: piece by piece. The invariant: the bytes before a place were read; the measure is what is left.
use Prim.Native.Nat.{◌-◌}
use lib.ListN.{length}
use Rattle.controller.specs.World.{world}
use Rattle.controller.specs.Lent.{held, Same}
use Rattle.dumping.proofs.ReadLaws.{Along}
use Rattle.dumping.proofs.reading.play_chunk.Given as goal

abbrev pub invariant-loop-from : goal.invariant-loop-from
invariant-loop-from l =
    let v = world l.initial.q.chip (held l.initial.lent) in
    let v' = world l.q.chip (held l.lent) in
    record {
      along : Along l.bytes l.initial.q.reader l.q l.from l.initial.kept l.initial.word l.kept l.word v v';
      same : Same l.initial.lent l.lent;
    }

abbrev pub decreases-loop-from : goal.decreases-loop-from
decreases-loop-from l = length l.bytes - l.from
