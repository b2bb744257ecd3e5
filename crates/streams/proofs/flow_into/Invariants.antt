-- `streams::flow_into` meets its contract. The invariant: the bytes so far are those of the run, and what they change is changed.
use Rattle.std.proofs.Common.{◌≡◌, ◌+◌}
use Rattle.streams.proofs.StreamLaws.{Along}
use Rattle.streams.proofs.flow_into.Given as goal

abbrev pub invariant-loop-i : goal.invariant-loop-i
invariant-loop-i l = record {
  along : Along l.events l.from l.area l.a.past_reported l.a.cursor l.a.received l.p.now l.initial.plane l.plane l.cursor l.received l.now l.done;
  at : l.from + l.done ≡ l.i;
}
