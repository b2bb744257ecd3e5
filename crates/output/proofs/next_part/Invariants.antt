-- `output::next_part` meets its contract: the units up to the next one are in the buffer.
use Rattle.std.proofs.Common.{◌≤◌, max}
use Rattle.output.specs.Units.{units_of}
use Rattle.output.proofs.PartLaws.{Along}
use Rattle.output.proofs.next_part.Given as goal

abbrev pub invariant-loop-next : goal.invariant-loop-next
invariant-loop-next l = record {
  along : Along (units_of l.form l.o l.events l.answers l.picture l.rows) l.from l.initial.text.buffer l.next l.text;
  top : l.next ≤ max l.from l.end;
}
