-- `output::wide::wide_part` meets its contract: the units up to the next one are in the buffer.
use Rattle.std.proofs.Common.{◌≡◌, ◌≤◌, max, length}
use Rattle.glass.specs.Gray.{top_of}
use Rattle.output.specs.Units.{wide_of}
use Rattle.output.proofs.PartLaws.{Along}
use Rattle.output.proofs.wide.wide_part.Given as goal

abbrev pub invariant-loop-next : goal.invariant-loop-next
invariant-loop-next l = record {
  along : Along (wide_of l.form (top_of l.top) l.o l.picture) l.from l.initial.text.buffer l.next l.text;
  top : l.next ≤ max l.from l.end;
  long : length l.bytes ≡ 131_070;
}
