-- `dumping::reading::read_chunks` meets its contract: chunk after chunk. The invariant: the reader stands behind all that was read.
use mathlib.Core.Path.{◌≡◌}
use mathlib.Core.Bool.{true}
use Rattle.controller.specs.World.{world}
use Rattle.controller.specs.Lent.{held, Same}
use Rattle.dumping.specs.Reading.{is_on, Stood}
use Rattle.dumping.proofs.reading.read_chunks.Given as goal

abbrev pub invariant-chunks : goal.invariant-chunks
invariant-chunks g l = record {
  stood : Stood l.g l.kept l.word (world l.initial.g.chip (held l.initial.lent)) (world l.g.chip (held l.lent));
  on : is_on l.g.course ≡ true;
  same : Same l.initial.lent l.lent;
}
