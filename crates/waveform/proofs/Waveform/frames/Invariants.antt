-- `waveform::Waveform::frames` meets its contract. The loop's invariant: the longest table passed and those to come give the longest.
use mathlib.Core.Path.{◌≡◌}
use Prim.Native.Nat.{◌≤◌, max}
use lib.ListN.{drop}
use Rattle.waveform.specs.Tables.{longest}
use Rattle.waveform.proofs.Waveform.frames.Given as goal

abbrev pub invariant-loop-table : goal.invariant-loop-table
invariant-loop-table l = record {
  is : max l.frames (longest (drop l.table-index l.fn.self.tables)) ≡ longest l.fn.self.tables;
  most : l.frames ≤ 1820700;
}
