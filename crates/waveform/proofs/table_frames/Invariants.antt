-- `waveform::table_frames` meets its contract. The frames summed and those of the groups to come make the table's.
use mathlib.Core.Path.{◌≡◌}
use Prim.Native.Nat.{◌+◌, ◌*◌, ◌≤◌}
use lib.ListN.{drop}
use Rattle.waveform.specs.Tables.{table_frame_count}
use Rattle.waveform.proofs.table_frames.Given as goal

abbrev pub invariant-loop-group : goal.invariant-loop-group
invariant-loop-group l = record {
  is : l.sum + table_frame_count (drop l.group-index l.fn.table) ≡ table_frame_count l.fn.table;
  most : l.sum ≤ 260100 * l.group-index;
}
