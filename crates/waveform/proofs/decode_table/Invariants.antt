-- `waveform::decode_table` meets its contract. The loop's invariant: the groups so far are the table's first.
use mathlib.Core.Path.{◌≡◌}
use Prim.Native.Nat.{◌-◌, ◌≤◌}
use lib.ListN.{length, take}
use Rattle.base.specs.Listed.{listed}
use Rattle.waveform.specs.Tables.{group_of}
use Rattle.waveform.proofs.decode_table.Given as goal

abbrev pub invariant-loop-k : goal.invariant-loop-k
invariant-loop-k l = (take l.k l.table ≡ listed l.k (group_of l.lut)) × (l.k ≤ 7) × (length l.table ≡ 7)

abbrev pub decreases-loop-k : goal.decreases-loop-k
decreases-loop-k l = 7 - l.k
