-- `waveform::running_groups` meets its contract. The groups passed and those that still run make those that run.
use mathlib.Core.Path.{◌≡◌}
use Prim.Native.Nat.{◌+◌}
use lib.ListN.{length, drop}
use Rattle.waveform.specs.Tables.{running}
use Rattle.waveform.proofs.running_groups.Given as goal

abbrev pub invariant-loop-k : goal.invariant-loop-k
invariant-loop-k l = l.k + length (running (drop l.k l.table)) ≡ length (running l.table)
