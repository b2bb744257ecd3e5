-- `ram::copy_row` meets its contract. The loop's invariant: the columns passed are copied; each turn passes at least one, and the measure is what is left of them.
use mathlib.Core.Path.{◌≡◌}
use Prim.Native.Nat.{◌-◌, ◌≤◌}
use lib.ListN.{length}
use Rattle.ram.specs.Copy.{copied_bits}
use Rattle.ram.proofs.copy_row.Given as goal

abbrev pub invariant-loop-done : goal.invariant-loop-done
invariant-loop-done l = (l.old ≡ copied_bits l.initial.old l.new l.area.x0 l.y l.done) × (l.done ≤ l.columns) × (length l.old ≡ length l.initial.old)

abbrev pub decreases-loop-done : goal.decreases-loop-done
decreases-loop-done l = l.columns - l.done
