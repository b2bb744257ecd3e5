-- `ram::copy_new_to_old` meets its contract. The loop's invariant: the rows passed are copied; the measure is what is left of them.
use mathlib.Core.Path.{◌≡◌}
use Prim.Native.Nat.{◌+◌, ◌-◌, ◌≤◌}
use lib.ListN.{length}
use Rattle.base.specs.Turns.{turns}
use Rattle.ram.specs.Copy.{copied_row}
use Rattle.ram.proofs.copy_new_to_old.Given as goal

abbrev pub invariant-loop-j : goal.invariant-loop-j
invariant-loop-j l = (l.old ≡ turns l.j (λ i p. copied_row p l.new l.area (l.area.y0 + i)) l.initial.old) × (l.j ≤ l.rows) × (length l.old ≡ length l.initial.old)

abbrev pub decreases-loop-j : goal.decreases-loop-j
decreases-loop-j l = l.rows - l.j
