-- `ram::copy_bytes` meets its contract. The loop's invariant: the bytes passed are copied; the measure is what is left of them.
use mathlib.Core.Path.{◌≡◌}
use Prim.Native.Nat.{◌-◌, ◌≤◌}
use lib.ListN.{length}
use Rattle.ram.specs.InnerBytewise.{copied_bytes}
use Rattle.ram.proofs.copy_bytes.Given as goal

abbrev pub invariant-loop-i : goal.invariant-loop-i
invariant-loop-i l = (l.old ≡ copied_bytes l.initial.old l.new l.at l.i) × (l.i ≤ l.n) × (length l.old ≡ length l.initial.old)

abbrev pub decreases-loop-i : goal.decreases-loop-i
decreases-loop-i l = l.n - l.i
