-- `ram::byte::merged` meets its contract. The loop's invariant: the bits passed are put; the measure is what is left of them. All eight bits are the byte itself.
use mathlib.Core.Path.{◌≡◌}
use Prim.Native.Nat.{◌-◌, ◌≤◌}
use Rattle.ram.specs.InnerBytewise.{merge}
use Rattle.ram.proofs.byte.merged.Given as goal

abbrev pub invariant-loop-i : goal.invariant-loop-i
invariant-loop-i l = (l.b ≡ merge l.old l.new l.k l.i) × (l.i ≤ l.n)

abbrev pub decreases-loop-i : goal.decreases-loop-i
decreases-loop-i l = l.n - l.i
