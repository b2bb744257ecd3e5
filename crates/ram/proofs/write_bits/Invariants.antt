-- `ram::write_bits` meets its contract. The loop's invariant: the bits passed are put; the measure is what is left of the eight.
use mathlib.Core.Path.{◌≡◌}
use Prim.Native.Nat.{◌+◌, ◌-◌, ◌≤◌}
use lib.ListN.{length}
use Rattle.base.specs.Turns.{turns}
use Rattle.ram.specs.Plane.{bit_of}
use Rattle.ram.specs.Write.{put_inside}
use Rattle.ram.proofs.write_bits.Given as goal

abbrev pub invariant-loop-k : goal.invariant-loop-k
invariant-loop-k l = (l.plane ≡ turns l.k (λ i q. put_inside l.area q (l.x + i) l.y (bit_of l.byte i)) l.initial.plane) × (l.k ≤ 8) × (length l.plane ≡ length l.initial.plane)

abbrev pub decreases-loop-k : goal.decreases-loop-k
decreases-loop-k l = 8 - l.k
