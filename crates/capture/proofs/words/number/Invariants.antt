-- `capture::words::number` meets its contract. The invariant: the value is the number of the bytes from place at + k on, and it is below 256 to their count. The measure is k.
use mathlib.Core.Path.{◌≡◌}
use Prim.Native.Nat.{◌+◌, ◌-◌, ◌^◌, ◌≤◌, ◌<◌}
use Rattle.capture.specs.Little.{little}
use Rattle.capture.proofs.words.number.Given as goal

abbrev pub invariant-loop-k : goal.invariant-loop-k
invariant-loop-k l = (l.value ≡ little l.bytes (l.at + l.k) (l.n - l.k)) × (l.value < 256 ^ (l.n - l.k)) × (l.k ≤ l.n)
