-- `vcd_values::times::time` meets its contract. The invariant: the time is that of the digits from the next on, behind those passed, whose
-- value has 64 bits.
use mathlib.Core.Path.{◌≡◌}
use Prim.Native.Nat.{◌<◌}
use lib.ListN.{drop}
use Rattle.vcd_values.specs.Numbers.{time_of}
use Rattle.vcd_values.proofs.NumberLaws.{time_from, limit}
use Rattle.vcd_values.proofs.times.time.Given as goal

abbrev pub invariant-loop-b : goal.invariant-loop-b
invariant-loop-b l = (time_of l.word ≡ time_from l.value (drop l.b-index l.word)) × (l.value < limit)
