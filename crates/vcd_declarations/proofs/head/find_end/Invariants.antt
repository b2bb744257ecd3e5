-- `vcd_declarations::head::find_end` meets its contract. The invariant: no `$end` so far; the measure is what is left.
use Prim.Native.Nat.{◌-◌}
use lib.ListN.{length}
use Rattle.vcd_declarations.proofs.EndLaws.{Before}
use Rattle.vcd_declarations.proofs.head.find_end.Given as goal

abbrev pub invariant-loop-i : goal.invariant-loop-i
invariant-loop-i l = Before l.bytes l.at l.i

abbrev pub decreases-loop-i : goal.decreases-loop-i
decreases-loop-i l = length l.bytes - l.i
