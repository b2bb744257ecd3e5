-- `vcd_declarations::head::declarations` meets its contract. The invariant: what was told so far, and then those from the place on, are all declarations; the measure is what is left.
use Prim.Native.Nat.{◌-◌}
use lib.ListN.{length}
use Rattle.vcd_declarations.proofs.Going.{Going}
use Prim.Native.Nat.{◌-◌}
use Rattle.vcd_declarations.proofs.head.declarations.Given as goal

abbrev pub invariant-loop-at : goal.invariant-loop-at
invariant-loop-at l = Going l.bytes l.head l.at

abbrev pub decreases-loop-at : goal.decreases-loop-at
decreases-loop-at l = length l.bytes - l.at
