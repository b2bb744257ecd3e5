-- `vcd_declarations::declared::is_declared` meets its contract. The invariant: none so far; the measure is what is left.
use Prim.Native.Nat.{◌-◌}
use lib.ListN.{length}
use Rattle.vcd_declarations.proofs.Looking.{Looking}
use Rattle.vcd_declarations.proofs.declared.is_declared.Given as goal

abbrev pub invariant-loop-at : goal.invariant-loop-at
invariant-loop-at l = Looking l.bytes l.code l.at

abbrev pub decreases-loop-at : goal.decreases-loop-at
decreases-loop-at l = length l.bytes - l.at
