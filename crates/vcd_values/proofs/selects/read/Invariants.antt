-- `vcd_values::selects::read` meets its contract. The invariant: what is read from the next byte on decides.
use mathlib.Core.Path.{◌≡◌}
use lib.ListN.{drop}
use Rattle.vcd_values.specs.declared.selects.State.TheVariants.{Before}
use Rattle.vcd_values.specs.Selects.{run, solid}
use Rattle.vcd_values.proofs.selects.read.Given as goal

abbrev pub invariant-loop-b : goal.invariant-loop-b
invariant-loop-b l = run Before (solid l.bytes) ≡ run l.state (solid (drop l.b-index l.bytes))
