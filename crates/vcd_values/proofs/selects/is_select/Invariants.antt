-- `vcd_values::selects::is_select` meets its contract. The invariant: what is read from the next byte on decides.
use mathlib.Core.Path.{◌≡◌}
use lib.ListN.{drop}
use Rattle.vcd_values.specs.declared.selects.State.TheVariants.{Before}
use Rattle.vcd_values.specs.Selects.{run}
use Rattle.vcd_values.proofs.selects.is_select.Given as goal

abbrev pub invariant-loop-b : goal.invariant-loop-b
invariant-loop-b l = run Before l.word ≡ run l.state (drop l.b-index l.word)
