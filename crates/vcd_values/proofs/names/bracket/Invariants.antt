-- `vcd_values::names::bracket` meets its contract. The invariant: from the next byte on, behind the last [ so far, it is the same.
use mathlib.Core.Path.{◌≡◌}
use lib.ListN.{drop}
use Rattle.vcd_values.specs.Names.{bracket_from, bracket}
use Rattle.vcd_values.proofs.names.bracket.Given as goal

abbrev pub invariant-loop-i : goal.invariant-loop-i
invariant-loop-i l = bracket l.word ≡ bracket_from l.i l.last (drop l.i l.word)
