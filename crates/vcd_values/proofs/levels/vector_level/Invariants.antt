-- `vcd_values::levels::vector_level` meets its contract. The invariant: the answer is that of the digits from the next on, behind the last one.
use mathlib.Core.Path.{◌≡◌}
use lib.ListN.{drop}
use Rattle.vcd_values.specs.Levels.{vector_from, vector_level}
use Rattle.vcd_values.proofs.levels.vector_level.Given as goal

abbrev pub invariant-loop-b : goal.invariant-loop-b
invariant-loop-b l = vector_level l.word ≡ vector_from l.last (drop l.b-index l.word)
