-- `test_numerals::scan::digits` meets its contract. The invariant: the number so far takes the digits from place i on.
use mathlib.Core.Path.{◌≡◌}
use lib.ListN.{drop}
use Rattle.test_numerals.specs.Rows.{taken, digits_at}
use Rattle.test_numerals.proofs.scan.digits.Given as goal

abbrev pub invariant-loop-i : goal.invariant-loop-i
invariant-loop-i l = digits_at l.s l.at ≡ taken (record { value = l.value; next = l.i }) (drop l.i l.s)
