-- `test_numerals::scan::skip` meets its contract. The invariant: the first digit is the same from place i on.
use mathlib.Core.Path.{◌≡◌}
use Rattle.test_numerals.specs.Rows.{skipped}
use Rattle.test_numerals.proofs.scan.skip.Given as goal

abbrev pub invariant-loop-i : goal.invariant-loop-i
invariant-loop-i l = skipped l.s l.at ≡ skipped l.s l.i
