-- `numbers::eights::number_bytes` meets its contract. After i turns the numbers of the first i bytes are written.
use mathlib.Core.Path.{◌≡◌}
use Prim.Native.Nat.{◌*◌}
use Rattle.numbers.specs.Filled.{filled}
use Rattle.numbers.specs.InnerRow.{number_from}
use Rattle.numbers.proofs.eights.number_bytes.Given as goal

abbrev pub invariant-loop-i : goal.invariant-loop-i
invariant-loop-i l = l.numbers ≡ filled (number_from l.old l.new l.place l.white) l.at (l.i * 8) l.initial.numbers
