-- `vcd_reasons::finding::newlines` meets its contract. The invariant: the count and what is left are all, and it is no more than the bytes so far.
use mathlib.Core.Path.{◌≡◌}
use Prim.Native.Nat.{◌+◌, ◌≤◌}
use lib.ListN.{drop}
use Rattle.vcd_reasons.specs.Finding.{newlines}
use Rattle.vcd_reasons.proofs.finding.newlines.Given as goal

abbrev pub invariant-loop-b : goal.invariant-loop-b
invariant-loop-b l = (l.count + newlines (drop l.b-index l.bytes) ≡ newlines l.bytes) × (l.count ≤ l.b-index)
