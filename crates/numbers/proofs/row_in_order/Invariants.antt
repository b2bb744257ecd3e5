-- `numbers::row_in_order` meets its contract. At column x the first x entries of the row are written.
use mathlib.Core.Path.{◌≡◌}
use Prim.Native.Nat.{◌-◌, ◌≤◌}
use Rattle.numbers.specs.Filled.{filled}
use Rattle.numbers.specs.InnerRow.{number_in}
use Rattle.numbers.proofs.row_in_order.Given as goal

abbrev pub invariant-loop-x : goal.invariant-loop-x
invariant-loop-x l =
    let p = l.p in
    record {
      written : l.numbers ≡ filled (number_in p.row p.white p.old.now p.new.now) 0 l.x l.initial.numbers;
      most : l.x ≤ l.count;
    }

abbrev pub decreases-loop-x : goal.decreases-loop-x
decreases-loop-x l = l.count - l.x
