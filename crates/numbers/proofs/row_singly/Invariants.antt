-- `numbers::row_singly` meets its contract. At column x the first x entries of the row are written.
use mathlib.Core.Path.{◌≡◌}
use Rattle.numbers.specs.Filled.{filled}
use Rattle.numbers.specs.InnerRow.{number_at}
use Rattle.numbers.proofs.row_singly.Given as goal

abbrev pub invariant-loop-x : goal.invariant-loop-x
invariant-loop-x l =
    let p = l.p in
    l.numbers ≡ filled (number_at p.row p.white p.old.now p.new.now l.columns l.active) 0 l.x l.initial.numbers
