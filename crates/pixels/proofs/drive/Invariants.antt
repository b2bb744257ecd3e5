-- `pixels::drive` meets its contract. The invariant: the states whose turn has come are moved (`Changed`).
use Rattle.pixels.specs.Drive.{moved_by}
use Rattle.pixels.proofs.ListLaws.{Changed}
use Rattle.pixels.proofs.drive.Given as goal

abbrev pub invariant-loop-i : goal.invariant-loop-i
invariant-loop-i l =
    let t = l.fn.t in Changed (moved_by t.ww t.kw t.wk t.kk) l.numbers l.initial.states l.states l.i
