-- `pixels::thresholds` meets its contract. The invariant: the first q entries are right.
use Rattle.pixels.specs.InnerGuess.{Thresholds}
use Rattle.pixels.proofs.thresholds.Given as goal

abbrev pub invariant-loop-q : goal.invariant-loop-q
invariant-loop-q l = Thresholds l.swing l.from l.q
