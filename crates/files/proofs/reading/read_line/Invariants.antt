-- `files::reading::read_line` meets its contract. The invariant: the bytes held are those of a line, and the others are as they were.
use Rattle.files.specs.Reading.{Fills}
use Rattle.files.proofs.reading.read_line.Given as goal

abbrev pub invariant-loop-held : goal.invariant-loop-held
invariant-loop-held g l = Fills l.held l.initial.line l.line
