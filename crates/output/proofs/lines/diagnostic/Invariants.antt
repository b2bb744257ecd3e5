-- `output::lines::diagnostic` meets its contract: the numbers so far are put behind the word.
use Rattle.std.proofs.Common.{◌≡◌, take, map}
use Rattle.text.specs.Text.{put, digits}
use Rattle.output.specs.Lines.{behind}
use Rattle.output.proofs.lines.diagnostic.Given as goal

abbrev pub invariant-loop-x : goal.invariant-loop-x
invariant-loop-x l = l.text ≡ put (behind (map digits (take l.x-index l.row))) l.initial.text
