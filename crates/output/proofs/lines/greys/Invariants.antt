-- `output::lines::greys` meets its contract: the first grey, and then each behind a blank.
use Rattle.std.proofs.Common.{◌≡◌, take, map}
use Rattle.text.specs.Text.{put, digits}
use Rattle.output.specs.Lines.{behind}
use Rattle.output.proofs.lines.greys.Given as goal

abbrev pub invariant-loop-x : goal.invariant-loop-x
invariant-loop-x l = l.text ≡ put (behind (map digits (take l.x-index l.rest))) l.initial.text
