-- `output::samples::samples` meets its contract: the samples of the greys so far are put.
use Rattle.std.proofs.Common.{◌≡◌, take}
use Rattle.text.specs.Text.{put}
use Rattle.output.specs.Units.{samples_of}
use Rattle.output.proofs.samples.samples.Given as goal

abbrev pub invariant-loop-x : goal.invariant-loop-x
invariant-loop-x l = l.text ≡ put (samples_of l.top (take l.x-index l.row)) l.initial.text
