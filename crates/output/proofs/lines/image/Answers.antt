-- `output::lines::image` meets its contract, word by word.
use Rattle.std.proofs.Common.{append_assoc}
use Rattle.text.proofs.Filling.{put_put}
use Rattle.output.specs.Lines.{image_line}
use Rattle.output.proofs.lines.image.Goals as goal

pub returns : goal.returns
unfolding image_line
returns c = rw (c.refresh.ensures, c.number-3.ensures, c.number-2.ensures, c.number.ensures, c.put.ensures) (simp (put_put, append_assoc))
