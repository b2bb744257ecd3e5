-- `capture::layout::rated` meets its contract: one test of the length.
use mathlib.Core.Path.{refl}
use Rattle.capture.specs.Layout.{rated}
use Rattle.capture.proofs.layout.rated.Goals as goal

pub returns : goal.returns
unfolding rated
returns c = rw (← c.requires.offset_is) refl
