-- `capture::layout::optics` meets its contract: each part at its place.
use Rattle.capture.proofs.layout.optics.Goals as goal

pub returns : goal.returns
returns c = simp (c.byte-initial_gray.ensures, c.number-full_swing.ensures.0, c.byte-flags.ensures)
