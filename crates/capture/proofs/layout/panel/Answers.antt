-- `capture::layout::panel` meets its contract: each part at its place.
use Rattle.capture.proofs.layout.panel.Goals as goal

pub returns : goal.returns
returns c = simp (c.half-gates.ensures, c.half-sources.ensures, c.byte-flags.ensures)
