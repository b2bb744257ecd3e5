-- `capture::layout::timing` meets its contract: each part at its place.
use Rattle.capture.proofs.layout.timing.Goals as goal

pub returns : goal.returns
returns c = simp (c.periods-frame_period.ensures, c.number-hardware_reset.ensures.0, c.number-soft_reset.ensures.0, c.number-deep_sleep.ensures.0, c.number-power_off.ensures.0, c.number-power_on.ensures.0)
