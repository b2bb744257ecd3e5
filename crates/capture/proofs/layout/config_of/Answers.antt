-- `capture::layout::config_of` meets its contract: the 312 bytes from the first on.
use native.Mathlib.Omega.{arith}
use Rattle.capture.proofs.layout.config_of.Goals as goal

pub config_at-requires : goal.config_at-requires
config_at-requires c = omega arith

pub returns : goal.returns
returns c = c.config_at.ensures
