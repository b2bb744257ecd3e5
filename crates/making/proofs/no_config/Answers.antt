-- `making::no_config` meets its contract: both are zeros.
use Rattle.controller.specs.Calls.{no_config}
use mathlib.Core.Path.{refl}
use Rattle.making.proofs.no_config.Goals as goal

pub returns : goal.returns
unfolding no_config
returns c = refl
