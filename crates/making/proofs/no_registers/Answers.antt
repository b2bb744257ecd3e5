-- `making::no_registers` meets its contract: both are zeros.
use Rattle.controller.specs.Calls.{no_registers}
use mathlib.Core.Path.{refl}
use Rattle.making.proofs.no_registers.Goals as goal

pub returns : goal.returns
unfolding no_registers
returns c = refl
