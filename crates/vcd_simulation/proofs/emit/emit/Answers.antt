-- `vcd_simulation::emit::emit` meets its contract: the time, the kind and the value one behind the other.
use mathlib.Core.Path.{◌∙◌}
use Rattle.vcd_simulation.specs.Written.{event_bytes}
use Rattle.vcd_simulation.proofs.Holding.{more_held, held_as, low_bytes}
use Rattle.vcd_simulation.proofs.emit.emit.Goals as goal

pub returns : goal.returns
unfolding event_bytes
returns c =
    more_held _ _ _ _ _ _ _ _ (held_as c.push-timed.ensures (c.to_le_bytes.ensures ∙ low_bytes c.args.e.time)) c.push.ensures
