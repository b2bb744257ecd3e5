-- `vcd_playing::playing::finish` meets its contract: the call of an advance.
use Rattle.vcd_playing.specs.Making.{finished}
use Rattle.vcd_playing.proofs.playing.finish.Goals as goal

pub returns-clause-turns : goal.returns-clause-turns
unfolding finished
returns-clause-turns c = c.step.ensures.done.0
