-- `events::steps::with_byte` meets its contract: the number of what was read.
use Rattle.events.proofs.steps.with_byte.Goals as goal

pub returns-in-Ok : goal.returns-in-Ok
returns-in-Ok c = simp (c.in-Ok.is, c.read_number.ensures)
