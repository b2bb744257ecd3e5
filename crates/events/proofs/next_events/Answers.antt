-- `events::next_events` meets its contract: the run of pixel bytes, or the step of one event.
use native.Mathlib.Omega.{arith}
use Rattle.events.proofs.SomeLaws.{goes_stretch, goes_one}
use mathlib.Core.Path.{◌∙◌}
use borrow.Author.Rules.{rules}
use Rattle.events.proofs.next_events.Goals as goal

pub mark-requires : goal.mark-requires
mark-requires c = omega (arith, c.stream-f.ensures.within (omega (arith, c.requires)), c.well_formed.1.0.0)

pub returns-then-f-ne0-clause-goes : goal.returns-then-f-ne0-clause-goes
returns-then-f-ne0-clause-goes c = goes_stretch c.requires c.stream-f.ensures c.if-f-ne0.true c.mark.ensures

pub returns-clause-goes : goal.returns-clause-goes
returns-clause-goes c =
    goes_one c.stream-f.ensures c.if-f-ne0.false c.requires c.event_at-event.ensures c.step-s.ensures.done.0 c.step-s.ensures.done.1 c.step-s.ensures.gives c.put.ensures
