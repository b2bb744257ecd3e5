-- `event::event_at` meets its contract: an event that lies whole in the bytes, zeros where it begins past the end, and one that is cut short.
use Rattle.event.proofs.EventLaws.{event_past, event_read}
use borrow.Author.Rules.{rules}
use Rattle.event.proofs.event_at.Goals as goal

pub returns-then-whole-index : goal.returns-then-whole-index
returns-then-whole-index c = event_past c.args.events.now c.args.index c.if-whole-index.true

pub returns : goal.returns
returns c = event_read c.args.events.now c.args.index _ _ _ c.little-time.ensures c.byte-kind.ensures c.byte-value.ensures
