-- `event::whole_event` meets its contract: the time's eight bytes by halves.
use Rattle.event.proofs.EventLaws.{event_whole}
use borrow.Author.Rules.{rules}
use Rattle.event.proofs.whole_event.Goals as goal

pub returns : goal.returns
returns c = event_whole c.args.events.now c.args.index c.pair.ensures c.pair-2.ensures c.pair-3.ensures c.pair-4.ensures c.four-first.ensures c.four-last.ensures c.eight.ensures
