-- `streams::flow_into` meets its contract: a byte more goes on with the run.
use mathlib.Core.Path.{sym, ap, ◌∙◌}
use native.Mathlib.Omega.{arith}
use Rattle.event.specs.Events.{event_at}
use Rattle.streams.proofs.StreamLaws.{along_more}
use Rattle.streams.proofs.flow_into.Goals as goal

pub loop-i-preserved : goal.loop-i-preserved
loop-i-preserved c = let g = c.loop-i in record {
  along = along_more g.invariant.along (c.event_at-event.ensures ∙ ap (event_at c.args.events.now) (sym g.invariant.at)) (sym c.flows.ensures ∙ c.if-not-flows.false) (omega arith) c.put_at.ensures c.on_from-cursor.ensures c.counted-received.ensures c.max-now.ensures _ (omega arith);
  at = omega arith;
}
