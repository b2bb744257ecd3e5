-- `vcd_simulation::change::edge` meets its contract: a level that is repeated makes nothing, another an event.
use Rattle.vcd_simulation.proofs.Holding.{none_held, held_as}
use Rattle.vcd_simulation.proofs.Making.{edge_made, no_edge}
use Rattle.vcd_simulation.proofs.change.edge.Goals as goal

pub returns-then-b-v : goal.returns-then-b-v
returns-then-b-v c =
    let a = c.args in
    (c.reset-bus.ensures, held_as (none_held a.out.now a.held) (no_edge a.time a.v a.b c.if-b-v.true))

pub returns : goal.returns
returns c =
    let a = c.args in (
      c.reset-bus.ensures,
      held_as c.emit-held.ensures (edge_made a.time a.v a.b _ c.if-b-v.false c.reset_value.ensures),
    )
