-- `vcd_simulation::change::clock` meets its contract: the eighth bit makes an event, another or none makes none.
use mathlib.Core.Path.{◌≡◌, sym, ◌∙◌}
use mathlib.Core.Bool.{true, ◌&&◌}
use lib.Dec.{eqb}
use Rattle.vcd_bus.specs.Signals.{takes}
use borrow.Author.Tests.{eq-eqb, ne_eqb}
use Rattle.vcd_simulation.proofs.Holding.{none_held, held_as}
use Rattle.vcd_simulation.proofs.Making.{byte_made, no_byte}
use Rattle.vcd_simulation.proofs.change.clock.Goals as goal

pub returns-then-not-takes : goal.returns-then-not-takes
returns-then-not-takes c =
    let a = c.args in
    (c.clocked-bus.ensures, held_as (none_held a.out.now a.held) (no_byte a.time a.v a.b (simp (sym c.takes.ensures ∙ c.if-not-takes.true))))

pub returns-then-b-ne-LAST_BIT : goal.returns-then-b-ne-LAST_BIT
returns-then-b-ne-LAST_BIT c =
    let a = c.args in
    (c.clocked-bus.ensures, held_as (none_held a.out.now a.held) (no_byte a.time a.v a.b (simp (sym c.takes.ensures ∙ c.if-not-takes.false, ne_eqb _ _ c.if-b-ne-LAST_BIT.true))))

pub returns : goal.returns
returns c =
    let a = c.args in
    let last : (takes a.v a.b && eqb a.b.bits 7) ≡ true = simp (sym c.takes.ensures ∙ c.if-not-takes.false, eq-eqb _ _ c.if-b-ne-LAST_BIT.false) in
    (c.clocked-bus.ensures, held_as c.emit-held.ensures (byte_made a.time a.v a.b _ _ last c.byte_kind.ensures c.shifted.ensures))
