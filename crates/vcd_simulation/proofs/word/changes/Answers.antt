-- `vcd_simulation::word::changes` meets its contract: 0 and 1 go to the bus, the rest is looked up.
use borrow.Author.Tests.{eq-eqb, ne_eqb}
use Rattle.vcd_simulation.specs.Simulation.{changes}
use Rattle.vcd_simulation.specs.Feed.{codes_by}
use Rattle.vcd_simulation.proofs.StepLaws.{still, unknown_quiet, unknown_change}
use Rattle.vcd_simulation.proofs.word.changes.Goals as goal

pub returns-then-v-eq-UNKNOWN : goal.returns-then-v-eq-UNKNOWN
returns-then-v-eq-UNKNOWN c =
    let a = c.args in
    rw (unknown_change (codes_by a.head.now a.h) a.next a.code.now a.v a.b (eq-eqb _ _ c.if-v-eq-UNKNOWN.true)) (still _ a.held _ a.out.now c.unknown-body.ensures (unknown_quiet (codes_by a.head.now a.h) a.next a.code.now a.b))

pub returns : goal.returns
unfolding changes
returns c =
    let a = c.args in
    rw (ne_eqb _ _ c.if-v-eq-UNKNOWN.false) (record { body_is = rw c.change-c.ensures.0; holds = c.change-c.ensures.1 })
