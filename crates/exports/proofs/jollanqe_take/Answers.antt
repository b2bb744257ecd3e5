-- `exports::jollanqe_take` meets its contract: the taking on the record that was taken, handed over.
use Rattle.exports.proofs.Passed.{given_is}
use Rattle.exports.specs.Given.{answer_number}
use mathlib.Core.Path.{ap}
use Rattle.controller.specs.Ask as ask
use Rattle.controller.specs.Setters.{with_rows}
use Rattle.controller.specs.World.{Buffers, world}
use Rattle.exports.proofs.jollanqe_take.Goals as goal

pub returns-in-Ok : goal.returns-in-Ok
returns-in-Ok c = λ b.
    let g = c.args in
    let a = c.in-Ok.ensures in
    let l : Buffers = with_rows g.rows.now b in
    given_is ask.taking g.chip _ l c.taken.ensures {v = world c.in-Ok.rows.chip l} (c.give.ensures c.taken.result)
    (a.turns_rows b) (a.asked b).0 (ap answer_number (a.asked b).1)

pub returns-in-Err : goal.returns-in-Err
returns-in-Err c = λ b.
    let g = c.args in
    let a = c.in-Err.ensures in
    let l : Buffers = with_rows g.rows.now b in
    given_is ask.taking g.chip _ l c.taken.ensures {v = world c.taken.result l} (c.give-in-Err.ensures c.taken.result)
    (a.turns_rows b) (a.asked b).0 (ap answer_number (a.asked b).1)
