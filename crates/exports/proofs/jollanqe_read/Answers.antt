-- `exports::jollanqe_read` meets its contract: the call on the record that was taken, handed over.
use Rattle.exports.proofs.Passed.{given_is}
use Rattle.exports.specs.Given.{answer_number}
use mathlib.Core.Path.{ap, ◌∙◌}
use borrow.Author.Rules.{rules}
use Rattle.controller.specs.Ask as ask
use Rattle.controller.specs.Lent.{held}
use Rattle.controller.specs.World.{Buffers, buffers, world}
use Rattle.exports.proofs.jollanqe_read.Goals as goal

pub returns-in-Ok : goal.returns-in-Ok
returns-in-Ok c =
    let g = c.args in
    let b : Buffers = buffers g.old.now g.new.now g.states.now g.picture.now g.rows.now in
    let a = c.in-Ok.ensures in (
      given_is (ask.reading g.at) g.chip _ b c.taken-p.ensures {v = world c.in-Ok.read.chip (held c.read_data.new.lent)}
          (c.give.ensures c.taken-p.result) a.called.0 a.called.1 (c.read_number.ensures ∙ ap answer_number a.answers),
      search rules,
    )
