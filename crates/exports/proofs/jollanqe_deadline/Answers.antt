-- `exports::jollanqe_deadline` meets its contract: the question about the record that was taken.
use Rattle.exports.proofs.Passed.{asked_is}
use Rattle.controller.specs.Ask as ask
use Rattle.exports.proofs.jollanqe_deadline.Goals as goal

pub returns-in-Ok : goal.returns-in-Ok
returns-in-Ok c = λ b.
    let a = c.in-Ok.ensures b in asked_is ask.ask_deadline c.args.chip _ b c.taken.ensures c.answered.ensures a.0 a.1

pub returns-in-Err : goal.returns-in-Err
returns-in-Err c = λ b.
    let a = c.in-Err.ensures b in asked_is ask.ask_deadline c.args.chip _ b c.taken.ensures c.unasked.ensures a.0 a.1
