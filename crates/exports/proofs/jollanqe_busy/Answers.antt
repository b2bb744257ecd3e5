-- `exports::jollanqe_busy` meets its contract: the question about the record that was taken.
use Rattle.exports.proofs.Passed.{asked_is, as_number}
use Rattle.base.proofs.RefusalWords.{some_number}
use Rattle.base.specs.RefusalNumbers.{refusal_number}
use Rattle.controller.specs.Ask as ask
use mathlib.Core.Path.{sym, ◌∙◌}
use mathlib.Core.Bool.{true}
use Rattle.exports.proofs.jollanqe_busy.Goals as goal

pub returns-in-Ok : goal.returns-in-Ok
returns-in-Ok c = λ b.
    let a = c.in-Ok.ensures b in
    asked_is (ask.ask_busy c.args.at) c.args.chip _ b c.taken.ensures
    (c.answered.ensures ∙ (λ i. record { value = (c.from.ensures ∙ as_number c.in-Ok.low) i; refused = 0; known = true })) a.0 a.1

pub returns-in-Err : goal.returns-in-Err
returns-in-Err c = λ b.
    let r = c.in-Err.refusal in
    let a = c.in-Err.ensures b in
    asked_is (ask.ask_busy c.args.at) c.args.chip _ b c.taken.ensures
    (c.unasked.ensures ∙ (λ i. record { value = 0; refused = refusal_number r; known = sym (some_number r) i })) a.0 a.1
