-- `exports::jollanqe_picture` meets its contract: the question about the record that was taken.
use Rattle.base.proofs.RefusalWords.{some_number}
use Rattle.base.specs.RefusalNumbers.{refusal_number}
use Rattle.controller.specs.Ask as ask
use Rattle.controller.specs.Setters.{with_states}
use Rattle.exports.proofs.Passed.{of_taken, asked_is}
use mathlib.Core.Path.{sym, ◌∙◌}
use Rattle.exports.proofs.jollanqe_picture.Goals as goal

pub returns-in-Ok : goal.returns-in-Ok
returns-in-Ok c =
    let g = c.args in
    let q : ask.Ask = ask.ask_picture g.top g.wide.now in
    record {
      value = λ b.
          let a = c.in-Ok.ensures b in asked_is q g.chip _ (with_states g.states.now b) c.taken.ensures c.answered.ensures a.0 a.1;
      wide_after = λ b. of_taken (ask.answered q) _ g.chip (with_states g.states.now b) c.taken.ensures (c.in-Ok.ensures b).1;
    }

pub returns-in-Err : goal.returns-in-Err
returns-in-Err c =
    let g = c.args in
    let r = c.in-Err.refusal in
    let q : ask.Ask = ask.ask_picture g.top g.wide.now in
    record {
      value = λ b.
          let a = c.in-Err.ensures b in
          asked_is q g.chip _ (with_states g.states.now b) c.taken.ensures
          (c.unasked.ensures ∙ (λ i. record { value = 0; refused = refusal_number r; known = sym (some_number r) i })) a.0 a.1;
      wide_after = λ b. of_taken (ask.answered q) _ g.chip (with_states g.states.now b) c.taken.ensures (c.in-Err.ensures b).1;
    }
