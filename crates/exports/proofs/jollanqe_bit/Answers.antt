-- `exports::jollanqe_bit` meets its contract: the question about the record that was taken.
use Rattle.exports.proofs.Passed.{asked_is}
use Rattle.controller.specs.Ask as ask
use Rattle.controller.specs.Setters.{with_old, with_new}
use mathlib.Core.Bool.{true, false}
use mathlib.Core.Path.{◌∙◌}
use Rattle.exports.proofs.jollanqe_bit.Goals as goal

pub returns-in-Ok-Some-clause-value : goal.returns-in-Ok-Some-clause-value
returns-in-Ok-Some-clause-value c = λ b.
    let g = c.args in
    let a = rw c.in-Ok-Some.field-0-is at (c.in-Ok-Some.ensures.asked b) in
    asked_is (ask.ask_bit true g.x g.y) g.chip _ (with_old g.plane.now b) c.taken.ensures (c.answered.ensures ∙ (λ i. record { value = c.from.ensures i; refused = 0; known = true })) a.0 a.1

pub returns-in-Ok-Some-clause-value_2 : goal.returns-in-Ok-Some-clause-value_2
returns-in-Ok-Some-clause-value_2 c = λ b.
    let g = c.args in
    let a = rw c.in-Ok-Some.field-0-is at (c.in-Ok-Some.ensures.asked_2 b) in
    asked_is (ask.ask_bit false g.x g.y) g.chip _ (with_new g.plane.now b) c.taken.ensures (c.answered.ensures ∙ (λ i. record { value = c.from.ensures i; refused = 0; known = true })) a.0 a.1

pub returns-in-Ok-None-clause-value : goal.returns-in-Ok-None-clause-value
returns-in-Ok-None-clause-value c = λ b.
    let g = c.args in
    let a = rw c.in-Ok-None.field-0-is at (c.in-Ok-None.ensures.asked b) in
    asked_is (ask.ask_bit true g.x g.y) g.chip _ (with_old g.plane.now b) c.taken.ensures (c.answered-in-Ok-None.ensures) a.0 a.1

pub returns-in-Ok-None-clause-value_2 : goal.returns-in-Ok-None-clause-value_2
returns-in-Ok-None-clause-value_2 c = λ b.
    let g = c.args in
    let a = rw c.in-Ok-None.field-0-is at (c.in-Ok-None.ensures.asked_2 b) in
    asked_is (ask.ask_bit false g.x g.y) g.chip _ (with_new g.plane.now b) c.taken.ensures (c.answered-in-Ok-None.ensures) a.0 a.1

pub returns-in-Err-clause-value : goal.returns-in-Err-clause-value
returns-in-Err-clause-value c = λ b.
    let g = c.args in
    let a = c.in-Err.ensures.asked b in
    asked_is (ask.ask_bit true g.x g.y) g.chip _ (with_old g.plane.now b) c.taken.ensures (c.unasked.ensures) a.0 a.1

pub returns-in-Err-clause-value_2 : goal.returns-in-Err-clause-value_2
returns-in-Err-clause-value_2 c = λ b.
    let g = c.args in
    let a = c.in-Err.ensures.asked_2 b in
    asked_is (ask.ask_bit false g.x g.y) g.chip _ (with_new g.plane.now b) c.taken.ensures (c.unasked.ensures) a.0 a.1
