-- `questions::ram_bit` meets its contract: by its refusal.
use Rattle.controller.specs.Calls.{bit_refused, bit_answer}
use Rattle.base.proofs.RefusalWords.{taken, turned, handed_on}
use Rattle.controller.specs.Ask as ask
use mathlib.Core.Path.{refl, ap}
use Rattle.base.proofs.Chain.{yes, no}
use Rattle.questions.proofs.ram_bit.Goals as goal

pub returns-in_err-lent_refused : goal.returns-in_err-lent_refused
unfolding bit_refused bit_answer
returns-in_err-lent_refused c =
    let refused = c.in_err-lent_refused.ensures in
    let h = turned _ refused in
    rw (handed_on _ _ c.from_residual.ensures.1) record {
      asked = λ b. (refused, ap ask.bit (no _ h refl));
      asked_2 = λ b. (refused, ap ask.bit (no _ h refl));
    }

pub returns : goal.returns
unfolding bit_refused bit_answer
returns c =
    let refused = c.in_ok-lent_refused.ensures in
    let h = taken refused in
    record {
      asked = λ b. (refused, ap ask.bit (yes _ h c.ram_bit.ensures));
      asked_2 = λ b. (refused, ap ask.bit (yes _ h c.ram_bit.ensures));
    }
