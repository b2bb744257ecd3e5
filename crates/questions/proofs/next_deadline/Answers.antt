-- `questions::next_deadline` meets its contract: by refusal 6.
use Rattle.controller.specs.Calls.{question_refused, deadline_answer}
use Rattle.controller.specs.TurnedBack.{lent_refused}
use Rattle.controller.specs.Ask as ask
use mathlib.Core.Path.{refl, sym, ap, ◌∙◌}
use Rattle.base.proofs.Chain.{yes, no}
use borrow.Author.Rules.{rules}
use Rattle.questions.proofs.next_deadline.Goals as goal

pub returns-then-foreign : goal.returns-then-foreign
unfolding lent_refused question_refused deadline_answer
returns-then-foreign c = λ b. (yes _ (sym c.foreign.ensures ∙ c.if-foreign.true) refl, ap ask.due (yes _ (sym c.foreign.ensures ∙ c.if-foreign.true) refl))

pub returns : goal.returns
unfolding lent_refused question_refused deadline_answer
returns c = λ b. (no _ (sym c.foreign.ensures ∙ c.if-foreign.false) refl, ap ask.due (no _ (sym c.foreign.ensures ∙ c.if-foreign.false) c.due_of.ensures))
