-- `lending::foreign_contents` meets its contract, by its test.
use Rattle.lending.specs.InnerSteps.{seven}
use Rattle.base.proofs.Chain.{yes, no}
use mathlib.Core.Path.{refl, sym, ◌∙◌}
use borrow.Author.Rules.{rules}
use Rattle.lending.proofs.foreign_contents.Goals as goal

pub returns-then-all_states : goal.returns-then-all_states
unfolding seven
returns-then-all_states c = yes _ (sym c.all_states.ensures ∙ c.if-all_states.true) refl

pub returns : goal.returns
unfolding seven
returns c = no _ (sym c.all_states.ensures ∙ c.if-all_states.false) refl
