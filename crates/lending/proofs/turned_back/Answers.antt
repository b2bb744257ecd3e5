-- `lending::turned_back` meets its contract, by 6, 5 and 7 in order.
use Rattle.controller.specs.TurnedBack.{turned_back}
use Rattle.lending.proofs.Coming.{not_both, contents}
use Rattle.base.proofs.Chain.{yes, no}
use mathlib.Core.Path.{refl, sym, ◌∙◌}
use borrow.Author.Rules.{rules}
use Rattle.lending.proofs.turned_back.Goals as goal

pub returns-then-foreign : goal.returns-then-foreign
unfolding turned_back
returns-then-foreign c = yes _ (sym c.foreign.ensures ∙ c.if-foreign.true) refl

pub returns-then-ends_refresh : goal.returns-then-ends_refresh
unfolding turned_back
returns-then-ends_refresh c = no _ (sym c.foreign.ensures ∙ c.if-foreign.false) (yes _ (sym c.lengths_fit.ensures ∙ c.if-lengths_fit.true) (contents _ _ (sym c.ends_refresh.ensures ∙ c.if-ends_refresh.true) c.foreign_contents.ensures))

pub returns-then-lengths_fit : goal.returns-then-lengths_fit
unfolding turned_back
returns-then-lengths_fit c = no _ (sym c.foreign.ensures ∙ c.if-foreign.false) (yes _ (sym c.lengths_fit.ensures ∙ c.if-lengths_fit.true) (no _ (not_both _ (sym c.ends_refresh.ensures ∙ c.if-ends_refresh.false)) refl))

pub returns : goal.returns
unfolding turned_back
returns c = no _ (sym c.foreign.ensures ∙ c.if-foreign.false) (no _ (sym c.lengths_fit.ensures ∙ c.if-lengths_fit.false) refl)
