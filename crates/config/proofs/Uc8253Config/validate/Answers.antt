-- `config::Uc8253Config::validate` meets its contract: the tests in document 01's order.
use mathlib.Core.Path.{sym, ◌∙◌}
use borrow.Author.Rules.{rules}
use Rattle.config.specs.Refusal.{refusal}
use Rattle.config.proofs.Uc8253Config.validate.Goals as goal

pub returns-then-empty_panel : goal.returns-then-empty_panel
unfolding refusal
returns-then-empty_panel c = simp (sym c.empty_panel.ensures ∙ c.if-empty_panel.true)

pub returns-then-oversized_panel : goal.returns-then-oversized_panel
unfolding refusal
returns-then-oversized_panel c =
    let first = c.before.before in
    simp (sym first.empty_panel.ensures ∙ first.if-empty_panel.false, sym c.oversized_panel.ensures ∙ c.if-oversized_panel.true)

pub returns-then-swing_refused : goal.returns-then-swing_refused
unfolding refusal
returns-then-swing_refused c =
    let second = c.before.before in
    let first = second.before.before in
    simp (sym first.empty_panel.ensures ∙ first.if-empty_panel.false, sym second.oversized_panel.ensures ∙ second.if-oversized_panel.false, sym c.swing_refused.ensures ∙ c.if-swing_refused.true)

pub returns-then-period_refused : goal.returns-then-period_refused
unfolding refusal
returns-then-period_refused c =
    let third = c.before.before in
    let second = third.before.before in
    let first = second.before.before in
    simp (sym first.empty_panel.ensures ∙ first.if-empty_panel.false, sym second.oversized_panel.ensures ∙ second.if-oversized_panel.false, sym third.swing_refused.ensures ∙ third.if-swing_refused.false, sym c.period_refused.ensures ∙ c.if-period_refused.true)

pub returns-then-clock_refused : goal.returns-then-clock_refused
unfolding refusal
returns-then-clock_refused c =
    let fourth = c.before.before in
    let third = fourth.before.before in
    let second = third.before.before in
    let first = second.before.before in
    simp (sym first.empty_panel.ensures ∙ first.if-empty_panel.false, sym second.oversized_panel.ensures ∙ second.if-oversized_panel.false, sym third.swing_refused.ensures ∙ third.if-swing_refused.false, sym fourth.period_refused.ensures ∙ fourth.if-period_refused.false, sym c.clock_refused.ensures ∙ c.if-clock_refused.true)

pub returns : goal.returns
unfolding refusal
returns c =
    let fourth = c.before.before in
    let third = fourth.before.before in
    let second = third.before.before in
    let first = second.before.before in
    simp (sym first.empty_panel.ensures ∙ first.if-empty_panel.false, sym second.oversized_panel.ensures ∙ second.if-oversized_panel.false, sym third.swing_refused.ensures ∙ third.if-swing_refused.false, sym fourth.period_refused.ensures ∙ fourth.if-period_refused.false, sym c.clock_refused.ensures ∙ c.if-clock_refused.false)
