-- `questions::wide_refused` meets its contract: the record, the two lengths and the states, in turn.
use mathlib.Core.Path.{sym, ◌∙◌}
use native.Mathlib.Omega.{arith}
use borrow.Author.Tests.{eq-eqb, ne_eqb}
use borrow.Author.Rules.{rules}
use Rattle.controller.specs.Calls.{wide_refused}
use Rattle.questions.proofs.Rows.{small}
use Rattle.questions.proofs.wide_refused.Goals as goal

pub returns-then-foreign : goal.returns-then-foreign
unfolding wide_refused
returns-then-foreign c = simp (sym c.foreign.ensures ∙ c.if-foreign.true)

pub overflow_mul-pixels : goal.overflow_mul-pixels
overflow_mul-pixels c =
    let p = c.args.p in
    record { fits = omega (arith, small p.config.panel.sources p.config.panel.gates (search rules) (search rules)) }

pub returns-then-states-pixels : goal.returns-then-states-pixels
unfolding wide_refused
returns-then-states-pixels c = simp (sym c.foreign.ensures ∙ c.if-foreign.false, ne_eqb _ _ c.if-states-pixels.true)

pub returns-then-room-pixels : goal.returns-then-room-pixels
unfolding wide_refused
returns-then-room-pixels c = simp (sym c.foreign.ensures ∙ c.if-foreign.false, eq-eqb _ _ c.if-states-pixels.false, ne_eqb _ _ c.if-room-pixels.true)

pub returns-then-all_states : goal.returns-then-all_states
unfolding wide_refused
returns-then-all_states c =
    simp (
      sym c.foreign.ensures ∙ c.if-foreign.false,
      eq-eqb _ _ c.if-states-pixels.false,
      eq-eqb _ _ c.if-room-pixels.false,
      sym c.all_states.ensures ∙ c.if-all_states.true,
    )

pub returns : goal.returns
unfolding wide_refused
returns c =
    simp (
      sym c.foreign.ensures ∙ c.if-foreign.false,
      eq-eqb _ _ c.if-states-pixels.false,
      eq-eqb _ _ c.if-room-pixels.false,
      sym c.all_states.ensures ∙ c.if-all_states.false,
    )
