-- `questions::row` meets its contract: the row lies in the picture, since the question was not refused.
use Rattle.base.proofs.RefusalWords.{taken, turned}
use Rattle.questions.proofs.Rows.{small, row_fits, row_length}
use Rattle.controller.specs.World.{Buffers, buffers}
use Rattle.controller.specs.Calls.{row_answer}
use native.Mathlib.Omega.{arith}
use native.Mathlib.Nat.{add-sub_cancel_left}
use borrow.Author.Tests.{lt-ltb, le-ltb, eqb-true}
use mathlib.Core.List.{[]}
use Rattle.controller.specs.Ask as ask
use mathlib.Core.Path.{refl, sym, ap}
use Rattle.base.proofs.Chain.{yes, no}
use borrow.Author.Rules.{rules}
use Rattle.questions.proofs.row.Goals as goal

pub returns-then-p-y : goal.returns-then-p-y
unfolding row_answer
returns-then-p-y c = λ b. ap ask.part (yes _ (taken (c.in-Ok.ensures 0 b)) (no _ (le-ltb _ _ c.if-p-y.true) refl))

pub overflow_mul-at : goal.overflow_mul-at
overflow_mul-at c = record { fits = omega (arith, small c.args.y c.args.p.config.panel.sources (search rules) (search rules)) }

pub overflow_add-result : goal.overflow_add-result
overflow_add-result c = record { fits = omega (arith, small c.args.y c.args.p.config.panel.sources (search rules) (search rules)) }

pub slice_bounds-result-end-2 : goal.slice_bounds-result-end-2
slice_bounds-result-end-2 c = let b : Buffers = buffers [] [] [] [] [] in omega (arith, row_fits c.args.p.config.panel.sources c.args.p.config.panel.gates c.args.y c.if-p-y.false, row_length c.args.p _ (sym (c.in-Ok.ensures 0 b)))

pub returns : goal.returns
unfolding row_answer
returns c = λ b. ap ask.part (yes _ (taken (c.in-Ok.ensures 0 b)) (yes _ (lt-ltb _ _ c.if-p-y.false) (simp add-sub_cancel_left)))

pub returns-in_default : goal.returns-in_default
unfolding row_answer
returns-in_default c = λ b. ap ask.part (no _ (turned c.in_default.field-0 (c.in_default.ensures 0 b)) refl)
