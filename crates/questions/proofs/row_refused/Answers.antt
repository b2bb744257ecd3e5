-- `questions::row_refused` meets its contract: the product of two 16-bit numbers fits.
use Rattle.controller.specs.Calls.{row_refused}
use native.Mathlib.Omega.{arith}
use Rattle.questions.proofs.Rows.{small}
use borrow.Author.Rules.{rules}
use Rattle.questions.proofs.row_refused.Goals as goal

pub overflow_mul-pixels : goal.overflow_mul-pixels
overflow_mul-pixels c = record { fits = omega (arith, small c.args.p.config.panel.sources c.args.p.config.panel.gates (search rules) (search rules)) }

pub returns : goal.returns
unfolding row_refused
returns c = λ y b. c.lent_refused.ensures
