-- A byte that is a digit is the place; any other is passed over, up to the end.
use mathlib.Core.Path.{sym, ◌∙◌}
use Rattle.test_numerals.proofs.RowsLaws.{skipped_digit, skipped_other, skipped_end}
use Rattle.test_numerals.proofs.scan.skip.Goals as goal

pub returns-then-digit : goal.returns-then-digit
returns-then-digit c =
    sym (c.loop-i.invariant ∙ skipped_digit c.args.s.now c.loop-i.i c.loop-i-test.true (sym c.digit.ensures ∙ c.if-digit.true))

pub loop-i-preserved : goal.loop-i-preserved
loop-i-preserved c =
    c.loop-i.invariant ∙ skipped_other c.args.s.now c.loop-i.i c.loop-i-test.true (sym c.digit.ensures ∙ c.if-digit.false)

pub returns : goal.returns
returns c =
    sym (c.loop-i.invariant ∙ skipped_end c.args.s.now c.loop-i.i c.loop-i-test.false)
