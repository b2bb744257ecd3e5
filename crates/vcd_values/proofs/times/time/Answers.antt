-- `vcd_values::times::time` meets its contract.
use mathlib.Core.Path.{sym}
use Rattle.std.proofs.Common.{arith}
use Rattle.std.proofs.lemmas.Grind.{common_steps}
use Rattle.vcd_values.proofs.NumberLaws.{time_none, time_start, time_over}
use Rattle.vcd_values.proofs.times.time.Goals as goal

pub returns-then-is_empty : goal.returns-then-is_empty
returns-then-is_empty c = sym (time_none c.args.word.now (grind arith))

pub loop-b-init : goal.loop-b-init
loop-b-init c = (time_start c.args.word.now (grind arith), omega arith)

pub returns-in_err-tens : goal.returns-in_err-tens
returns-in_err-tens c =
    let l = c.loop-b in
    grind (arith, common_steps, time_over l.value c.args.word.now l.b-index c.loop-b-test.true)

pub returns-in_err-value : goal.returns-in_err-value
returns-in_err-value c =
    let l = c.loop-b in
    grind (arith, common_steps, time_over l.value c.args.word.now l.b-index c.loop-b-test.true)
