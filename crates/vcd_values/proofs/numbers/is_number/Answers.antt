-- `vcd_values::numbers::is_number` meets its contract.
use Rattle.std.proofs.Common.{arith}
use Rattle.vcd_values.proofs.NumberLaws.{leading_is, number_leading}
use Rattle.vcd_values.proofs.numbers.is_number.Goals as goal

pub returns-then-not-is_empty : goal.returns-then-not-is_empty
returns-then-not-is_empty c = rw (number_leading c.args.word.now (grind arith), c.leading.ensures, leading_is c.args.word.now)
