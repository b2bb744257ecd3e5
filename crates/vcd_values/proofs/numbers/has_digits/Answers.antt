-- `vcd_values::numbers::has_digits` meets its contract.
use Rattle.vcd_values.proofs.NumberLaws.{leading_is}
use Rattle.vcd_values.proofs.numbers.has_digits.Goals as goal

pub returns : goal.returns
returns c = rw (c.leading.ensures, leading_is c.args.word.now)
