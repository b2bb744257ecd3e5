-- `vcd_values::numbers::past_digits` meets its contract.
use mathlib.Core.Path.{◌≡◌, ◌∙◌}
use Rattle.std.proofs.Common.{arith}
use Rattle.vcd_values.specs.Numbers.{leading}
use Rattle.vcd_values.proofs.Parts.{from_place}
use Rattle.vcd_values.proofs.NumberLaws.{leading_is, leading_within}
use Rattle.vcd_values.proofs.numbers.past_digits.Goals as goal

pub slice_bounds-result-count : goal.slice_bounds-result-count
slice_bounds-result-count c = omega (arith, leading_within c.args.word.now, c.leading-n.ensures ∙ leading_is c.args.word.now)

pub slice_bounds-result-start : goal.slice_bounds-result-start
slice_bounds-result-start c = omega (arith, leading_within c.args.word.now, c.leading-n.ensures ∙ leading_is c.args.word.now)

pub returns : goal.returns
returns c =
    let n : c.leading-n.result ≡ leading c.args.word.now = c.leading-n.ensures ∙ leading_is c.args.word.now in
    rw (from_place c.leading-n.result c.args.word.now, n)
