-- `numbers::number_some` meets its contract: what answered 0 wrote nothing.
use mathlib.Core.Path.{◌∙◌}
use native.Mathlib.Omega.{arith}
use Rattle.numbers.proofs.FilledLaws.{filled_below}
use Rattle.numbers.proofs.NumberLaws.{outside_numbers}
use Rattle.numbers.proofs.number_some.Goals as goal

pub returns-then-alone-gt0 : goal.returns-then-alone-gt0
returns-then-alone-gt0 c =
    let s = c.args in
    let p = s.p in
    let n = c.leave_some-alone in
    (record { least = omega arith; most = n.ensures.0.most }, n.ensures.1 ∙ filled_below _ _ s.x n.result s.numbers.now (outside_numbers p.row p.white p.old.now p.new.now s.x n.result s.count n.ensures.0))
