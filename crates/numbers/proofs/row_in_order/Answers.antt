-- `numbers::row_in_order` meets its contract. At column x the first x entries of the row are written.
use mathlib.Core.Path.{◌≡◌, ◌∙◌}
use native.Mathlib.Omega.{arith}
use Prim.Native.Nat.{◌+◌}
use Rattle.numbers.specs.Filled.{filled}
use Rattle.numbers.specs.InnerRow.{number_in}
use Rattle.numbers.proofs.FilledLaws.{filled_on}
use Rattle.numbers.proofs.row_in_order.Goals as goal

pub loop-x-preserved : goal.loop-x-preserved
loop-x-preserved c =
    let l = c.loop-x in
    let p = c.args.p in
    let f = number_in p.row p.white p.old.now p.new.now in
    let n = c.number_some-x in
    let here : l.x ≡ 0 + l.x = omega arith in
    record {
      written =
          n.ensures.1
          ∙ (λ i. filled (λ k. f (l.x + k)) (here i) n.result (l.invariant.written i))
          ∙ filled_on f 0 l.x n.result c.args.numbers.now;
      most = n.ensures.0.most;
    }
