-- `numbers::eights::number_bytes` meets its contract. After i turns the numbers of the first i bytes are written.
use mathlib.Core.Path.{ap, ◌∙◌}
use Prim.Native.Nat.{◌+◌, ◌*◌}
use Rattle.numbers.specs.Filled.{filled}
use Rattle.numbers.specs.InnerRow.{byte_of}
use Rattle.numbers.proofs.EightLaws.{eight_more}
use Rattle.numbers.proofs.eights.number_bytes.Goals as goal

pub loop-i-preserved : goal.loop-i-preserved
loop-i-preserved c =
    let l = c.loop-i in
    let s = c.args in
    c.put_eight.ensures
    ∙ ap (filled (byte_of c.eight.result) (s.at + l.i * 8) 8) l.invariant
    ∙ eight_more s.old.now s.new.now s.place s.white s.at l.i _ _ c.eight.result s.numbers.now c.whites-o.ensures c.whites-w.ensures c.eight.ensures
