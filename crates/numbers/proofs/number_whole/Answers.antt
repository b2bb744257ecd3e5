-- `numbers::number_whole` meets its contract: the columns of whole bytes are the pixels of the bytes.
use mathlib.Core.Path.{◌∙◌}
use Prim.Native.Nat.{◌*◌}
use Rattle.numbers.proofs.FilledLaws.{filled_below}
use Rattle.numbers.proofs.NumberLaws.{whole_numbers}
use Rattle.numbers.proofs.number_whole.Goals as goal

pub returns-then-at-n : goal.returns-then-at-n
returns-then-at-n c =
    let s = c.args in
    let p = s.p in
    let n = c.bytes_from-bytes in
    (n.ensures.most, c.number_bytes.ensures ∙ filled_below _ _ s.x (n.result * 8) s.numbers.now (whole_numbers p.row p.white p.old.now p.new.now s.x n.result s.count n.ensures))
