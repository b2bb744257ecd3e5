-- `vcd_reading::carrying::solid` meets its contract: the first word, if it begins there.
use mathlib.Core.Path.{sym}
use native.Mathlib.Omega.{arith}
use Rattle.vcd_words.proofs.SpanLaws.{next_is}
use Rattle.vcd_reading.proofs.CarryLaws.{solid_first, blank_first}
use Rattle.vcd_reading.proofs.carrying.solid.Goals as goal

pub returns-then-s-eq0 : goal.returns-then-s-eq0
returns-then-s-eq0 c =
    (solid_first c.args.bytes.now c.next_word-s.result c.next_word-s.ensures c.if-s-eq0.true, (next_is c.args.bytes.now 0 c.next_word-s.result c.next_word-s.ensures (omega arith)).inside)

pub returns : goal.returns
returns c =
    (sym (blank_first c.args.bytes.now c.next_word-s.result c.next_word-s.ensures c.if-s-eq0.false), omega arith)
