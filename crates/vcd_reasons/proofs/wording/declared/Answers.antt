-- `vcd_reasons::wording::declared` meets its contract: a test after the other.
use Rattle.vcd_reasons.proofs.wording.declared.Goals as goal

pub returns-then-b : goal.returns-then-b
returns-then-b c = rw c.if-b.true c.put.ensures

pub returns-then-b-2 : goal.returns-then-b-2
returns-then-b-2 c = rw (c.if-b.false, c.if-b-2.true) c.put-then-b-2.ensures

pub returns-else-b-2 : goal.returns-else-b-2
returns-else-b-2 c = rw (c.if-b.false, c.if-b-2.false) c.put-else-b-2.ensures
