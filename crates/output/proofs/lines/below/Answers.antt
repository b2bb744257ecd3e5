-- `output::lines::below` meets its contract: the dropped count, the head, a row, or nothing past the last.
use Rattle.std.proofs.Common.{sym}
use Rattle.text.proofs.Filling.{put_nothing}
use Rattle.output.proofs.UnitLaws.{is_dropped, is_image, is_greys, is_past}
use Rattle.output.proofs.lines.below.Goals as goal

pub returns-then-k-eq0 : goal.returns-then-k-eq0
returns-then-k-eq0 c = let a = c.args in rw (is_dropped a.lost a.i a.picture.now a.k c.if-k-eq0.true) c.dropped.ensures

pub returns-then-k-eq1 : goal.returns-then-k-eq1
returns-then-k-eq1 c = let a = c.args in rw (is_image a.lost a.i a.picture.now a.k c.if-k-eq1.true) c.image.ensures

pub returns-then-k-i : goal.returns-then-k-i
returns-then-k-i c =
    let a = c.args in
    rw (is_greys a.lost a.i a.picture.now a.k c.if-k-eq0.false c.if-k-eq1.false c.if-k-i.true, ← c.row_of.ensures) c.greys.ensures

pub returns-else-k-i : goal.returns-else-k-i
returns-else-k-i c =
    let a = c.args in
    rw (is_past a.lost a.i a.picture.now a.k c.if-k-eq0.false c.if-k-eq1.false c.if-k-i.false) (sym (put_nothing a.text.now))
