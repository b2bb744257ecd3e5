-- `output::pgm::wide_unit` meets its contract: the head, a row, or nothing past the last.
use Rattle.std.proofs.Common.{sym, ◌-◌}
use Rattle.text.proofs.Filling.{put_nothing}
use Rattle.output.proofs.UnitLaws.{is_head, is_row, at_wide, past_wide}
use Rattle.output.proofs.pgm.wide_unit.Goals as goal

pub returns-then-i-eq0 : goal.returns-then-i-eq0
returns-then-i-eq0 c = let a = c.args in rw (is_head a.top a.image _ a.i c.if-i-eq0.true) c.head.ensures

pub returns-then-i-image : goal.returns-then-i-image
returns-then-i-image c =
    let a = c.args in
    rw (
      is_row a.top a.image _ a.i c.if-i-eq0.false,
      at_wide a.image.width a.image.height a.picture.now a.top (a.i - 1) c.if-i-image.true,
      ← c.row_of.ensures,
    ) c.samples.ensures

pub returns-else-i-image : goal.returns-else-i-image
returns-else-i-image c =
    let a = c.args in
    rw (
      is_row a.top a.image _ a.i c.if-i-eq0.false,
      past_wide a.image.width a.image.height a.picture.now a.top (a.i - 1) c.if-i-image.false,
    ) (sym (put_nothing a.text.now))
