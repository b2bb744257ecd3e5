-- `output::lines::unit` meets its contract: a read, a stored row, or what stands below them.
use Rattle.output.proofs.UnitLaws.{is_read, is_stored, is_last_lem}
use Rattle.output.proofs.lines.unit.Goals as goal

pub returns-then-i-reads : goal.returns-then-i-reads
returns-then-i-reads c =
    let a = c.args in
    rw (is_read a.log a.image a.events.now a.answers.now a.picture.now a.rows.now a.i c.if-i-reads.true) c.read_at.ensures

pub returns-then-j-stored : goal.returns-then-j-stored
returns-then-j-stored c =
    let a = c.args in
    rw (
      is_stored a.log a.image a.events.now a.answers.now a.picture.now a.rows.now a.i c.if-i-reads.false c.if-j-stored.true,
      ← c.row_of.ensures,
    ) c.diagnostic.ensures

pub returns : goal.returns
returns c =
    let a = c.args in
    rw (is_last_lem a.log a.image a.events.now a.answers.now a.picture.now a.rows.now a.i c.if-i-reads.false c.if-j-stored.false) c.below.ensures
