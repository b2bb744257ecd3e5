-- `output::lines::read_at` meets its contract: an event that is a read, or none.
use Rattle.std.proofs.Common.{sym}
use Rattle.text.proofs.Filling.{put_nothing}
use Rattle.output.proofs.UnitLaws.{read_past, read_other, read_is}
use Rattle.output.proofs.lines.read_at.Goals.{else-i-answers-via-then-i-answers+else-answers-i-ne-NO_READ, else-i-answers-via-else-i-answers}
use Rattle.output.proofs.lines.read_at.Goals as goal

pub returns-then-answers-i-ne-NO_READ : goal.returns-then-answers-i-ne-NO_READ
returns-then-answers-i-ne-NO_READ c =
    let a = c.args in
    rw (← read_is a.events.now a.answers.now a.i c.if-i-answers.true c.if-answers-i-ne-NO_READ.true, ← c.little.ensures) c.read.ensures

pub returns-else-i-answers : goal.returns-else-i-answers
returns-else-i-answers c =
    let a = c.args in
    elim c.else-i-answers.branch [
      | else-i-answers-via-then-i-answers+else-answers-i-ne-NO_READ w ↦
          rw (← read_other a.events.now a.answers.now a.i w.if-i-answers.true w.if-answers-i-ne-NO_READ.false) (sym (put_nothing a.text.now))
      | else-i-answers-via-else-i-answers w ↦
          rw (← read_past a.events.now a.answers.now a.i w.if-i-answers.false) (sym (put_nothing a.text.now))
    ]
