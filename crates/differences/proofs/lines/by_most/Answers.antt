-- `differences::lines::by_most` meets its contract: none differs, or some do.
use Rattle.std.proofs.Common.{append_assoc}
use borrow.Author.Tests.{eq-eqb, ne_eqb}
use Rattle.text.proofs.Filling.{put_put}
use Rattle.differences.proofs.lines.by_most.Goals.{then-d-ne0, else-d-ne0}
use Rattle.differences.proofs.lines.by_most.Goals as goal

pub returns : goal.returns
returns c =
    elim c.if-d-ne0.branch [
      | then-d-ne0 w ↦
          rw (c.byte.ensures, w.text-is, w.number.ensures, w.put.ensures) (simp (ne_eqb _ _ w.if-d-ne0.true, put_put, append_assoc))
      | else-d-ne0 w ↦ rw (c.byte.ensures, w.text-is) (simp (eq-eqb _ _ w.if-d-ne0.false))
    ]
