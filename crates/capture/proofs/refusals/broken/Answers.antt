-- `capture::refusals::broken` meets its contract: the tests in turn; 10 × count is below 2^36, so it is exact.
use borrow.Author.Tests.{lt-ltb, le-ltb, eq-eqb, ne_eqb}
use Rattle.capture.specs.Refused.{broken}
use Rattle.capture.proofs.refusals.broken.Goals as goal

pub returns-then-file : goal.returns-then-file
unfolding broken
returns-then-file c = simp (lt-ltb _ _ c.if-file.true)

pub returns-then-file-gt-MOST_BYTES : goal.returns-then-file-gt-MOST_BYTES
unfolding broken
returns-then-file-gt-MOST_BYTES c = simp (lt-ltb _ _ c.if-file-gt-MOST_BYTES.true, le-ltb _ _ c.if-file.false)

pub returns-then-t : goal.returns-then-t
unfolding broken
returns-then-t c =
    let t = c.requires in
    rw (← t.offset_is, ← t.count_is)
    (simp (
      ne_eqb _ _ c.if-t.true,
      le-ltb _ _ c.if-file-gt-MOST_BYTES.false,
      le-ltb _ _ c.if-file.false,
    ))

pub returns-then-file-t : goal.returns-then-file-t
unfolding broken
returns-then-file-t c =
    let t = c.requires in
    rw (← t.offset_is, ← t.count_is)
    (simp (
      eq-eqb _ _ c.if-file-t.true,
      eq-eqb _ _ c.if-t.false,
      le-ltb _ _ c.if-file-gt-MOST_BYTES.false,
      le-ltb _ _ c.if-file.false,
    ))

pub returns : goal.returns
unfolding broken
returns c =
    let t = c.requires in
    rw (← c.rated.ensures, ← t.offset_is, ← t.count_is)
    (simp (
      ne_eqb _ _ c.if-file-t.false,
      eq-eqb _ _ c.if-t.false,
      le-ltb _ _ c.if-file-gt-MOST_BYTES.false,
      le-ltb _ _ c.if-file.false,
    ))
