-- `output::wide::wide_part` meets its contract: the units up to the next one are in the buffer.
use Rattle.std.proofs.Common.{sym, ◌∙◌, ◌≡◌, ◌<◌, length, arith}
use borrow.Author.Tests.{leb-true, leb-false}
use Rattle.text.proofs.Filling.{puts}
use Rattle.glass.specs.Gray.{top_of}
use Rattle.output.specs.Units.{wide_of}
use Rattle.output.proofs.PartLaws.{along_more, along_full, along_end, lays_as}
use Rattle.output.proofs.wide.wide_part.Goals as goal

pub returns-then-is_full : goal.returns-then-is_full
returns-then-is_full c =
    let a = c.args in
    let l = c.loop-next in
    let us = wide_of a.form (top_of a.top) a.o a.picture.now in
    let end : c.wide_count-end.result ≡ length us = c.wide_count-end.ensures (top_of a.top) a.picture.now in
    let k : l.next < length us = omega (arith, end, c.loop-next-test.true) in
    let f = leb-true _ _ (sym c.is_full.ensures ∙ c.if-is_full.true) in
    lays_as (grind (arith, puts)) (grind arith) c.held-held.ensures
    (along_full us a.from c.new-text.result.buffer l.next l.text l.invariant.along c.unit.new.text k (rw (← c.top_of-white.ensures) c.unit.ensures) f)

pub loop-next-preserved : goal.loop-next-preserved
loop-next-preserved c =
    let a = c.args in
    let l = c.loop-next in
    let us = wide_of a.form (top_of a.top) a.o a.picture.now in
    let end : c.wide_count-end.result ≡ length us = c.wide_count-end.ensures (top_of a.top) a.picture.now in
    let k : l.next < length us = omega (arith, end, c.loop-next-test.true) in
    let f = leb-false _ _ (sym c.is_full.ensures ∙ c.if-is_full.false) in
    record {
      along = along_more us a.from c.new-text.result.buffer l.next l.text l.invariant.along c.unit.new.text k (rw (← c.top_of-white.ensures) c.unit.ensures) f;
      top = omega (arith, c.loop-next-test.true);
      long = omega (arith, l.invariant.long);
    }

pub returns : goal.returns
returns c =
    let a = c.args in
    let l = c.loop-next in
    let us = wide_of a.form (top_of a.top) a.o a.picture.now in
    let end : c.wide_count-end.result ≡ length us = c.wide_count-end.ensures (top_of a.top) a.picture.now in
    let n : c.max.result ≡ l.next = omega (arith, l.invariant.top, c.max.ensures, c.loop-next-test.false) in
    rw n
    (lays_as (grind (arith, puts)) (grind arith) c.held.ensures
    (along_end us a.from c.new-text.result.buffer l.next l.text l.invariant.along (omega (arith, end, c.loop-next-test.false))))
