-- `vcd_simulation::feeding::feed` meets its contract: the words one by one. The invariant: what was read so far, and then the rest, is all; the measure is what is left.
use mathlib.Core.Path.{sym, ◌∙◌}
use Prim.Native.Nat.{◌<◌}
use native.Mathlib.Omega.{arith}
use borrow.Author.Tests.{eqb-true, eqb-false}
use lib.ListN.{drop}
use Rattle.vcd_words.proofs.SpanLaws.{next_is}
use Rattle.vcd_simulation.specs.Feed.{codes_by}
use Rattle.vcd_simulation.proofs.FeedLaws.{feeding_stops, feeding_more, held_inside, none_by, over_by, open_by, some_by, open_by_word}
use Rattle.vcd_simulation.proofs.feeding.feed.Goals as goal
use Rattle.vcd_simulation.proofs.feeding.feed.Goals.{then-is_empty-via-then-is_empty, then-is_empty-via-else-is_empty+then-is_open}
use Rattle.vcd_simulation.proofs.feeding.feed.Goals.{then-is_empty-via-else-is_empty+else-is_open+then-out-held-lt-ROOM}

pub returns-then-is_empty : goal.returns-then-is_empty
returns-then-is_empty c =
    let a = c.args in
    let bytes = a.bytes.now in
    let l = c.loop-next in
    let s = c.next_word-w.result in
    let next = next_is bytes l.next s c.next_word-w.ensures (omega (arith, c.loop-next-test.true)) in
    feeding_stops (codes_by a.head.now a.h) bytes a.at a.last a.b l.next l.held l.body a.out.now l.out l.invariant
    (λ k. elim c.then-is_empty.branch [
      | then-is_empty-via-then-is_empty w ↦ none_by a.last (drop l.next bytes) (next.none (eqb-true _ _ (sym c.is_empty.ensures ∙ w.if-is_empty.true)))
      | then-is_empty-via-else-is_empty+then-is_open w ↦ open_by bytes l.next s next a.last (sym w.is_open.ensures ∙ w.if-is_open.true)
      | then-is_empty-via-else-is_empty+else-is_open+then-out-held-lt-ROOM w ↦ absurd (omega (arith, k, w.if-out-held-lt-ROOM.true, l.invariant.size))
    ])

pub loop-next-smaller : goal.loop-next-smaller
loop-next-smaller c =
    let bytes = c.args.bytes.now in
    let next = next_is bytes c.loop-next.next c.next_word-w.result c.next_word-w.ensures (omega (arith, c.loop-next-test.true)) in
    omega (arith, next.ordered, next.behind, next.inside, eqb-false _ _ (sym c.is_empty.ensures ∙ c.if-is_empty.false))

pub loop-next-preserved : goal.loop-next-preserved
loop-next-preserved c =
    let a = c.args in
    let bytes = a.bytes.now in
    let l = c.loop-next in
    let s = c.next_word-w.result in
    let next = next_is bytes l.next s c.next_word-w.ensures (omega (arith, c.loop-next-test.true)) in
    let some : s.from < s.to = omega (arith, next.ordered, eqb-false _ _ (sym c.is_empty.ensures ∙ c.if-is_empty.false)) in
    let closed = sym c.is_open.ensures ∙ c.if-is_open.false in
    let step = c.word_done-s.ensures in
    feeding_more (codes_by a.head.now a.h) bytes a.at a.last a.b l.next l.held l.body a.out.now l.out l.invariant _ s.to c.word_done-s.result _
    (omega (arith, next.behind, some)) (λ k. next.inside)
    (some_by bytes l.next s next a.last some closed)
    (omega (arith, c.if-out-held-lt-ROOM.false, l.invariant.held_in)) step (held_inside _ _ _ _ _ step.holds l.invariant.held_in)
    (open_by_word bytes l.next s next a.last closed)

pub returns-after-loop-next : goal.returns-after-loop-next
returns-after-loop-next c =
    let a = c.args in
    let l = c.loop-next in
    feeding_stops (codes_by a.head.now a.h) a.bytes.now a.at a.last a.b l.next l.held l.body a.out.now l.out l.invariant
    (λ k. over_by a.last a.bytes.now l.next c.loop-next-test.false)
