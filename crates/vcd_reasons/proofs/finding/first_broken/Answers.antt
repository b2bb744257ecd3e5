-- `vcd_reasons::finding::first_broken` meets its contract: the words one by one. The invariant: those before a place do not break; the
-- measure is what is left.
use borrow.Author.Tests.{eqb-true, eqb-false}
use lib.Seq.{length-take-le}
use Rattle.vcd_reasons.proofs.FindLaws.{sofar_start, sofar_more, sofar_breaks, one_fed}
use Rattle.vcd_words.proofs.SpanLaws.{next_is}
use lib.ListN.{length}
use native.Mathlib.Omega.{arith}
use Prim.Native.Nat.{◌+◌, ◌≤◌, ◌<◌}
use mathlib.Core.Path.{refl, sym, ◌∙◌}
use Rattle.vcd_reasons.proofs.finding.first_broken.Goals as goal

pub loop-next-init : goal.loop-next-init
loop-next-init c = (sofar_start _ _ _ _, refl)

pub returns-then-is_empty : goal.returns-then-is_empty
returns-then-is_empty c = λ k. absurd (omega (arith, k, eqb-true _ _ (sym c.is_empty.ensures ∙ c.if-is_empty.true)))

pub slice_bounds-feed-end : goal.slice_bounds-feed-end
slice_bounds-feed-end c =
    let found = c.before.before.before in
    let at = found.loop-next.next in
    let n = next_is _ at found.next_word-w.result found.next_word-w.ensures (omega (arith, found.loop-next-test.true)) in
    sym (length-take-le _ _ n.inside)

pub slice_bounds-feed-end-in-loop-next : goal.slice_bounds-feed-end-in-loop-next
slice_bounds-feed-end-in-loop-next c = sym c.loop-next.invariant.1

pub returns-then-f : goal.returns-then-f
returns-then-f c = λ k. absurd (omega (arith, k))

pub returns-then-is_broken : goal.returns-then-is_broken
returns-then-is_broken c =
    let fed = c.before.before.before.before.before.before in
    let found = fed.before.before.before.before.before in
    let l = found.loop-next in
    let w = found.next_word-w.result in
    let n = next_is _ l.next w found.next_word-w.ensures (omega (arith, found.loop-next-test.true)) in
    let some : w.from < w.to = omega (arith, n.ordered, eqb-false _ _ (sym fed.is_empty.ensures ∙ fed.if-is_empty.false)) in
    let room : fed.feed-f.result.held + 20 ≤ length l.out = omega (arith, c.if-f.false, l.invariant.1) in
    let read = one_fed _ l.next w n some _ l.body fed.feed-f.result _ _ fed.feed-f.ensures room in
    λ k. sofar_breaks _ _ _ _ l.next l.body l.invariant.0 w n some _ read (sym c.is_broken.ensures ∙ c.if-is_broken.true)

pub loop-next-smaller : goal.loop-next-smaller
loop-next-smaller c =
    let fed = c.before.before.before.before.before.before in
    let found = fed.before.before.before.before.before in
    let l = found.loop-next in
    let w = found.next_word-w.result in
    let n = next_is _ l.next w found.next_word-w.ensures (omega (arith, found.loop-next-test.true)) in
    omega (arith, n.ordered, n.behind, n.inside, eqb-false _ _ (sym fed.is_empty.ensures ∙ fed.if-is_empty.false))

pub loop-next-preserved : goal.loop-next-preserved
loop-next-preserved c =
    let fed = c.before.before.before.before.before.before in
    let found = fed.before.before.before.before.before in
    let l = found.loop-next in
    let w = found.next_word-w.result in
    let n = next_is _ l.next w found.next_word-w.ensures (omega (arith, found.loop-next-test.true)) in
    let some : w.from < w.to = omega (arith, n.ordered, eqb-false _ _ (sym fed.is_empty.ensures ∙ fed.if-is_empty.false)) in
    let room : fed.feed-f.result.held + 20 ≤ length l.out = omega (arith, c.if-f.false, l.invariant.1) in
    let read = one_fed _ l.next w n some _ l.body fed.feed-f.result _ _ fed.feed-f.ensures room in
    let fine = sym c.is_broken.ensures ∙ c.if-is_broken.false in
    (sofar_more _ _ _ _ l.next l.body l.invariant.0 w n some _ read fine, fed.feed-f.ensures.size ∙ l.invariant.1)

pub returns : goal.returns
returns c = λ k. absurd (omega (arith, k))
