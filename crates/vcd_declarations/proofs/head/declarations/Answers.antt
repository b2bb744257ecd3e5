-- `vcd_declarations::head::declarations` meets its contract. The invariant: what was told so far, and then those from the place on, are all declarations; the measure is what is left.
use mathlib.Core.Path.{sym, ap, ◌∙◌}
use Prim.Native.Nat.{◌<◌}
use native.Mathlib.Omega.{arith}
use borrow.Author.Tests.{eqb-true, eqb-false}
use Rattle.vcd_words.proofs.SpanLaws.{next_is}
use Rattle.vcd_declarations.specs.Declarations.{begins, is_last}
use Rattle.vcd_declarations.proofs.Going.{going_start, begins_none, half, last_one, one_more_lem, at_end}
use Rattle.vcd_declarations.proofs.head.declarations.Goals as goal

pub loop-at-init : goal.loop-at-init
loop-at-init c =
    rw c.blank-head.ensures (going_start c.args.bytes.now)

pub slice_bounds-sorted-count : goal.slice_bounds-sorted-count
slice_bounds-sorted-count c =
    let bytes = c.args.bytes.now in
    let g = c.loop-at.invariant in
    let next = next_is bytes c.loop-at.at c.next_word-w.result c.next_word-w.ensures g.inside in
    next.ordered

pub slice_bounds-sorted-start : goal.slice_bounds-sorted-start
slice_bounds-sorted-start c =
    let bytes = c.args.bytes.now in
    let g = c.loop-at.invariant in
    let next = next_is bytes c.loop-at.at c.next_word-w.result c.next_word-w.ensures g.inside in
    next.ordered

pub slice_bounds-sorted-end : goal.slice_bounds-sorted-end
slice_bounds-sorted-end c =
    let bytes = c.args.bytes.now in
    let g = c.loop-at.invariant in
    let next = next_is bytes c.loop-at.at c.next_word-w.result c.next_word-w.ensures g.inside in
    next.inside

pub returns-then-not-begins : goal.returns-then-not-begins
returns-then-not-begins c =
    let bytes = c.args.bytes.now in
    let g = c.loop-at.invariant in
    let next = next_is bytes c.loop-at.at c.next_word-w.result c.next_word-w.ensures g.inside in
    let known = sym (ap begins c.sorted-k.ensures) ∙ sym c.begins.ensures ∙ c.if-not-begins.true in
    begins_none bytes c.loop-at.head c.loop-at.at g c.next_word-w.result next known

pub find_end-end-requires : goal.find_end-end-requires
find_end-end-requires c =
    let bytes = c.args.bytes.now in
    let g = c.loop-at.invariant in
    let next = next_is bytes c.loop-at.at c.next_word-w.result c.next_word-w.ensures g.inside in
    record { at_in_bounds = next.inside; shut = record { no_solid = next.shuts } }

pub returns-then-is_empty : goal.returns-then-is_empty
returns-then-is_empty c =
    let bytes = c.args.bytes.now in
    let g = c.loop-at.invariant in
    let next = next_is bytes c.loop-at.at c.next_word-w.result c.next_word-w.ensures g.inside in
    let known = sym (ap begins c.sorted-k.ensures) ∙ sym c.begins.ensures ∙ c.if-not-begins.false in
    half bytes c.loop-at.head c.loop-at.at g c.next_word-w.result next known c.find_end-end.result c.find_end-end.ensures (eqb-true _ _ (sym c.is_empty.ensures ∙ c.if-is_empty.true))

pub declares-head-requires : goal.declares-head-requires
declares-head-requires c =
    let found = c.find_end-end.ensures in
    record { ordered = found.behind; inside = omega (arith, found.ordered, found.inside) }

pub returns-then-is_last : goal.returns-then-is_last
returns-then-is_last c =
    let bytes = c.args.bytes.now in
    let g = c.loop-at.invariant in
    let next = next_is bytes c.loop-at.at c.next_word-w.result c.next_word-w.ensures g.inside in
    let known = sym (ap begins c.sorted-k.ensures) ∙ sym c.begins.ensures ∙ c.if-not-begins.false in
    let some : c.find_end-end.result.from < c.find_end-end.result.to = omega (arith, c.find_end-end.ensures.ordered, eqb-false _ _ (sym c.is_empty.ensures ∙ c.if-is_empty.false)) in
    last_one bytes c.loop-at.head c.loop-at.at g c.next_word-w.result next known c.find_end-end.result c.find_end-end.ensures some c.declares-head.result
    (rw (← c.sorted-k.ensures) (c.declares-head.ensures g.so_far g.tells))
    (sym (ap is_last c.sorted-k.ensures) ∙ sym c.is_last.ensures ∙ c.if-is_last.true)

pub loop-at-smaller : goal.loop-at-smaller
loop-at-smaller c =
    let bytes = c.args.bytes.now in
    let g = c.loop-at.invariant in
    let next = next_is bytes c.loop-at.at c.next_word-w.result c.next_word-w.ensures g.inside in
    let some : c.find_end-end.result.from < c.find_end-end.result.to = omega (arith, c.find_end-end.ensures.ordered, eqb-false _ _ (sym c.is_empty.ensures ∙ c.if-is_empty.false)) in
    omega (arith, next.ordered, next.behind, c.find_end-end.ensures.behind, c.find_end-end.ensures.inside, some)

pub loop-at-preserved : goal.loop-at-preserved
loop-at-preserved c =
    let bytes = c.args.bytes.now in
    let g = c.loop-at.invariant in
    let next = next_is bytes c.loop-at.at c.next_word-w.result c.next_word-w.ensures g.inside in
    let known = sym (ap begins c.sorted-k.ensures) ∙ sym c.begins.ensures ∙ c.if-not-begins.false in
    let some : c.find_end-end.result.from < c.find_end-end.result.to = omega (arith, c.find_end-end.ensures.ordered, eqb-false _ _ (sym c.is_empty.ensures ∙ c.if-is_empty.false)) in
    one_more_lem bytes c.loop-at.head c.loop-at.at g c.next_word-w.result next known c.find_end-end.result c.find_end-end.ensures some c.declares-head.result
    (rw (← c.sorted-k.ensures) (c.declares-head.ensures g.so_far g.tells))
    (sym (ap is_last c.sorted-k.ensures) ∙ sym c.is_last.ensures ∙ c.if-is_last.false)

pub returns : goal.returns
returns c =
    at_end c.args.bytes.now c.loop-at.head c.loop-at.at c.loop-at.invariant c.loop-at-test.false
