-- `vcd_declarations::head::find_end` meets its contract. The invariant: no `$end` so far; the measure is what is left.
use mathlib.Core.Path.{sym, ◌∙◌}
use native.Mathlib.Omega.{arith}
use borrow.Author.Tests.{eqb-true, eqb-false}
use Rattle.vcd_words.proofs.SpanLaws.{next_is}
use Rattle.vcd_declarations.proofs.EndLaws.{before_start, before_more, end_here, no_end, end_none}
use Rattle.vcd_declarations.proofs.head.find_end.Goals as goal

pub loop-i-init : goal.loop-i-init
loop-i-init c =
    before_start c.args.bytes.now c.args.at c.requires.at_in_bounds c.requires.shut.no_solid

pub returns-then-is_empty : goal.returns-then-is_empty
returns-then-is_empty c =
    let bytes = c.args.bytes.now in
    let next = next_is bytes c.loop-i.i c.next_word-w.result c.next_word-w.ensures c.loop-i.invariant.inside in
    no_end bytes c.args.at c.loop-i.i c.loop-i.invariant c.next_word-w.result next (eqb-true _ _ (sym c.is_empty.ensures ∙ c.if-is_empty.true))

pub slice_bounds-is_end-count : goal.slice_bounds-is_end-count
slice_bounds-is_end-count c =
    let bytes = c.args.bytes.now in
    let next = next_is bytes c.loop-i.i c.next_word-w.result c.next_word-w.ensures c.loop-i.invariant.inside in
    next.ordered

pub slice_bounds-is_end-start : goal.slice_bounds-is_end-start
slice_bounds-is_end-start c =
    let bytes = c.args.bytes.now in
    let next = next_is bytes c.loop-i.i c.next_word-w.result c.next_word-w.ensures c.loop-i.invariant.inside in
    next.ordered

pub slice_bounds-is_end-end : goal.slice_bounds-is_end-end
slice_bounds-is_end-end c =
    let bytes = c.args.bytes.now in
    let next = next_is bytes c.loop-i.i c.next_word-w.result c.next_word-w.ensures c.loop-i.invariant.inside in
    next.inside

pub returns-then-is_end : goal.returns-then-is_end
returns-then-is_end c =
    let bytes = c.args.bytes.now in
    let next = next_is bytes c.loop-i.i c.next_word-w.result c.next_word-w.ensures c.loop-i.invariant.inside in
    end_here bytes c.args.at c.loop-i.i c.loop-i.invariant c.next_word-w.result next (omega (arith, next.ordered, eqb-false _ _ (sym c.is_empty.ensures ∙ c.if-is_empty.false))) (sym c.is_end.ensures ∙ c.if-is_end.true)

pub loop-i-smaller : goal.loop-i-smaller
loop-i-smaller c =
    let bytes = c.args.bytes.now in
    let next = next_is bytes c.loop-i.i c.next_word-w.result c.next_word-w.ensures c.loop-i.invariant.inside in
    omega (arith, next.ordered, next.behind, next.inside, eqb-false _ _ (sym c.is_empty.ensures ∙ c.if-is_empty.false))

pub loop-i-preserved : goal.loop-i-preserved
loop-i-preserved c =
    let bytes = c.args.bytes.now in
    let next = next_is bytes c.loop-i.i c.next_word-w.result c.next_word-w.ensures c.loop-i.invariant.inside in
    before_more bytes c.args.at c.loop-i.i c.loop-i.invariant c.next_word-w.result next (omega (arith, next.ordered, eqb-false _ _ (sym c.is_empty.ensures ∙ c.if-is_empty.false))) (sym c.is_end.ensures ∙ c.if-is_end.false)

pub returns : goal.returns
returns c =
    end_none c.args.bytes.now c.args.at c.loop-i.i c.loop-i.invariant c.loop-i-test.false
