-- `vcd_declarations::declared::is_declared` meets its contract. The invariant: none so far; the measure is what is left.
use mathlib.Core.Path.{sym, ap, ◌∙◌}
use Prim.Native.Nat.{◌<◌}
use native.Mathlib.Omega.{arith}
use borrow.Author.Tests.{eqb-true, eqb-false}
use Rattle.vcd_words.specs.Words.{words}
use Rattle.vcd_words.specs.Places.{part}
use Rattle.vcd_words.proofs.SpanLaws.{next_is}
use Rattle.vcd_declarations.specs.Declarations.{begins, is_last}
use Rattle.vcd_declarations.specs.InnerDeclared.{declares_code}
use Rattle.vcd_declarations.proofs.Looking.{looking_start, none_begun, none_half, found_here, none_last, still_looking, none_at_end}
use Rattle.vcd_declarations.proofs.declared.is_declared.Goals as goal

pub loop-at-init : goal.loop-at-init
loop-at-init c =
    looking_start c.args.bytes.now c.args.code.now

pub slice_bounds-sorted-count : goal.slice_bounds-sorted-count
slice_bounds-sorted-count c =
    let bytes = c.args.bytes.now in
    let code = c.args.code.now in
    let g = c.loop-at.invariant in
    let next = next_is bytes c.loop-at.at c.next_word-w.result c.next_word-w.ensures g.inside in
    next.ordered

pub slice_bounds-sorted-start : goal.slice_bounds-sorted-start
slice_bounds-sorted-start c =
    let bytes = c.args.bytes.now in
    let code = c.args.code.now in
    let g = c.loop-at.invariant in
    let next = next_is bytes c.loop-at.at c.next_word-w.result c.next_word-w.ensures g.inside in
    next.ordered

pub slice_bounds-sorted-end : goal.slice_bounds-sorted-end
slice_bounds-sorted-end c =
    let bytes = c.args.bytes.now in
    let code = c.args.code.now in
    let g = c.loop-at.invariant in
    let next = next_is bytes c.loop-at.at c.next_word-w.result c.next_word-w.ensures g.inside in
    next.inside

pub returns-then-not-begins : goal.returns-then-not-begins
returns-then-not-begins c =
    let bytes = c.args.bytes.now in
    let code = c.args.code.now in
    let g = c.loop-at.invariant in
    let next = next_is bytes c.loop-at.at c.next_word-w.result c.next_word-w.ensures g.inside in
    let known = sym (ap begins c.sorted-k.ensures) ∙ sym c.begins.ensures ∙ c.if-not-begins.true in
    none_begun bytes code c.loop-at.at g c.next_word-w.result next known

pub find_end-end-requires : goal.find_end-end-requires
find_end-end-requires c =
    let bytes = c.args.bytes.now in
    let code = c.args.code.now in
    let g = c.loop-at.invariant in
    let next = next_is bytes c.loop-at.at c.next_word-w.result c.next_word-w.ensures g.inside in
    record { at_in_bounds = next.inside; shut = record { no_solid = next.shuts } }

pub returns-then-is_empty : goal.returns-then-is_empty
returns-then-is_empty c =
    let bytes = c.args.bytes.now in
    let code = c.args.code.now in
    let g = c.loop-at.invariant in
    let next = next_is bytes c.loop-at.at c.next_word-w.result c.next_word-w.ensures g.inside in
    let known = sym (ap begins c.sorted-k.ensures) ∙ sym c.begins.ensures ∙ c.if-not-begins.false in
    none_half bytes code c.loop-at.at g c.next_word-w.result next known c.find_end-end.result c.find_end-end.ensures (eqb-true _ _ (sym c.is_empty.ensures ∙ c.if-is_empty.true))

pub slice_bounds-has_code-count : goal.slice_bounds-has_code-count
slice_bounds-has_code-count c =
    let found = c.find_end-end.ensures in
    found.behind

pub slice_bounds-has_code-start : goal.slice_bounds-has_code-start
slice_bounds-has_code-start c =
    let found = c.find_end-end.ensures in
    found.behind

pub slice_bounds-has_code-end : goal.slice_bounds-has_code-end
slice_bounds-has_code-end c =
    let found = c.find_end-end.ensures in
    omega (arith, found.ordered, found.inside)

pub returns-then-has_code : goal.returns-then-has_code
returns-then-has_code c =
    let bytes = c.args.bytes.now in
    let code = c.args.code.now in
    let g = c.loop-at.invariant in
    let next = next_is bytes c.loop-at.at c.next_word-w.result c.next_word-w.ensures g.inside in
    let known = sym (ap begins c.sorted-k.ensures) ∙ sym c.begins.ensures ∙ c.if-not-begins.false in
    let some : c.find_end-end.result.from < c.find_end-end.result.to = omega (arith, c.find_end-end.ensures.ordered, eqb-false _ _ (sym c.is_empty.ensures ∙ c.if-is_empty.false)) in
    let has = sym (ap (λ k. declares_code k (words (part bytes c.next_word-w.result.to c.find_end-end.result.from)) code) c.sorted-k.ensures) ∙ sym c.has_code.ensures ∙ c.if-has_code.true in
    found_here bytes code c.loop-at.at g c.next_word-w.result next known c.find_end-end.result c.find_end-end.ensures some has

pub returns-then-is_last : goal.returns-then-is_last
returns-then-is_last c =
    let bytes = c.args.bytes.now in
    let code = c.args.code.now in
    let g = c.loop-at.invariant in
    let next = next_is bytes c.loop-at.at c.next_word-w.result c.next_word-w.ensures g.inside in
    let known = sym (ap begins c.sorted-k.ensures) ∙ sym c.begins.ensures ∙ c.if-not-begins.false in
    let some : c.find_end-end.result.from < c.find_end-end.result.to = omega (arith, c.find_end-end.ensures.ordered, eqb-false _ _ (sym c.is_empty.ensures ∙ c.if-is_empty.false)) in
    let has = sym (ap (λ k. declares_code k (words (part bytes c.next_word-w.result.to c.find_end-end.result.from)) code) c.sorted-k.ensures) ∙ sym c.has_code.ensures ∙ c.if-has_code.false in
    none_last bytes code c.loop-at.at g c.next_word-w.result next known c.find_end-end.result c.find_end-end.ensures some has (sym (ap is_last c.sorted-k.ensures) ∙ sym c.is_last.ensures ∙ c.if-is_last.true)

pub loop-at-smaller : goal.loop-at-smaller
loop-at-smaller c =
    let bytes = c.args.bytes.now in
    let code = c.args.code.now in
    let g = c.loop-at.invariant in
    let next = next_is bytes c.loop-at.at c.next_word-w.result c.next_word-w.ensures g.inside in
    let some : c.find_end-end.result.from < c.find_end-end.result.to = omega (arith, c.find_end-end.ensures.ordered, eqb-false _ _ (sym c.is_empty.ensures ∙ c.if-is_empty.false)) in
    omega (arith, next.ordered, next.behind, c.find_end-end.ensures.behind, c.find_end-end.ensures.inside, some)

pub loop-at-preserved : goal.loop-at-preserved
loop-at-preserved c =
    let bytes = c.args.bytes.now in
    let code = c.args.code.now in
    let g = c.loop-at.invariant in
    let next = next_is bytes c.loop-at.at c.next_word-w.result c.next_word-w.ensures g.inside in
    let known = sym (ap begins c.sorted-k.ensures) ∙ sym c.begins.ensures ∙ c.if-not-begins.false in
    let some : c.find_end-end.result.from < c.find_end-end.result.to = omega (arith, c.find_end-end.ensures.ordered, eqb-false _ _ (sym c.is_empty.ensures ∙ c.if-is_empty.false)) in
    let has = sym (ap (λ k. declares_code k (words (part bytes c.next_word-w.result.to c.find_end-end.result.from)) code) c.sorted-k.ensures) ∙ sym c.has_code.ensures ∙ c.if-has_code.false in
    still_looking bytes code c.loop-at.at g c.next_word-w.result next known c.find_end-end.result c.find_end-end.ensures some has (sym (ap is_last c.sorted-k.ensures) ∙ sym c.is_last.ensures ∙ c.if-is_last.false)

pub returns : goal.returns
returns c =
    none_at_end c.args.bytes.now c.args.code.now c.loop-at.at c.loop-at.invariant c.loop-at-test.false
