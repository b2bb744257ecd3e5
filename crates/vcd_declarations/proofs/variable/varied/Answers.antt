-- `vcd_declarations::variable::varied` meets its contract: four words, and what is said of them.
use mathlib.Core.Path.{sym, ◌∙◌}
use native.Mathlib.Omega.{arith}
use borrow.Author.Tests.{eqb-false}
use Rattle.vcd_words.proofs.SpanLaws.{next_is}
use Rattle.vcd_declarations.proofs.VariableLaws.{none_varies, few_words, some_before, not_none, word_then, no_type, four_vary}
use Rattle.vcd_declarations.proofs.variable.varied.Goals as goal

pub sized-requires-clause-within : goal.sized-requires-clause-within
sized-requires-clause-within c =
    let text = c.args.text.now in
    let t = next_is text 0 c.next_word-t.result c.next_word-t.ensures (omega arith) in
    let n = next_is text c.next_word-t.result.to c.next_word-n.result c.next_word-n.ensures t.inside in
    let w = next_is text c.next_word-n.result.to c.next_word-c.result c.next_word-c.ensures n.inside in
    record { ordered = w.ordered; inside = w.inside }

pub sized-requires-clause-within_2 : goal.sized-requires-clause-within_2
sized-requires-clause-within_2 c =
    let text = c.args.text.now in
    let t = next_is text 0 c.next_word-t.result c.next_word-t.ensures (omega arith) in
    let n = next_is text c.next_word-t.result.to c.next_word-n.result c.next_word-n.ensures t.inside in
    let w = next_is text c.next_word-n.result.to c.next_word-c.result c.next_word-c.ensures n.inside in
    let r = next_is text c.next_word-c.result.to c.next_word-r.result c.next_word-r.ensures w.inside in
    record { ordered = r.ordered; inside = r.inside }

pub returns : goal.returns
returns c =
    let text = c.args.text.now in
    let t = next_is text 0 c.next_word-t.result c.next_word-t.ensures (omega arith) in
    let n = next_is text c.next_word-t.result.to c.next_word-n.result c.next_word-n.ensures t.inside in
    let w = next_is text c.next_word-n.result.to c.next_word-c.result c.next_word-c.ensures n.inside in
    let r = next_is text c.next_word-c.result.to c.next_word-r.result c.next_word-r.ensures w.inside in
    let apart = eqb-false _ _ (sym c.is_empty.ensures ∙ c.if-is_empty.false) in
    let four = r.some (omega (arith, r.ordered, apart)) in
    let third = some_before text _ _ w (not_none four) in
    let three = w.some third in
    let two = n.some (some_before text _ _ n (not_none three)) in
    let one = t.some (some_before text _ _ t (not_none two)) in
    four_vary text _ _ c.size.result c.next_word-c.result _ _ c.size.ensures (word_then one (word_then two (word_then three four)))
    (sym c.is_var_type.ensures ∙ c.if-not-is_var_type.false)
    (record { ordered = w.ordered; inside = w.inside }) third c.sized.result c.sized.ensures

pub returns-then-is_empty : goal.returns-then-is_empty
returns-then-is_empty c =
    let text = c.args.text.now in
    let t = next_is text 0 c.next_word-t.result c.next_word-t.ensures (omega arith) in
    let n = next_is text c.next_word-t.result.to c.next_word-n.result c.next_word-n.ensures t.inside in
    let w = next_is text c.next_word-n.result.to c.next_word-c.result c.next_word-c.ensures n.inside in
    let r = next_is text c.next_word-c.result.to c.next_word-r.result c.next_word-r.ensures w.inside in
    none_varies text (few_words text _ _ _ _ t n w r (sym c.is_empty.ensures ∙ c.if-is_empty.true))

pub returns-then-not-is_var_type : goal.returns-then-not-is_var_type
returns-then-not-is_var_type c =
    let text = c.args.text.now in
    let t = next_is text 0 c.next_word-t.result c.next_word-t.ensures (omega arith) in
    let n = next_is text c.next_word-t.result.to c.next_word-n.result c.next_word-n.ensures t.inside in
    let w = next_is text c.next_word-n.result.to c.next_word-c.result c.next_word-c.ensures n.inside in
    let r = next_is text c.next_word-c.result.to c.next_word-r.result c.next_word-r.ensures w.inside in
    let apart = eqb-false _ _ (sym c.is_empty.ensures ∙ c.if-is_empty.false) in
    let four = r.some (omega (arith, r.ordered, apart)) in
    let third = some_before text _ _ w (not_none four) in
    let three = w.some third in
    let two = n.some (some_before text _ _ n (not_none three)) in
    let one = t.some (some_before text _ _ t (not_none two)) in
    none_varies text (no_type _ _ _ _ _ _ (word_then one (word_then two (word_then three four))) (sym c.is_var_type.ensures ∙ c.if-not-is_var_type.true))
