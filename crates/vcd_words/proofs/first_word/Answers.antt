-- `vcd_words::first_word` meets its contract: by what is known of the next word.
use mathlib.Core.Path.{◌≡◌, sym, ◌∙◌}
use Prim.Native.Nat.{◌-◌}
use native.Mathlib.Omega.{arith}
use borrow.Author.Tests.{eqb-true, eqb-false}
use lib.ListN.{length, length-drop, take, drop}
use lib.Seq.{take_all}
use Rattle.vcd_words.proofs.SpanLaws.{next_is}
use Rattle.vcd_words.proofs.first_word.Goals as goal

pub returns-then-is_empty : goal.returns-then-is_empty
returns-then-is_empty c =
    let next = next_is c.args.bytes.now 0 c.next_word-w.result c.next_word-w.ensures (omega arith) in
    next.none (eqb-true _ _ (sym c.is_empty.ensures ∙ c.if-is_empty.true))

pub returns : goal.returns
returns c =
    let bytes = c.args.bytes.now in
    let w = c.next_word-w.result in
    let next = next_is bytes 0 w c.next_word-w.ensures (omega arith) in
    let size = length-drop w.to bytes in
    let rest : take (length bytes - w.to) (drop w.to bytes) ≡ drop w.to bytes = take_all (length bytes - w.to) (drop w.to bytes) (omega (arith, size)) in
    let apart = eqb-false _ _ (sym c.is_empty.ensures ∙ c.if-is_empty.false) in
    rw rest (record { words_are = next.some (omega (arith, next.ordered, apart)); shorter = omega (arith, size, next.ordered, next.inside, apart) })
