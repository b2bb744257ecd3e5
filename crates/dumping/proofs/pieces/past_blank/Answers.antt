-- `dumping::pieces::past_blank` meets its contract: the next word lies behind the place and ends in the bytes.
use native.Mathlib.Omega.{arith}
use Rattle.vcd_words.proofs.SpanLaws.{next_is}
use Rattle.dumping.proofs.pieces.past_blank.Goals as goal

pub returns-then-w-bytes : goal.returns-then-w-bytes
returns-then-w-bytes c =
    let n = next_is c.args.bytes.now c.args.from c.next_word-w.result c.next_word-w.ensures
    (omega (arith, c.requires)) in
    (omega (arith, n.behind, n.ordered), omega (arith, c.if-w-bytes.true))
