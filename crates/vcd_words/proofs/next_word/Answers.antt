-- `vcd_words::next_word` meets its contract: past the end nothing is left, else one scan behind the other.
use mathlib.Core.Path.{◌≡◌, sym, ◌∙◌}
use Rattle.std.proofs.Common.{◌+◌, drop}
use Rattle.vcd_words.specs.Words.{is_blank}
use Rattle.vcd_words.specs.Places.{front, span_at, is_solid}
use Rattle.vcd_words.proofs.SpanLaws.{end_span}
use Rattle.vcd_words.proofs.Scanning.{front_rest}
use Rattle.vcd_words.proofs.next_word.Goals as goal

pub returns-then-bytes-at : goal.returns-then-bytes-at
returns-then-bytes-at c = let a = c.args in sym (end_span a.bytes.now a.at c.if-bytes-at.true)

pub returns : goal.returns
unfolding span_at
returns c =
    let a = c.args in
    let from : c.blanks.result ≡ front is_blank (drop a.at a.bytes.now) = c.blanks.ensures ∙ front_rest is_blank a.bytes.now a.at in
    let to : c.solids.result ≡ front is_solid (drop (a.at + c.blanks.result) a.bytes.now) =
    c.solids.ensures ∙ front_rest is_solid a.bytes.now (a.at + c.blanks.result)
    in rw (to, from)
