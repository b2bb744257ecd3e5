-- `capture::layout::trailer_of` meets its contract: four bytes each, eight and four before the end.
use Rattle.capture.specs.Layout.{offset_of, count_of}
use Rattle.capture.proofs.layout.trailer_of.Goals as goal

pub returns : goal.returns
unfolding offset_of count_of
returns c =
    let offset = c.word-offset.ensures in
    let count = c.word-count.ensures in
    record { offset_is = offset.0; count_is = count.0; offset_fits = offset.1; count_fits = count.1 }
