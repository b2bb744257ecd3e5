-- `vcd_reading::carrying::carry` meets its contract: the next word is the open one.
use Rattle.vcd_words.proofs.SpanLaws.{next_is}
use Rattle.vcd_reading.proofs.CarryLaws.{open_part, carries_as}
use Rattle.vcd_reading.proofs.carrying.carry.Goals as goal

pub slice_bounds-extend-count : goal.slice_bounds-extend-count
slice_bounds-extend-count c =
    (next_is c.args.bytes.now c.args.at c.next_word-s.result c.next_word-s.ensures c.requires.at_in_bounds).ordered

pub slice_bounds-extend-start : goal.slice_bounds-extend-start
slice_bounds-extend-start c =
    (next_is c.args.bytes.now c.args.at c.next_word-s.result c.next_word-s.ensures c.requires.at_in_bounds).ordered

pub slice_bounds-extend-end : goal.slice_bounds-extend-end
slice_bounds-extend-end c =
    (next_is c.args.bytes.now c.args.at c.next_word-s.result c.next_word-s.ensures c.requires.at_in_bounds).inside

pub returns : goal.returns
returns c =
    carries_as (open_part c.args.bytes.now c.args.at c.next_word-s.result c.next_word-s.ensures c.requires.at_in_bounds c.requires.bytes_value) c.extend.ensures
