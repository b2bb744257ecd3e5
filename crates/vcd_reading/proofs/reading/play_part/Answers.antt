-- `vcd_reading::reading::play_part` meets its contract: the words, and then the open one.
use Rattle.vcd_reading.proofs.CarryLaws.{front_as}
use Rattle.vcd_reading.proofs.ReadLaws.{part_played}
use Rattle.vcd_reading.proofs.reading.play_part.Goals as goal

pub returns-clause-plays : goal.returns-clause-plays
returns-clause-plays c =
    let a = c.args in
    part_played a.kept.now a.r a.bytes.now a.at _ a.word.now _ _ _ c.play_words-t.result c.carry-carried.result _ (front_as a.r.held a.kept.now c.min.ensures)
    c.play_words-t.ensures.plays c.carry-carried.ensures c.gone_on.ensures
