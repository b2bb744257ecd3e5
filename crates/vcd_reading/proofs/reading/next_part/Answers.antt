-- `vcd_reading::reading::next_part` meets its contract, by the stage: a limit that was met stays met.
use Rattle.vcd_reading.proofs.ReadLaws.{limit_more}
use Rattle.vcd_reading.proofs.reading.next_part.Goals as goal

pub returns-in-HeadTooLong-clause-stands : goal.returns-in-HeadTooLong-clause-stands
returns-in-HeadTooLong-clause-stands c =
    λ d w s. limit_more d c.args.bytes.now c.args.r c.args.kept.now c.args.word.now w _ c.in-HeadTooLong.is s
