-- `vcd_reading::reading::part_in` meets its contract: what is lent as one holds what the slices hold.
use mathlib.Core.List.{◌++◌}
use borrow.Author.Rules.{rules}
use Rattle.vcd_reading.proofs.ReadLaws.{stands_in}
use Rattle.vcd_reading.proofs.reading.part_in.Goals as goal

pub returns : goal.returns
returns c =
    λ d w s. stands_in (d ++ c.args.bytes.now) _ _ c.next_part.result.reader w c.next_part.result.chip (search rules) (search rules) (search rules) (search rules) (search rules) (c.next_part.ensures.stands d w s)
