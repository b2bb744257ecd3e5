-- `vcd_reading::closing::close_in` meets its contract: what is lent as one holds what the slices hold.
use borrow.Author.Rules.{rules}
use Rattle.vcd_reading.proofs.CloseLaws.{closes_in}
use Rattle.vcd_reading.proofs.closing.close_in.Goals as goal

pub returns : goal.returns
returns c =
    λ d w s. closes_in c.args.r.stage d c.close_by.result w _ c.close_by.result.chip (search rules) (search rules) (search rules) (search rules) (search rules) (c.close_by.ensures.closes d w s)
