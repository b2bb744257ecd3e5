-- `vcd_playing::playing::play_fine` meets its contract: the making, and then the calls.
use Rattle.base.proofs.RefusalWords.{taken, turned, handed_on}
use Rattle.controller.specs.Lent.{held}
use Rattle.vcd_playing.proofs.MakingLaws.{fine_yes, fine_no}
use Rattle.vcd_playing.proofs.playing.play_fine.Goals as goal

pub returns-in_err-chip-clause-makes : goal.returns-in_err-chip-clause-makes
returns-in_err-chip-clause-makes c =
    let a = c.args in
    let m = c.in_err-chip.ensures.makes in
    rw (handed_on _ _ c.from_residual.ensures.1) (fine_no a.config.now a.dump.now (held a.lent.now) m (turned _ m.1))

pub returns-clause-makes : goal.returns-clause-makes
returns-clause-makes c =
    let a = c.args in
    let m = c.in_ok-chip.ensures.makes in
    fine_yes a.config.now a.dump.now (held a.lent.now) _ m (taken m.1) c.play_events.ensures.turns
