-- `lending::come` meets its contract: turned back, or settled; what `settle` asks of swing and states is known then (`come_ready`).
use Rattle.controller.specs.World.{buffers}
use Rattle.base.proofs.RefusalWords.{handed_on}
use Rattle.lending.proofs.Coming.{come_ready, come_yes, come_no}
use mathlib.Core.Path.{refl}
use Rattle.lending.proofs.come.Goals as goal

pub returns-in_err-turned_back-clause-gives : goal.returns-in_err-turned_back-clause-gives
returns-in_err-turned_back-clause-gives c = rw (handed_on _ _ c.from_residual.ensures.1) c.in_err-turned_back.ensures

pub returns-in_err-turned_back-clause-comes : goal.returns-in_err-turned_back-clause-comes
returns-in_err-turned_back-clause-comes c =
    let a = c.args in
    come_no a.asserted a.at a.p (buffers a.old.now a.new.now a.states.now a.picture.now a.rows.now) _ c.in_err-turned_back.ensures

pub settle-requires : goal.settle-requires
settle-requires c =
    let a = c.args in
    come_ready a.asserted a.at a.p (buffers a.old.now a.new.now a.states.now a.picture.now a.rows.now) c.in_ok-turned_back.ensures

pub returns-clause-comes : goal.returns-clause-comes
returns-clause-comes c =
    let a = c.args in
    let s = c.settle.ensures in
    come_yes a.asserted a.at a.p (buffers a.old.now a.new.now a.states.now a.picture.now a.rows.now) c.in_ok-turned_back.ensures s.old_after refl s.states_after s.picture_after refl
