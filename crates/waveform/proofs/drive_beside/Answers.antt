-- `waveform::drive_beside` meets its contract. The loop's invariant is `Going`, and the measure the frames that are left to drive.
use mathlib.Core.Path.{subst}
use mathlib.Core.List.{[]}
use Prim.Native.Nat.{ℕ}
use native.Mathlib.Omega.{arith}
use lib.ListN.{replicate}
use Rattle.waveform.specs.InnerProgress.{Driven, Extends}
use Rattle.waveform.specs.InnerPlaces.{common_run}
use Rattle.waveform.proofs.ProgressLaws.{driven_start}
use Rattle.waveform.proofs.BesideProgress.{drive, going_start, going_more, going_less, going_end, going_cut}
use Rattle.waveform.proofs.drive_beside.Goals.{After-drive_phase-q, At-loop-q, Start}
use Rattle.waveform.proofs.drive_beside.Goals as goal

pub first-p-requires : goal.first-p-requires
first-p-requires c = c.running_groups-runs.ensures

pub first-v-requires : goal.first-v-requires
first-v-requires c = c.running_groups-vcom_runs.ensures

pub loop-q-init : goal.loop-q-init
loop-q-init c =
    let s = c.args in
    let start : Driven s.swing s.n (record { run = c.identity.result; left = s.n }) [] =
    rw c.identity.ensures (driven_start s.swing s.n) in
    going_start s.swing s.n s.supply s.table s.vcom _ _ _ start c.first-p.ensures c.first-v.ensures

pub returns-then-p-eq0 : goal.returns-then-p-eq0
returns-then-p-eq0 c =
    let l = c.loop-q in
    let s = c.args in
    going_end s.swing s.n s.supply s.table s.vcom l.q l.p l.v l.invariant c.if-p-eq0.true

-- one run driven
module _ (c : After-drive_phase-q) where
  abbrev at : At-loop-q
  at = c.before.before.before.before.before.before.before

  abbrev s : Start
  s = at.before.before.before.before.before.before

  driven : Extends s.args.swing at.loop-q.q c.drive_phase-q.result
      (replicate (common_run at.loop-q.p at.loop-q.v) (drive s.args.supply at.loop-q.p.code at.loop-q.v.code))
  driven =
      let d = drive s.args.supply at.loop-q.p.code at.loop-q.v.code in
      subst (λ (k : ℕ). Extends s.args.swing at.loop-q.q c.drive_phase-q.result (replicate k d)) c.common_run-k.ensures
      (c.drive_phase-q.ensures d c.frame_drive.ensures)

pub after-p-requires : goal.after-p-requires
after-p-requires c = ((at c).running_groups-runs.ensures, (at c).loop-q.invariant.pixel.placed)

pub after-v-requires : goal.after-v-requires
after-v-requires c = ((at c.before).running_groups-vcom_runs.ensures, (at c.before).loop-q.invariant.second.placed)

pub loop-q-smaller : goal.loop-q-smaller
loop-q-smaller c =
    let d = c.before.before in
    let l = (at d).loop-q in
    let a = (s d).args in
    going_less a.swing a.n a.supply a.table a.vcom l.q l.p l.v l.invariant d.drive_phase-q.result (driven d)
    (omega arith) (omega arith)

pub loop-q-preserved : goal.loop-q-preserved
loop-q-preserved c =
    let d = c.before.before in
    let l = (at d).loop-q in
    let a = (s d).args in
    let k = d.common_run-k.ensures in
    going_more a.swing a.n a.supply a.table a.vcom l.q l.p l.v l.invariant d.drive_phase-q.result (driven d) _ _
    (rw k at c.after-p.ensures) (rw k at c.after-v.ensures)

pub returns : goal.returns
returns c =
    let l = c.loop-q in
    let s = c.args in
    going_cut s.swing s.n s.supply s.table s.vcom l.q l.p l.v l.invariant (omega (arith, c.loop-q-test.false))
