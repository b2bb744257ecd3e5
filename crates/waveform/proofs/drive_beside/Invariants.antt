-- `waveform::drive_beside` meets its contract. The loop's invariant is `Going`, and the measure the frames that are left to drive.
use Rattle.waveform.proofs.BesideProgress.{Going}
use Rattle.waveform.proofs.drive_beside.Given as goal

abbrev pub invariant-loop-q : goal.invariant-loop-q
invariant-loop-q l = Going l.swing l.n l.supply l.table l.vcom l.q l.p l.v

abbrev pub decreases-loop-q : goal.decreases-loop-q
decreases-loop-q l = l.q.left
