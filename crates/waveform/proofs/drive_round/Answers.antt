-- `waveform::drive_round` meets its contract. After i phases the run extends the first by their frames.
use mathlib.Core.Path.{subst}
use mathlib.Core.List.{List}
use native.Mathlib.Omega.{arith}
use Prim.Native.Nat.{ℕ}
use lib.IntN.{ℤ}
use Rattle.base.specs.InTurn.{in_turn}
use Rattle.base.proofs.InTurn.{in_turn_more}
use Rattle.waveform.specs.InnerProgress.{Extends}
use Rattle.waveform.proofs.ProgressLaws.{extends_more}
use Rattle.waveform.proofs.drive_round.Invariants.{driveAt, frames_at}
use Rattle.waveform.proofs.drive_round.Goals as goal

pub loop-i-preserved : goal.loop-i-preserved
loop-i-preserved c =
    let l = c.loop-i in
    let s = c.args in
    let f : ℕ → List ℤ = frames_at s.supply s.group.codes s.vcom s.group.frames in
    let phase : Extends s.swing l.q c.drive_phase-q.result (f l.i) =
    c.drive_phase-q.ensures (driveAt s.supply s.group.codes s.vcom l.i) c.frame_drive-drive.ensures in
    rw (← in_turn_more l.i f) (extends_more s.swing s.p l.q c.drive_phase-q.result (in_turn l.i f) _ l.invariant phase)

pub returns : goal.returns
returns c =
    let l = c.loop-i in
    let s = c.args in
    let f : ℕ → List ℤ = frames_at s.supply s.group.codes s.vcom s.group.frames in
    subst (λ (n : ℕ). Extends s.swing s.p l.q (in_turn n f)) {x = l.i} {y = 4} (omega arith) l.invariant
