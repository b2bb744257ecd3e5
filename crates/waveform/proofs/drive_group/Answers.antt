-- `waveform::drive_group` meets its contract. After i rounds the run extends the first by their frames.
use mathlib.Core.List.{List}
use Prim.Native.Nat.{ℕ}
use lib.IntN.{ℤ}
use Rattle.base.specs.InTurn.{in_turn}
use Rattle.base.proofs.InTurn.{in_turn_more}
use Rattle.waveform.specs.Frames.{round_frames}
use Rattle.waveform.proofs.ProgressLaws.{extends_more}
use Rattle.waveform.proofs.drive_group.Goals as goal

pub loop-i-preserved : goal.loop-i-preserved
loop-i-preserved c =
    let l = c.loop-i in
    let s = c.args in
    let f : ℕ → List ℤ =
    λ j. round_frames s.supply.levels s.supply.frame_ns s.supply.positive_drives_black s.group s.vcom in
    let r = c.drive_round-q in
    let more = extends_more s.swing s.p l.q r.result (in_turn l.i f) (f l.i) l.invariant r.ensures in
    rw (← in_turn_more l.i f) more
