-- `waveform::drive_group` meets its contract. After i rounds the run extends the first by their frames.
use Rattle.base.specs.InTurn.{in_turn}
use Rattle.waveform.specs.Frames.{round_frames}
use Rattle.waveform.specs.InnerProgress.{Extends}
use Rattle.waveform.proofs.drive_group.Given as goal

abbrev pub invariant-loop-i : goal.invariant-loop-i
invariant-loop-i l =
    Extends l.swing l.initial.q l.q (in_turn l.i (λ j. round_frames l.supply.levels l.supply.frame_ns l.supply.positive_drives_black l.group l.vcom))
