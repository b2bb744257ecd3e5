-- `waveform::drive_round` meets its contract. After i phases the run extends the first by their frames.
use mathlib.Core.List.{List}
use Prim.Native.Nat.{ℕ}
use lib.ListN.{get_or, replicate}
use lib.IntN.{ℤ}
use Rattle.base.specs.InTurn.{in_turn}
use Rattle.waveform.specs.declared.Supply.{Supply}
use Rattle.waveform.specs.Frames.{drive_of}
use Rattle.waveform.specs.InnerProgress.{Extends}
use Rattle.waveform.proofs.drive_round.Given as goal

-- the drive and the frames of phase p
abbrev pub driveAt : Supply → List ℕ → List ℕ → ℕ → ℤ
driveAt supply codes vcom p =
    drive_of supply.levels supply.frame_ns supply.positive_drives_black (get_or codes p 0) (get_or vcom p 0)

abbrev pub frames_at : Supply → List ℕ → List ℕ → List ℕ → ℕ → List ℤ
frames_at supply codes vcom frames p = replicate (get_or frames p 0) (driveAt supply codes vcom p)

abbrev pub invariant-loop-i : goal.invariant-loop-i
invariant-loop-i l = Extends l.swing l.initial.q l.q (in_turn l.i (frames_at l.supply l.group.codes l.vcom l.group.frames))
