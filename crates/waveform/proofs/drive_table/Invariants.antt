-- `waveform::drive_table` meets its contract. After k groups the run extends the first by their frames.
use mathlib.Core.List.{List}
use Prim.Native.Nat.{ℕ}
use lib.ListN.{get_or}
use lib.IntN.{ℤ}
use Rattle.base.specs.InTurn.{in_turn}
use Rattle.waveform.specs.declared.Group.{Group}
use Rattle.waveform.specs.declared.Supply.{Supply}
use Rattle.waveform.specs.Tables.{running}
use Rattle.waveform.specs.Frames.{blank, vcom_codes, group_frames}
use Rattle.waveform.specs.InnerProgress.{Extends}
use Rattle.waveform.proofs.drive_table.Given as goal

-- the frames of a group under a supply, and of group k
abbrev pub frames_of : Supply → Group → List ℕ → List ℤ
frames_of supply g codes = group_frames supply.levels supply.frame_ns supply.positive_drives_black g codes

abbrev pub frames_at : Supply → List Group → List Group → ℕ → List ℤ
frames_at supply table vcom k = frames_of supply (get_or (running table) k blank) (vcom_codes vcom k)

abbrev pub invariant-loop-k : goal.invariant-loop-k
invariant-loop-k l = Extends l.swing l.initial.q l.q (in_turn l.k (frames_at l.supply l.table l.vcom))
