-- A refresh as the code drives it: the run so far, and the frames that are left to drive.
use Rattle.std.specs.Prelude.{◌≡◌, List, ◌++◌, ℕ, ◌-◌, min, length, take, ℤ}
use Rattle.base.specs.Integer.{up, dn}
use Rattle.base.specs.Word.{top}
use Rattle.glass.specs.Transfer.{Acts}
use Rattle.waveform.specs.declared.Drive.{Drive}
use Rattle.waveform.specs.declared.Volts.{Volts}
use Rattle.waveform.specs.declared.Progress.{Progress}
use Rattle.waveform.specs.declared.Supply.{Supply}
use Rattle.waveform.specs.declared.Group.{Group}
use Rattle.waveform.specs.Frames.{table_frames}

-- a level's two parts, in millivolts
abbrev pub Parts : ℤ → Volts
Parts z = record { above = up z; below = dn z }

-- a drive's two parts, held to 64 bits
abbrev pub Drives : ℤ → Drive
Drives z = record { up = min (up z) top; down = min (dn z) top }

-- of b frames to drive, p has driven those of ds, as far as they go
pub record Driven (s b : ℕ) (p : Progress) (ds : List ℤ) : Type 0 where
  pub acts : Acts s p.run (take b ds)
  pub rest : p.left ≡ b - length ds

-- q is p with the frames ds driven after
abbrev pub Extends : ℕ → Progress → Progress → List ℤ → Type 0
Extends s p q ds = (b : ℕ) (xs : List ℤ) → Driven s b p xs → Driven s b q (xs ++ ds)

-- the frames of a table under a supply
abbrev pub frames_under : Supply → List Group → List Group → List ℤ
frames_under s table vcom = table_frames s.levels s.frame_ns s.positive_drives_black table vcom
