-- Rule 2 on small tables, computed: VCOM shorter than the table, longer, with repeats, and floating; each whole and cut.
use mathlib.Core.Path.{◌≡◌, refl}
use mathlib.Core.Bool.{true, false}
use mathlib.Core.List.{List, [], ◌∷◌}
use Prim.Native.Nat.{ℕ}
use lib.ListN.{take}
use lib.IntN.{pos, neg_ℤ}
use Rattle.waveform.specs.declared.Group.{Group}
use Rattle.waveform.specs.declared.Waveform.{Waveform}
use Rattle.waveform.specs.Levels.{level_of_code, floats}
use Rattle.waveform.specs.Tables.{ends}
use Rattle.waveform.specs.Frames.{drive_of, frames_of}

abbrev group : List ℕ → List ℕ → ℕ → Group
group codes frames repeats = record { codes = codes; frames = frames; repeats = repeats }

-- a refresh by rule 2 with VCOM's groups and a table whose codes are 1 1 2 3 1 1 2 3; the levels are 10, -8 and 3, the period 2
abbrev refresh : List Group → Waveform
refresh vcom = record {
  tables = vcom ∷ (group (1 ∷ 2 ∷ 0 ∷ 3 ∷ []) (2 ∷ 1 ∷ 0 ∷ 1 ∷ []) 2 ∷ []) ∷ [];
  levels = record { vdh = 10; vdl = 8; vdhr = 3 };
  frame_ns = 2;
  vcom_by_frame = true;
}

-- VCOM ends after three frames: from the fourth on its level is 0
abbrev shorter : Waveform
shorter = refresh (group (1 ∷ 0 ∷ 0 ∷ 0 ∷ []) (3 ∷ 0 ∷ 0 ∷ 0 ∷ []) 1 ∷ [])

pub shorter_whole : frames_of shorter false 1 ≡ pos 0 ∷ pos 0 ∷ neg_ℤ (pos 36) ∷ pos 6 ∷ pos 20 ∷ pos 20 ∷ neg_ℤ (pos 16) ∷ pos 6 ∷ []
unfolding drive_of level_of_code floats ends
shorter_whole = refl

pub shorter_cut : take 5 (frames_of shorter false 1) ≡ pos 0 ∷ pos 0 ∷ neg_ℤ (pos 36) ∷ pos 6 ∷ pos 20 ∷ []
unfolding drive_of level_of_code floats ends
shorter_cut = refl

-- VCOM goes on past the table's end, where there is no frame
abbrev longer : Waveform
longer = refresh (group (1 ∷ 2 ∷ 0 ∷ 0 ∷ []) (6 ∷ 200 ∷ 0 ∷ 0 ∷ []) 100 ∷ [])

pub longer_whole : frames_of longer false 1 ≡ pos 0 ∷ pos 0 ∷ neg_ℤ (pos 36) ∷ neg_ℤ (pos 14) ∷ pos 0 ∷ pos 0 ∷ pos 0 ∷ pos 22 ∷ []
unfolding drive_of level_of_code floats ends
longer_whole = refl

pub longer_cut : take 7 (frames_of longer false 1) ≡ pos 0 ∷ pos 0 ∷ neg_ℤ (pos 36) ∷ neg_ℤ (pos 14) ∷ pos 0 ∷ pos 0 ∷ pos 0 ∷ []
unfolding drive_of level_of_code floats ends
longer_cut = refl

-- VCOM's rounds of three frames, and a phase of none between
abbrev repeated : Waveform
repeated = refresh (group (1 ∷ 3 ∷ 2 ∷ 0 ∷ []) (1 ∷ 0 ∷ 2 ∷ 0 ∷ []) 2 ∷ group (2 ∷ 1 ∷ 0 ∷ 0 ∷ []) (1 ∷ 1 ∷ 0 ∷ 0 ∷ []) 1 ∷ [])

pub repeated_whole : frames_of repeated false 1 ≡ pos 0 ∷ pos 36 ∷ pos 0 ∷ neg_ℤ (pos 14) ∷ pos 36 ∷ pos 36 ∷ pos 0 ∷ neg_ℤ (pos 14) ∷ []
unfolding drive_of level_of_code floats ends
repeated_whole = refl

pub repeated_cut : take 4 (frames_of repeated false 1) ≡ pos 0 ∷ pos 36 ∷ pos 0 ∷ neg_ℤ (pos 14) ∷ []
unfolding drive_of level_of_code floats ends
repeated_cut = refl

-- VCOM floats over three frames in the middle, which drive nothing and take their time
abbrev floating : Waveform
floating = refresh (group (0 ∷ 3 ∷ 1 ∷ 0 ∷ []) (2 ∷ 3 ∷ 1 ∷ 0 ∷ []) 1 ∷ [])

pub floating_whole : frames_of floating false 1 ≡ pos 20 ∷ pos 20 ∷ pos 0 ∷ pos 0 ∷ pos 0 ∷ pos 0 ∷ neg_ℤ (pos 16) ∷ pos 6 ∷ []
unfolding drive_of level_of_code floats ends
floating_whole = refl

pub floating_cut : take 4 (frames_of floating false 1) ≡ pos 20 ∷ pos 20 ∷ pos 0 ∷ pos 0 ∷ []
unfolding drive_of level_of_code floats ends
floating_cut = refl
