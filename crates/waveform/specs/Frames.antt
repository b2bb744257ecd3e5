-- Document 01, "The walk": the frames of a table as a list of signed drives, one a frame.
use Rattle.std.specs.Prelude.{ℕ, Bool, List, [], ◌∷◌, length, get_or, replicate, ℤ, pos, neg_ℤ, ◌-ℤ◌, ◌*ℤ◌}
use Rattle.base.specs.Pick.{pick}
use Rattle.base.specs.InTurn.{in_turn}
use Rattle.waveform.specs.declared.Group.{Group}
use Rattle.waveform.specs.declared.Levels.{Levels}
use Rattle.waveform.specs.declared.Waveform.{Waveform}
use Rattle.waveform.specs.Levels.{level_of_code, floats}
use Rattle.waveform.specs.Tables.{running, table_at}

-- the drive of a frame: (source - VCOM) millivolts × period, negated where positive drives black; 0 where VCOM floats
unfoldable pub drive_of : Levels → ℕ → Bool → ℕ → ℕ → ℤ
drive_of l period black source vcom =
    pick (floats vcom) (pos 0) (pick black (neg_ℤ (volts *ℤ pos period)) (volts *ℤ pos period))
  where
    volts : ℤ
    volts = level_of_code l source -ℤ level_of_code l vcom

-- a group past a table's end
abbrev pub blank : Group
blank = record { codes = 0 ∷ 0 ∷ 0 ∷ 0 ∷ []; frames = 0 ∷ 0 ∷ 0 ∷ 0 ∷ []; repeats = 0 }

-- VCOM's codes: those for the same group, 0 once its table has ended
abbrev pub vcom_codes : List Group → ℕ → List ℕ
vcom_codes vcom k = (get_or (running vcom) k blank).codes

-- four phases in turn, each for its frame count
abbrev pub round_frames : Levels → ℕ → Bool → Group → List ℕ → List ℤ
round_frames l period black g vcom =
    in_turn 4 (λ p. replicate (get_or g.frames p 0) (drive_of l period black (get_or g.codes p 0) (get_or vcom p 0)))

-- that round as often as the group's repeats say
abbrev pub group_frames : Levels → ℕ → Bool → Group → List ℕ → List ℤ
group_frames l period black g vcom = in_turn g.repeats (λ i. round_frames l period black g vcom)

-- group by group
abbrev pub table_frames : Levels → ℕ → Bool → List Group → List Group → List ℤ
table_frames l period black table vcom =
    in_turn (length (running table)) (λ k. group_frames l period black (get_or (running table) k blank) (vcom_codes vcom k))

-- Rule 2, "VCOM by its own clock". A table's codes, one a frame: each phase's for its frame count,
abbrev pub phase_codes : Group → ℕ → List ℕ
phase_codes g p = replicate (get_or g.frames p 0) (get_or g.codes p 0)

-- four phases in turn,
abbrev pub round_codes : Group → List ℕ
round_codes g = in_turn 4 (phase_codes g)

-- that round as often as the group's repeats say,
abbrev pub group_codes : Group → List ℕ
group_codes g = in_turn g.repeats (λ i. round_codes g)

-- group by group
abbrev pub codes_of : List Group → List ℕ
codes_of table = in_turn (length (running table)) (λ k. group_codes (get_or (running table) k blank))

-- frame k of the pixel meets frame k of VCOM's own sequence, level 0 after its end
abbrev pub beside : Levels → ℕ → Bool → List ℕ → List ℕ → List ℤ
beside l period black [] vcom = []
beside l period black (c ∷ codes) [] = drive_of l period black c 0 ∷ beside l period black codes []
beside l period black (c ∷ codes) (v ∷ vcom) = drive_of l period black c v ∷ beside l period black codes vcom

abbrev pub beside_frames : Levels → ℕ → Bool → List Group → List Group → List ℤ
beside_frames l period black table vcom = beside l period black (codes_of table) (codes_of vcom)

-- the frames of the table with a number, by the rule of the refresh
abbrev pub frames_of : Waveform → Bool → ℕ → List ℤ
frames_of w black lut =
    pick w.vcom_by_frame (beside_frames w.levels w.frame_ns black (table_at w lut) (table_at w 0))
    (table_frames w.levels w.frame_ns black (table_at w lut) (table_at w 0))
