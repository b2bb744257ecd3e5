-- Document 01, "A refresh": the five tables, when one ends, and how long a refresh is.
use Rattle.std.specs.Prelude.{ℕ, ◌+◌, ◌*◌, ◌/◌, ◌%◌, min, max, Bool, true, List, [], ◌∷◌, map, eqb, get_or}
use Rattle.base.specs.Pick.{pick}
use Rattle.base.specs.Listed.{listed, sum_to}
use Rattle.base.specs.Word.{top}
use Rattle.waveform.specs.declared.Group.{Group}
use Rattle.waveform.specs.declared.Levels.{Levels}
use Rattle.waveform.specs.declared.Waveform.{Waveform}

-- six bytes: four 2-bit codes, four frame counts, repeats
abbrev pub group_of : List ℕ → ℕ → Group
group_of b k = record {
  codes = get_or b (k * 6) 0 / 64 ∷ get_or b (k * 6) 0 / 16 % 4 ∷ get_or b (k * 6) 0 / 4 % 4 ∷ get_or b (k * 6) 0 % 4 ∷ [];
  frames = get_or b (k * 6 + 1) 0 ∷ get_or b (k * 6 + 2) 0 ∷ get_or b (k * 6 + 3) 0 ∷ get_or b (k * 6 + 4) 0 ∷ [];
  repeats = get_or b (k * 6 + 5) 0;
}

-- seven groups
abbrev pub table_of : List ℕ → List Group
table_of b = listed 7 (group_of b)

-- a table of each LUT
abbrev pub tables_of : List (List ℕ) → List (List Group)
tables_of luts = map table_of luts

-- the frames of one round: the four counts together
abbrev pub sum_of : List ℕ → ℕ
sum_of counts = sum_to 4 (λ phase. get_or counts phase 0)

-- a table ends at the first group with repeats 0 or all counts 0
unfoldable pub ends : Group → Bool
ends g = pick (eqb g.repeats 0) true (eqb (sum_of g.frames) 0)

abbrev pub running : List Group → List Group
running [] = []
running (g ∷ gs) = pick (ends g) [] (g ∷ running gs)

-- the frames of a table: each group's round as often as its repeats say
abbrev pub frame_count : List Group → ℕ
frame_count [] = 0
frame_count (g ∷ gs) = g.repeats * sum_of g.frames + frame_count gs

abbrev pub table_frame_count : List Group → ℕ
table_frame_count gs = frame_count (running gs)

-- the tables of a refresh, with its levels, its period and whether VCOM goes by its own clock
abbrev pub waveform_of : List (List ℕ) → Levels → ℕ → Bool → Waveform
waveform_of luts l period by_frame = record { tables = tables_of luts; levels = l; frame_ns = period; vcom_by_frame = by_frame }

-- the table with a number, 0 VCOM's and 1 to 4 the pixels'; a number that no table has gives an empty one
abbrev pub table_at : Waveform → ℕ → List Group
table_at w k = get_or w.tables k []

-- the frames of the longest table
abbrev pub longest : List (List Group) → ℕ
longest [] = 0
longest (t ∷ ts) = max (table_frame_count t) (longest ts)

-- longest table + 2
abbrev pub refresh_frames : Waveform → ℕ
refresh_frames w = longest w.tables + 2

-- (longest table + 2) × period, held at 2^64 - 1
abbrev pub duration_of : Waveform → ℕ
duration_of w = min (refresh_frames w * w.frame_ns) top
