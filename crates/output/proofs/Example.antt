-- The definition on small cases, computed: document 01's own example, reads, a refusal and a graymap.
use mathlib.Core.Path.{◌≡◌, refl}
use mathlib.Core.Bool.{false}
use mathlib.Core.List.{List, [], ◌∷◌, ◌++◌}
use Prim.Native.Nat.{ℕ}
use lib.ListN.{replicate}
use Rattle.glass.specs.declared.RefreshKind.TheVariants.{PowerOn, Full}
use Rattle.text.specs.Text.{ascii, digits}
use Rattle.outcome.specs.declared.Came.TheVariants as came
use Rattle.output.specs.declared.Form.TheVariants as form
use Rattle.output.specs.declared.Outcome.{Outcome}
use Rattle.output.specs.Lines.{no_events_line, refused_line, read_line, diag_line, dropped_line, image_line, greys_line, graymap_head}
use Rattle.output.specs.Units.{read_of, last_of, lines_of, rows_of, sample_of, wide_rows, graymap_units, units_of, wide_of}
use Rattle.output.specs.Parts.{joined}

-- 8 by 1, the first refresh from 100 to 3,100, one row stored; 14 events, none of them a read
abbrev pub played : Outcome
played = record {
  came = came.Played;
  log = record { stored = 1; dropped = 0 };
  image = record { width = 8; height = 1; generation = 1; kind = Full; interrupted = false; started = 100; at = 3100 };
}

abbrev pub row : List ℕ
row = 128 ∷ 128 ∷ 128 ∷ 128 ∷ 0 ∷ 0 ∷ 0 ∷ 0 ∷ []

abbrev pub stored : List ℕ
stored = 100 ∷ 13 ∷ 34 ∷ 6 ∷ 0 ∷ []

pub worked : joined (units_of form.Panel played (replicate 140 0) (replicate 14 257) row stored)
    ≡ ascii "diag 100 13 34 6 0\ndropped 0\nimage 8 1 1 full 0 100 3100\n128 128 128 128 0 0 0 0\n"
unfolding units_of lines_of last_of read_of read_line diag_line dropped_line image_line greys_line digits
worked = refl

-- its picture as a graymap
pub graymap : joined (units_of form.Graymap played (replicate 140 0) (replicate 14 257) row stored) ≡ ascii "P5\n8 1\n255\n" ++ row
unfolding units_of graymap_units rows_of graymap_head digits
graymap = refl

-- a picture of two pixels at the top 258, and one at the top 3
abbrev pub small : Outcome
small = record {
  came = came.Played;
  log = record { stored = 0; dropped = 0 };
  image = record { width = 2; height = 1; generation = 1; kind = Full; interrupted = false; started = 100; at = 3100 };
}

pub wide_graymap : joined (wide_of form.Graymap 258 small (258 ∷ 3 ∷ [])) ≡ ascii "P5\n2 1\n258\n" ++ (1 ∷ 2 ∷ 0 ∷ 3 ∷ [])
unfolding wide_of graymap_units wide_rows sample_of graymap_head digits
wide_graymap = refl

pub narrow_graymap : joined (wide_of form.Graymap 3 small (3 ∷ 2 ∷ [])) ≡ ascii "P5\n2 1\n3\n" ++ (3 ∷ 2 ∷ [])
unfolding wide_of graymap_units wide_rows sample_of graymap_head digits
narrow_graymap = refl

-- a byte read at 5, an advance, and a read at 261 that gave none; nothing was refreshed
abbrev pub quiet : Outcome
quiet = record {
  came = came.Played;
  log = record { stored = 0; dropped = 0 };
  image = record { width = 2; height = 1; generation = 0; kind = PowerOn; interrupted = false; started = 0; at = 0 };
}

abbrev pub events : List ℕ
events = (5 ∷ replicate 7 0) ++ (3 ∷ 0 ∷ []) ++ (6 ∷ replicate 7 0) ++ (5 ∷ 0 ∷ []) ++ (5 ∷ 1 ∷ replicate 6 0) ++ (3 ∷ 0 ∷ [])

pub reads : joined (units_of form.Panel quiet events (19 ∷ 257 ∷ 256 ∷ []) (255 ∷ 0 ∷ []) [])
    ≡ ascii "read 5 19\nread 261 none\ndropped 0\nimage 2 1 0 poweron 0 0 0\n255 0\n"
unfolding units_of lines_of last_of read_of read_line diag_line dropped_line image_line greys_line digits
reads = refl

-- a refusal
abbrev pub broken : Outcome
broken = record { came = came.Refused 8; log = quiet.log; image = quiet.image }

pub turned_back_lem : joined (units_of form.Panel broken [] [] [] []) ≡ ascii "refused 8\n"
unfolding units_of refused_line digits
turned_back_lem = refl

-- an empty file
abbrev pub empty : Outcome
empty = record { came = came.NoEvents; log = quiet.log; image = quiet.image }

pub no_events : joined (units_of form.Panel empty [] [] [] []) ≡ ascii "no events\n"
unfolding units_of no_events_line
no_events = refl
