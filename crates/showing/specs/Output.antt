-- What a program writes of a file: the units of what playing it comes to.
use Rattle.std.specs.Prelude.{◌≡◌, List, ℕ, ◌-◌}
use Rattle.base.specs.Pick.{pick}
use Rattle.outcome.specs.declared.Came.{Came}
use Rattle.outcome.specs.Came.{came_by, panel_came}
use Rattle.output.specs.declared.Form.{Form}
use Rattle.output.specs.declared.Outcome.{Outcome}
use Rattle.output.specs.Units.{units_of}
use Rattle.output.specs.Parts.{units_from}
use Rattle.controller.specs.World.{Buffers}
use Rattle.capture.specs.Reading.{events_of}
use Rattle.shades.specs.Shades.{shades_of}
use Rattle.showing.specs.declared.Sizes.{Sizes}
use Rattle.showing.specs.Played.{is_panel, play_refused, played, answers_played}
use Rattle.showing.specs.Shown.{fitted, lent_answers, blank}

-- what a file comes to, by the number of its refusal: `panel` takes an empty one for no events, every other word refuses it
abbrev pub came_of : Form → List ℕ → ℕ → Came
came_of f file n = pick (is_panel f) (panel_came file n) (came_by n)

-- and the record's log and picture after the last event
abbrev pub outcome_of : Form → List ℕ → Buffers → Outcome
outcome_of f file b = record {
  came = came_of f file (play_refused f file b);
  log = (played f file b).chip.log;
  image = (played f file b).chip.image;
}

-- played in the buffers b, with those answers lent
abbrev pub units_played : Form → List ℕ → Buffers → List ℕ → List (List ℕ)
units_played f file b answers =
    let w = (played f file b).lent in
    units_of f (outcome_of f file b) (events_of file) (answers_played f file b answers) w.picture w.rows

-- what is written of the file where so much is lent: what it holds does not count, since making sets all of it
-- (`lent_Alike` of proofs/Written.antt)
unfoldable pub output_of : Form → List ℕ → Sizes → List (List ℕ)
output_of f file s = units_played f file (fitted file (blank s)) lent_answers

-- the units are the file's output
abbrev pub Output : Form → List ℕ → Sizes → List (List ℕ) → Type 0
Output f file s us = us ≡ output_of f file s

-- the bytes are its units from one up to another
abbrev pub Between : Form → List ℕ → Sizes → ℕ → ℕ → List ℕ → Type 0
Between f file s from next bytes = bytes ≡ units_from from (next - from) (output_of f file s)

-- the picture at a top (2026-03), from the states that playing in the buffers b leaves
abbrev pub shades_played : Form → ℕ → List ℕ → Buffers → List (List ℕ)
shades_played f top file b = let w = played f file b in shades_of f top w.chip w.lent.states

-- what is written of the file at a top where so much is lent
unfoldable pub shaded_of : Form → ℕ → List ℕ → Sizes → List (List ℕ)
shaded_of f top file s = shades_played f top file (fitted file (blank s))
