-- Document 01, "The capture program": a capture is a making, and then its events, one call after the other.
use Rattle.std.specs.Prelude.{Bool, true, false, List, ℕ, eqb}
use Rattle.base.specs.Pick.{pick}
use Rattle.config.specs.declared.Uc8253Config.{Uc8253Config}
use Rattle.output.specs.declared.Form.{Form}
use Rattle.output.specs.declared.Form.TheVariants as form
use Rattle.capture.specs.Layout.{config_in}
use Rattle.capture.specs.Refused.{file_refused, too_many}
use Rattle.capture.specs.Reading.{events_of}
use Rattle.controller.specs.World.{World, Buffers, world}
use Rattle.controller.specs.TurnedBack.{making_refused}
use Rattle.controller.specs.Calls.{zeros}
use Rattle.events.specs.Played as events

-- the program `panel`, which has room for 8,000 pixels; every other word takes panels up to 800 by 600
abbrev pub is_panel : Form → Bool
is_panel form.Panel = true
is_panel form.Lines = false
is_panel form.Graymap = false
is_panel form.Png = false

-- a file's number with 10, which is `panel`'s alone, last
abbrev pub number_for : Form → ℕ → Uc8253Config → ℕ
number_for f n g = pick (is_panel f) (pick (eqb n 0) (pick (too_many g) 10 0) n) n

-- 8, 9, 1 to 4, 13; for `panel` 10
unfoldable pub tested_by : Form → List ℕ → ℕ
tested_by f file = number_for f (file_refused file) (config_in file)

-- these; then 5 for what is lent
unfoldable pub play_refused : Form → List ℕ → Buffers → ℕ
play_refused f file b = pick (eqb (tested_by f file) 0) (making_refused (config_in file) b) (tested_by f file)

-- the record and what is lent after the last event; a refusal returns a record of zeros and changes no lent entry
unfoldable pub played : Form → List ℕ → Buffers → World
played f file b = pick (eqb (tested_by f file) 0) (events.played (config_in file) (events_of file) b) (world zeros b)

-- the answers to the reads, one entry an event
unfoldable pub answers_played : Form → List ℕ → Buffers → List ℕ → List ℕ
answers_played f file b answers =
    pick (eqb (tested_by f file) 0) (events.answers_played (config_in file) (events_of file) b answers) answers
