-- Demand 3's calls, made one after the other once a panel is made: the kind and arguments of each, without record and buffers; what it
-- does, part by part: to the record, to planes and rows, to the glass; the number by which it is turned back, and what it answers. The
-- contract of each public call is an equation with these.
use Rattle.std.specs.Prelude.{None, Option, Bool, true, false, List, ℕ, ◌<◌, max, eqb, length}
use Rattle.base.specs.Pick.{pick}
use Rattle.diagnostic_log.specs.Log.{log_emptied}
use Rattle.controller.specs.Maybe.{Due, Read}
use Rattle.controller.specs.declared.drives.Drive.{Drive}
use Rattle.controller.specs.declared.drives.Drive.TheVariants as drive
use Rattle.controller.specs.declared.notes.Notes.{Notes}
use Rattle.controller.specs.declared.uses.Use.{Use}
use Rattle.controller.specs.declared.Uc8253.{Uc8253}
use Rattle.controller.specs.World.{World, Buffers, world}
use Rattle.controller.specs.Counting.{Counting, own}
use Rattle.controller.specs.Setters.{with_log, with_vcom_rule}
use Rattle.controller.specs.Tell.{notes, silent, log_told, rows_told}
use Rattle.controller.specs.Arrives.{arrived}
use Rattle.controller.specs.Command.{close_note, command_byte, command_note}
use Rattle.controller.specs.DataByte.{data_byte, data_note, for_old, for_new, plane_byte}
use Rattle.controller.specs.Reading as byte-read
use Rattle.controller.specs.Reset.{reset_edge, edge_notes}
use Rattle.controller.specs.Planes.{old_arrived}
use Rattle.controller.specs.Glass.{driven_at, states_by, picture_by}
use Rattle.controller.specs.TurnedBack.{turned_back}
use Rattle.controller.specs.Calls as calls

-- times, command and data bytes, the reset line (true: asserted), VCOM's rule (true: rule 2), a plane (true: the old one), column and row;
-- a top, and the 16-bit buffer as it is lent
pub data Ask : Type 0 where
  command datum : ℕ → ℕ → Ask
  reading advance : ℕ → Ask
  reset vcom_rule : ℕ → Bool → Ask
  taking : Ask
  ask_busy : ℕ → Ask
  ask_deadline : Ask
  ask_bit : Bool → ℕ → ℕ → Ask
  ask_row : ℕ → Ask
  ask_picture : ℕ → List ℕ → Ask

-- command and data bytes are bytes
abbrev pub IsByte : Ask → Type 0
IsByte (command t c) = c < 256
IsByte (datum t b) = b < 256
IsByte (reading t) = Unit {0}
IsByte (advance t) = Unit {0}
IsByte (reset t asserted) = Unit {0}
IsByte (vcom_rule t by_frame) = Unit {0}
IsByte taking = Unit {0}
IsByte (ask_busy t) = Unit {0}
IsByte ask_deadline = Unit {0}
IsByte (ask_bit older x y) = Unit {0}
IsByte (ask_row y) = Unit {0}
IsByte (ask_picture top buffer) = Unit {0}

-- ---- the parts of a call that is accepted
-- a timed call has its time, and may assert reset; taking the rows and the questions have none
pub data When : Type 0 where
  at : ℕ → Bool → When
  whenever : When

abbrev pub when_of : Ask → When
when_of (command t c) = at t false
when_of (datum t b) = at t false
when_of (reading t) = at t false
when_of (advance t) = at t false
when_of (reset t asserted) = at t asserted
when_of (vcom_rule t by_frame) = at t false
when_of taking = whenever
when_of (ask_busy t) = whenever
when_of ask_deadline = whenever
when_of (ask_bit older x y) = whenever
when_of (ask_row y) = whenever
when_of (ask_picture top buffer) = whenever

-- the record but for its log: the clock, what has come to its end, and then the call's own. Event kind 6 sets VCOM's rule and closes no
-- command (2026-08); taking the rows empties the log; a question gives back no record, and the last one stands
abbrev pub chip_after : (Uc8253 → Counting) → Ask → Uc8253 → Uc8253
chip_after clock (command t c) p = command_byte clock c (arrived t p)
chip_after clock (datum t b) p = data_byte clock b (arrived t p)
chip_after clock (reading t) p = byte-read.reading (arrived t p)
chip_after clock (advance t) p = arrived t p
chip_after clock (reset t asserted) p = reset_edge clock asserted (arrived t p)
chip_after clock (vcom_rule t by_frame) p = with_vcom_rule by_frame (arrived t p)
chip_after clock taking p = with_log (log_emptied p.log) p
chip_after clock (ask_busy t) p = p
chip_after clock ask_deadline p = p
chip_after clock (ask_bit older x y) p = p
chip_after clock (ask_row y) p = p
chip_after clock (ask_picture top buffer) p = p

-- what it tells; a command byte first what is told as the previous command closes, then its own
abbrev pub told_by : Ask → Uc8253 → Notes
told_by (command t c) p = notes (close_note (arrived t p).stage.current) (command_note c (arrived t p))
told_by (datum t b) p = notes (data_note b (arrived t p)) None
told_by (reading t) p = notes (byte-read.read_note (arrived t p)) None
told_by (advance t) p = silent
told_by (reset t asserted) p = edge_notes asserted (arrived t p)
told_by (vcom_rule t by_frame) p = silent
told_by taking p = silent
told_by (ask_busy t) p = silent
told_by ask_deadline p = silent
told_by (ask_bit older x y) p = silent
told_by (ask_row y) p = silent
told_by (ask_picture top buffer) p = silent

-- 1. the record, of the record and the call alone
unfoldable pub record_after : (Uc8253 → Counting) → Ask → Uc8253 → Uc8253
record_after clock a p = let q = chip_after clock a p in with_log (log_told (told_by a p) q.log) q

-- 2. the planes and the rows; rows carry the clock, which becomes the larger of itself and the time given
abbrev pub copied_when : When → Uc8253 → List ℕ → List ℕ → List ℕ
copied_when (at t asserted) p old new = old_arrived t p old new
copied_when whenever p old new = old

abbrev pub clock_when : When → ℕ → ℕ
clock_when (at t asserted) now = max now t
clock_when whenever now = now

-- a data byte goes into a plane, no other call does
abbrev pub put_by : (Use → Bool) → Ask → Uc8253 → List ℕ → List ℕ
put_by mine (command t c) p l = l
put_by mine (datum t b) p l = plane_byte mine b (arrived t p) l
put_by mine (reading t) p l = l
put_by mine (advance t) p l = l
put_by mine (reset t asserted) p l = l
put_by mine (vcom_rule t by_frame) p l = l
put_by mine taking p l = l
put_by mine (ask_busy t) p l = l
put_by mine ask_deadline p l = l
put_by mine (ask_bit older x y) p l = l
put_by mine (ask_row y) p l = l
put_by mine (ask_picture top buffer) p l = l

unfoldable pub old_after : Ask → Uc8253 → List ℕ → List ℕ → List ℕ
old_after a p old new = put_by for_old a p (copied_when (when_of a) p old new)

unfoldable pub new_after : Ask → Uc8253 → List ℕ → List ℕ
new_after a p new = put_by for_new a p new

unfoldable pub rows_after : Ask → Uc8253 → List ℕ → List ℕ
rows_after a p rows = rows_told (told_by a p) (clock_when (when_of a) p.now) p.log rows

-- 3. the glass: nothing, the whole refresh, or cut after n frames; and what that does to states and picture (Glass)
abbrev pub driven_when : (Uc8253 → Counting) → When → Uc8253 → Drive
driven_when clock (at t asserted) p = driven_at clock asserted t p
driven_when clock whenever p = drive.Nothing

abbrev pub driven_by : (Uc8253 → Counting) → Ask → Uc8253 → Drive
driven_by clock a p = driven_when clock (when_of a) p

-- what is lent, after the call
unfoldable pub lent_after : (Uc8253 → Counting) → Ask → Uc8253 → Buffers → Buffers
lent_after clock a p b =
    let states = states_by (driven_by clock a p) p b.old b.new b.states in
    record {
      old = old_after a p b.old b.new;
      new = new_after a p b.new;
      states = states;
      picture = picture_by (driven_by clock a p) p states b.picture;
      rows = rows_after a p b.rows;
    }

-- the number of its refusal, 0 if it is accepted
abbrev pub refused_by : Ask → World → ℕ
refused_by (command t c) w = turned_back false t w
refused_by (datum t b) w = turned_back false t w
refused_by (reading t) w = turned_back false t w
refused_by (advance t) w = turned_back false t w
refused_by (reset t asserted) w = turned_back asserted t w
refused_by (vcom_rule t by_frame) w = turned_back false t w
refused_by taking w = calls.taking_refused w.chip w.lent.rows
refused_by (ask_busy t) w = calls.question_refused w.chip
refused_by ask_deadline w = calls.question_refused w.chip
refused_by (ask_bit older x y) w = calls.bit_refused w.chip (pick older w.lent.old w.lent.new)
refused_by (ask_row y) w = calls.row_refused w.chip w.lent.picture
refused_by (ask_picture top buffer) w = calls.wide_refused w.chip w.lent.states (length buffer)

-- ---- the call: refused first, with the record given back and no lent entry changed
unfoldable pub did_by : (Uc8253 → Counting) → Ask → World → World
did_by clock a w = pick (eqb (refused_by a w) 0) (world (record_after clock a w.chip) (lent_after clock a w.chip w.lent)) w

-- by the record's own clock
abbrev pub did : Ask → World → World
did = did_by own

-- what a call hands back besides the record: the byte of a read, how many rows were taken, whether the busy pin is low, the deadline,
-- a bit of the RAM, a part of the picture, the 16-bit buffer as it is left
pub data Answer : Type 0 where
  nothing : Answer
  byte : Read → Answer
  count : ℕ → Answer
  low : Bool → Answer
  due : Due → Answer
  bit : Option ℕ → Answer
  part : List ℕ → Answer
  wide : List ℕ → Answer

abbrev pub answered : Ask → World → Answer
answered (command t c) w = nothing
answered (datum t b) w = nothing
answered (reading t) w = byte (calls.read_answer t w)
answered (advance t) w = nothing
answered (reset t asserted) w = nothing
answered (vcom_rule t by_frame) w = nothing
answered taking w = count (calls.taken_rows w.chip w.lent.rows)
answered (ask_busy t) w = low (calls.busy_answer w.chip t)
answered ask_deadline w = due (calls.deadline_answer w.chip)
answered (ask_bit older x y) w = bit (calls.bit_answer w.chip (pick older w.lent.old w.lent.new) x y)
answered (ask_row y) w = part (calls.row_answer w.chip w.lent.picture y)
answered (ask_picture top buffer) w = wide (calls.wide_answer w.chip w.lent.states top buffer)

-- the calls that may change a lent entry; taking the rows and the questions change none
abbrev pub writes : Ask → Bool
writes (command t c) = true
writes (datum t b) = true
writes (reading t) = true
writes (advance t) = true
writes (reset t asserted) = true
writes (vcom_rule t by_frame) = true
writes taking = false
writes (ask_busy t) = false
writes ask_deadline = false
writes (ask_bit older x y) = false
writes (ask_row y) = false
writes (ask_picture top buffer) = false
