-- What may come while a command is under way, each an accepted call at its time, and what it leaves of record and rows: its arrival, then
-- what the use of a byte or the kind of the command decides.
use mathlib.Core.Path.{◌≡◌, refl, ap, ◌∙◌}
use mathlib.Core.List.{List, [], ◌∷◌}
use Prim.Native.Nat.{ℕ, ◌+◌, max}
use lib.Dec.{leb}
use Rattle.base.proofs.Cases.{both}
use Rattle.command.specs.declared.kinds.Kind.{Kind}
use Rattle.command.specs.declared.kinds.Kind.TheVariants as kind
use Rattle.command.specs.declared.kinds.Params.{Params}
use Rattle.diagnostic_log.specs.declared.Log.{Log}
use Rattle.controller.specs.declared.Active.{Active}
use Rattle.controller.specs.declared.Current.{Current}
use Rattle.controller.specs.declared.Current.TheVariants as current
use Rattle.controller.specs.declared.Stage.{Stage}
use Rattle.controller.specs.declared.Work.{Work}
use Rattle.controller.specs.declared.Work.TheVariants as work
use Rattle.controller.specs.declared.Uc8253.{Uc8253}
use Rattle.controller.specs.Maybe.{Note}
use Rattle.controller.specs.declared.uses.Use.{Use}
use Rattle.controller.specs.Setters.{with_log}
use Rattle.controller.specs.Tell.{log_noted, row_noted}
use Rattle.controller.specs.Refresh.{ended_refresh}
use Rattle.controller.specs.Arrives.{timed, ended_by, ended, arrived}
use Rattle.controller.specs.Command.{closing_note, close_note}
use Rattle.controller.specs.DataByte.{purpose_of, used_by, used_note, given_by, given_note, data_byte, data_note}
use Rattle.controller.specs.Reading as rule
use Rattle.controller.specs.Counting.{own}
use Rattle.controller.specs.Ask as ask
use Rattle.controller.specs.Ask.{Ask, record_after, rows_after}

-- a data byte, a read, an advance
pub data Meanwhile : Type 0 where
  datum : ℕ → ℕ → Meanwhile
  reading advance : ℕ → Meanwhile

abbrev pub ask_of : Meanwhile → Ask
ask_of (datum t b) = ask.datum t b
ask_of (reading t) = ask.reading t
ask_of (advance t) = ask.advance t

abbrev pub time_of : Meanwhile → ℕ
time_of (datum t b) = t
time_of (reading t) = t
time_of (advance t) = t

-- the record, and the rows of its diagnostics
pub record Diary : Type 0 where
  pub chip : Uc8253
  pub rows : List ℕ

-- after a call
abbrev pub came_one : Ask → Diary → Diary
came_one a d = record { chip = record_after own a d.chip; rows = rows_after a d.chip d.rows }

abbrev pub came_all : List Meanwhile → Diary → Diary
came_all [] d = d
came_all (x ∷ xs) d = came_all xs (came_one (ask_of x) d)

-- how many of them are data bytes
abbrev pub bytes_in : List Meanwhile → ℕ
bytes_in [] = 0
bytes_in (datum t b ∷ xs) = 1 + bytes_in xs
bytes_in (reading t ∷ xs) = bytes_in xs
bytes_in (advance t ∷ xs) = bytes_in xs

-- the clock after them
abbrev pub clock_after : ℕ → List Meanwhile → ℕ
clock_after now [] = now
clock_after now (x ∷ xs) = clock_after (max now (time_of x)) xs

-- ---- the diagnostics, stored and dropped, and their rows
pub record Diagnosed : Type 0 where
  pub log : Log
  pub rows : List ℕ

abbrev pub diagnosed : Diary → Diagnosed
diagnosed d = record { log = d.chip.log; rows = d.rows }

-- once something is told, or not
abbrev pub noting : Note → ℕ → Diagnosed → Diagnosed
noting n now g = record { log = log_noted n g.log; rows = row_noted n now g.log g.rows }

-- once the next call, at t, has told that the command under way closes
abbrev pub closes : ℕ → Diary → Diagnosed
closes t d = noting (close_note (arrived t d.chip).stage.current) (max d.chip.now t) (diagnosed d)

-- ---- what a call leaves: a record whose log counts what the call tells, and the rows with it
abbrev pub leaving : Note → ℕ → Uc8253 → Diary → Diary
leaving n now q d = record { chip = with_log (log_noted n q.log) q; rows = row_noted n now d.chip.log d.rows }

-- an arrival leaves the command under way as it was
stage_by : (x : Work) (p : Uc8253) → (ended_by x p).stage ≡ p.stage
unfolding ended_refresh
stage_by work.Nothing p = refl
stage_by work.PowerOn p = refl
stage_by work.PowerOff p = refl
stage_by work.DeepSleep p = refl
stage_by work.SoftReset p = refl
stage_by work.HardwareReset p = refl
stage_by (work.Refresh r) p = refl

pub stage_arrived : (t : ℕ) (p : Uc8253) → (arrived t p).stage ≡ p.stage
unfolding arrived ended
stage_arrived t p =
    both (λ (q : Uc8253). q.stage ≡ p.stage) (leb p.operation.until (max p.now t)) (stage_by p.operation.work (timed t p)) refl

module _ (t : ℕ) (d : Diary) (a : Active) (is : d.chip.stage.current ≡ current.Active a) where
  pub here : (arrived t d.chip).stage.current ≡ current.Active a
  here = ap (λ (s : Stage). s.current) (stage_arrived t d.chip) ∙ is

  -- a data byte, of which the use is known
  pub byte_is : (u : Use) (b : ℕ) → purpose_of a b ≡ u
      → came_one (ask.datum t b) d
      ≡ leaving (used_note u a b (arrived t d.chip)) (max d.chip.now t) (used_by own u a b (arrived t d.chip)) d
  unfolding record_after rows_after data_byte data_note
  byte_is u b f =
      let q = arrived t d.chip in
      let now = max d.chip.now t in
      ap (λ (x : Current). leaving (given_note x b q) now (given_by own x b q) d) here
      ∙ ap (λ (y : Use). leaving (used_note y a b q) now (used_by own y a b q) d) f

  -- a read of a command that is written is an advance
  pub read_is : (n : Params) → a.kind ≡ kind.Write n → came_one (ask.reading t) d ≡ came_one (ask.advance t) d
  unfolding record_after rows_after rule.reading rule.read_note
  read_is n f =
      let q = arrived t d.chip in
      let now = max d.chip.now t in
      ap (λ (x : Current). leaving (rule.read_note_by x q) now (rule.reading_by x q) d) here
      ∙ ap (λ (k : Kind). leaving (rule.under_note k a q) now (rule.after_read k a q) d) f

  -- the close
  pub close_is : (k : Note) → closing_note a ≡ k → closes t d ≡ noting k (max d.chip.now t) (diagnosed d)
  close_is k f = ap (λ (n : Note). noting n (max d.chip.now t) (diagnosed d)) (ap close_note here ∙ f)
