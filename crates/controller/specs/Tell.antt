-- Document 01, "A call arrives": a diagnostic is stored, or dropped. A call tells at most two, and both carry the clock.
use Rattle.std.specs.Prelude.{None, Some, List, ℕ}
use Rattle.diagnostic_log.specs.declared.Log.{Log}
use Rattle.diagnostic_log.specs.Log.{reported, rows_after}
use Rattle.controller.specs.Maybe.{Note}
use Rattle.controller.specs.declared.notes.Notes.{Notes}

-- the log counts it
abbrev pub log_noted : Note → Log → Log
log_noted None g = g
log_noted (Some k) g = reported g

-- the rows store it, with the clock
abbrev pub row_noted : Note → ℕ → Log → List ℕ → List ℕ
row_noted None now g rows = rows
row_noted (Some k) now g rows = rows_after g now k rows

-- what a call tells, in order
abbrev pub notes : Note → Note → Notes
notes first second = record { first = first; second = second }

abbrev pub silent : Notes
silent = notes None None

-- the log after it, and the rows
abbrev pub log_told : Notes → Log → Log
log_told n g = log_noted n.second (log_noted n.first g)

abbrev pub rows_told : Notes → ℕ → Log → List ℕ → List ℕ
rows_told n now g rows = row_noted n.second now (log_noted n.first g) (row_noted n.first now g rows)
