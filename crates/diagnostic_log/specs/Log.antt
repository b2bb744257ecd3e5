-- Document 01, "A call arrives": the stored rows, and the count of those that found no room.
use Rattle.std.specs.Prelude.{List, [], ◌∷◌, ℕ, ◌+◌, ◌*◌, min, ltb, get_or, set}
use Rattle.base.specs.Word.{top}
use Rattle.base.specs.Pick.{pick}
use Rattle.diagnostic.specs.declared.DiagnosticKind.{DiagnosticKind}
use Rattle.diagnostic.specs.Row.{row_numbers}
use Rattle.diagnostic_log.specs.declared.Log.{Log}

-- one more is stored; row 1,025 is not stored and the dropped count grows, held at 2^64 - 1
unfoldable pub reported : Log → Log
reported g =
    pick (ltb g.stored 1024)
    (record { stored = g.stored + 1; dropped = g.dropped })
    (record { stored = g.stored; dropped = min (g.dropped + 1) top })

-- the five numbers of a row from a place on; a place past the end takes none
abbrev pub put_row : List ℕ → ℕ → List ℕ → List ℕ
put_row l i r =
    set (set (set (set (set l i (get_or r 0 0)) (i + 1) (get_or r 1 0)) (i + 2) (get_or r 2 0)) (i + 3) (get_or r 3 0)) (i + 4) (get_or r 4 0)

-- the buffer after a report: the row that is stored begins at five times the rows before it
unfoldable pub rows_after : Log → ℕ → DiagnosticKind → List ℕ → List ℕ
rows_after g at k l = pick (ltb g.stored 1024) (put_row l (5 * g.stored) (row_numbers at k)) l

-- the rows are taken: stored becomes 0, dropped stays
abbrev pub log_emptied : Log → Log
log_emptied g = record { stored = 0; dropped = g.dropped }

-- a diagnostic that is reported: its time and what happened
pub record Report : Type 0 where
  pub at : ℕ
  pub kind : DiagnosticKind

-- the log and the buffer after reports, one after the other
abbrev pub all_reported : Log → List Report → Log
all_reported g [] = g
all_reported g (r ∷ rs) = all_reported (reported g) rs

abbrev pub rows_after_all : Log → List Report → List ℕ → List ℕ
rows_after_all g [] l = l
rows_after_all g (r ∷ rs) l = rows_after_all (reported g) rs (rows_after g r.at r.kind l)
