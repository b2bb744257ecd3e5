-- Document 01, "The walk": the end of a refresh moves each state by the frames of its table number.
use Rattle.std.specs.Prelude.{List, [], ℕ, eqb, ℤ}
use Rattle.base.specs.Integer.{up}
use Rattle.base.specs.Pick.{pick}
use Rattle.glass.specs.declared.Transfer.{Transfer}
use Rattle.glass.specs.Transfer.{act}
use Rattle.pixels.specs.Lists.{beside}
use Rattle.pixels.specs.States.{state_held}

-- what belongs to a table number: 1 WW, 2 KW, 3 WK, 4 KK, and any other number, as 255, has no table
unfoldable pub by_number : {A : Type 0} → A → A → A → A → A → ℕ → A
by_number ww kw wk kk none n = pick (eqb n 1) ww (pick (eqb n 2) kw (pick (eqb n 3) wk (pick (eqb n 4) kk none)))

-- an entry moved by a transfer; what lies below 0 counts as 0
unfoldable pub moved_once : Transfer → ℤ → ℤ
moved_once t z = state_held (act t (up z))

-- an entry moved by the transfer of its number
abbrev pub moved_by : Transfer → Transfer → Transfer → Transfer → ℕ → ℤ → ℤ
moved_by ww kw wk kk n z = by_number (moved_once ww z) (moved_once kw z) (moved_once wk z) (moved_once kk z) z n

-- every entry moved by the transfer of its number; an entry with no number stays
abbrev pub driven : Transfer → Transfer → Transfer → Transfer → List ℕ → List ℤ → List ℤ
driven ww kw wk kk numbers states = beside (moved_by ww kw wk kk) numbers states

-- the frames of a number, where f has those of each table; none for 255
abbrev pub frames_for : (ℕ → List ℤ) → ℕ → List ℤ
frames_for f n = by_number (f 1) (f 2) (f 3) (f 4) [] n
