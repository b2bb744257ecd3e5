-- What reading a file gives: its refusal, its configuration, and where its events end.
use Rattle.std.specs.Prelude.{◌≡◌, List, ℕ, ◌*◌, eqb, take}
use Rattle.base.specs.Pick.{pick}
use Rattle.base.specs.RefusalNumbers.{number_of}
use Rattle.capture.specs.declared.reading.Capture.{Capture}
use Rattle.capture.specs.Layout.{count_of, config_in}
use Rattle.capture.specs.Refused.{file_refused}

-- where the events end: 10 × their count, 0 if the file is refused
unfoldable pub events_end : List ℕ → ℕ
events_end file = pick (eqb (file_refused file) 0) (10 * count_of file) 0

-- the bytes of the events
abbrev pub events_of : List ℕ → List ℕ
events_of file = take (events_end file) file

pub record Reads (file : List ℕ) (c : Capture) : Type 0 where
  pub number_is : number_of c.refused ≡ file_refused file
  pub config_is : c.config ≡ config_in file
  pub end_is : c.end ≡ events_end file
