-- 2026-01: the capture with some events: ten bytes each, the 312 bytes of the configuration, and the trailer that points back.
use Rattle.std.specs.Prelude.{List, ◌++◌, ℕ, ◌*◌, length}
use Rattle.event.specs.declared.Event.{Event}
use Rattle.vcd_simulation.specs.Written.{lowest, written}
use Rattle.vcd.specs.Dump.{dump_events}

-- where the configuration begins (4), and how many events there are (4)
abbrev pub trailer : List Event → List ℕ
trailer es = lowest 4 (10 * length es) ++ lowest 4 (length es)

unfoldable pub capture_of : List ℕ → List Event → List ℕ
capture_of config es = written es ++ (config ++ trailer es)

-- the capture with the events of a dump
abbrev pub as_capture : List ℕ → List ℕ → List ℕ
as_capture config dump = capture_of config (dump_events dump)
