-- Document 01, "A data byte": the written area is the window under 91, else start and resolution held to the RAM.
use Rattle.std.specs.Prelude.{ℕ, ◌+◌, ◌-◌, min, max}
use Rattle.base.specs.Pick.{pick}
use Rattle.registers.specs.declared.Area.{Area}
use Rattle.registers.specs.declared.Registers.{Registers}

-- the last of so many places from a start; zero size counts as 1
abbrev pub last_of : ℕ → ℕ → ℕ
last_of start size = start + max size 1 - 1

-- start and resolution, columns held to 799 and rows to 599
unfoldable pub active_of : Registers → Area
active_of r = record {
  x0 = min r.start.h 799;
  y0 = min r.start.v 599;
  x1 = min (last_of r.start.h r.resolution.h) 799;
  y1 = min (last_of r.start.v r.resolution.v) 599;
}

unfoldable pub written_of : Registers → Area
written_of r = pick r.partial r.window (active_of r)
