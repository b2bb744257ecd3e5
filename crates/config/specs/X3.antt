-- The X3's own values, by config.rs: its glass, its times, and the frame periods of DS53's table.
use Rattle.std.specs.Prelude.{true, false, List, ℕ, ◌+◌, ◌*◌, ◌/◌, eqb}
use Rattle.base.specs.Pick.{pick}
use Rattle.base.specs.Listed.{listed}
use Rattle.clock.specs.Clock.{billion}
use Rattle.glass.specs.Optics as optics
use Rattle.config.specs.declared.Uc8253Geometry.{Uc8253Geometry}
use Rattle.config.specs.declared.Uc8253Timing.{Uc8253Timing}
use Rattle.config.specs.declared.Uc8253Config.{Uc8253Config}
use Rattle.config.specs.declared.Variant.{Variant}
use Rattle.config.specs.declared.Variant.TheVariants.{Uc8253, Uc8279d}

-- the frames a second of a PLL code: 5 Hz a step from 5 Hz at code 0, the last code 200 Hz
unfoldable pub hertz : ℕ → ℕ
hertz code = pick (eqb code 31) 200 (5 * (code + 1))

-- the frame period of a PLL code by DS53's table, in nanoseconds
unfoldable pub ds53 : ℕ → ℕ
ds53 code = 1_000_000_000 / hertz code

-- the periods of the codes below n
abbrev pub periods_to : ℕ → List ℕ
periods_to n = listed n ds53

-- 792 sources by 528 gates, G0 at the bottom of the image
abbrev pub x3_panel : Uc8253Geometry
x3_panel = record { sources = 792; gates = 528; rows_reversed = true; columns_reversed = false }

-- 127 ms, 30 ms, 1 ms, 50 µs, 1 ms; a clock of 1 GHz
abbrev pub x3_timing : Uc8253Timing
x3_timing = record {
  power_on = 127_000_000;
  power_off = 30_000_000;
  deep_sleep = 1_000_000;
  soft_reset = 50_000;
  hardware_reset = 1_000_000;
  frame_period = periods_to 32;
  rate = billion;
}

-- the X3 at 25 °C, behind either controller; old glass, so VCOM by rule 1
abbrev pub x3_by : Variant → Uc8253Config
x3_by v = record {
  variant = v;
  panel = x3_panel;
  optics = optics.x3;
  timing = x3_timing;
  ambient_celsius = 25;
  vcom_by_frame = false;
}

-- the first batch
abbrev pub x3 : Uc8253Config
x3 = x3_by Uc8253

-- the later batch
abbrev pub x3_uc8279d : Uc8253Config
x3_uc8279d = x3_by Uc8279d
