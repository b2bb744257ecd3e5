-- Document 01, "The capture program": events of 10 bytes, 312 bytes of configuration, and a trailer of 8 that points back;
-- request 2026-05: 8 bytes more of configuration for the rate.
use Rattle.std.specs.Prelude.{Bool, List, [], ◌∷◌, ◌++◌, ℕ, zero, suc, ◌+◌, ◌-◌, ◌*◌, ◌/◌, ◌%◌, ◌^◌, eqb, length, get_or}
use Rattle.base.specs.Pick.{pick}
use Rattle.clock.specs.Clock.{billion}
use Rattle.glass.specs.declared.Optics.{Optics}
use Rattle.config.specs.declared.Variant.{Variant}
use Rattle.config.specs.declared.Variant.TheVariants.{Uc8253, Uc8279d}
use Rattle.config.specs.declared.Uc8253Geometry.{Uc8253Geometry}
use Rattle.config.specs.declared.Uc8253Timing.{Uc8253Timing}
use Rattle.config.specs.declared.Uc8253Config.{Uc8253Config}
use Rattle.capture.specs.Little.{little}

-- event i: its time (8), then its kind and its value
abbrev pub kind_at : List ℕ → ℕ → ℕ
kind_at file i = get_or file (10 * i + 8) 0

abbrev pub value_at : List ℕ → ℕ → ℕ
value_at file i = get_or file (10 * i + 9) 0

-- the 312 bytes from a place on: variant, flags
abbrev pub variant_at : List ℕ → ℕ → ℕ
variant_at file at = get_or file at 0

abbrev pub flags_at : List ℕ → ℕ → ℕ
flags_at file at = get_or file (at + 1) 0

-- 0 UC8253
abbrev pub variant_of : ℕ → Variant
variant_of b = pick (eqb b 0) Uc8253 Uc8279d

-- a flag is set
abbrev pub flag_set : ℕ → ℕ → Bool
flag_set flags bit = eqb (flags / 2 ^ bit % 2) 1

-- bit 0 rows reversed, 1 columns reversed; sources (2), gates (2)
abbrev pub panel_of : List ℕ → ℕ → Uc8253Geometry
panel_of file at = record {
  sources = little file (at + 2) 2;
  gates = little file (at + 4) 2;
  rows_reversed = flag_set (flags_at file at) 0;
  columns_reversed = flag_set (flags_at file at) 1;
}

-- bit 2 positive drives black; initial grey, full swing (8)
abbrev pub optics_of : List ℕ → ℕ → Optics
optics_of file at = record {
  full_swing = little file (at + 8) 8;
  positive_drives_black = flag_set (flags_at file at) 2;
  initial_gray = get_or file (at + 6) 0;
}

-- the first n periods (8 each)
abbrev pub periods_of : List ℕ → ℕ → ℕ → List ℕ
periods_of file at zero = []
periods_of file at (suc n) = periods_of file at n ++ little file (at + 56 + 8 * n) 8 ∷ []

-- power on, power off, deep sleep, soft reset, hardware reset (8 each), 32 periods; a clock of this rate
abbrev pub timing_by : ℕ → List ℕ → ℕ → Uc8253Timing
timing_by rate file at = record {
  power_on = little file (at + 16) 8;
  power_off = little file (at + 24) 8;
  deep_sleep = little file (at + 32) 8;
  soft_reset = little file (at + 40) 8;
  hardware_reset = little file (at + 48) 8;
  frame_period = periods_of file at 32;
  rate = rate;
}

-- the whole, with the ambient byte; flag bit 3 selects rule 2 of VCOM (2026-08)
abbrev pub config_by : ℕ → List ℕ → ℕ → Uc8253Config
config_by rate file at = record {
  variant = variant_of (variant_at file at);
  panel = panel_of file at;
  optics = optics_of file at;
  timing = timing_by rate file at;
  ambient_celsius = get_or file (at + 7) 0;
  vcom_by_frame = flag_set (flags_at file at) 3;
}

-- 312 bytes by themselves mean 1 GHz (2026-05)
abbrev pub config_of : List ℕ → ℕ → Uc8253Config
config_of file at = config_by billion file at

-- the trailer, at the file's end: offset of the configuration (4), event count (4)
unfoldable pub offset_of : List ℕ → ℕ
offset_of file = little file (length file - 8) 4

unfoldable pub count_of : List ℕ → ℕ
count_of file = little file (length file - 4) 4

-- the configuration has 320 bytes: the file's length tells (2026-05)
unfoldable pub rated : List ℕ → Bool
rated file = eqb (length file) (offset_of file + 328)

-- then its last 8 are the rate, else the rate is 1 GHz
unfoldable pub rate_in : List ℕ → ℕ
rate_in file = pick (rated file) (little file (offset_of file + 312) 8) billion

-- the configuration where the trailer points
unfoldable pub config_in : List ℕ → Uc8253Config
config_in file = config_by (rate_in file) file (offset_of file)

abbrev pub pixel_count : Uc8253Config → ℕ
pixel_count c = c.panel.sources * c.panel.gates
