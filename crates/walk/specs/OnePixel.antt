-- A panel of one pixel, and calls that start a refresh of three frames of 1,000 on it: what the table of acceptance supposes is met there.
use Rattle.std.specs.Prelude.{true, false, List, [], ◌∷◌, map, ℕ, pos, replicate}
use Rattle.clock.specs.Clock.{billion}
use Rattle.config.specs.declared.Uc8253Config.{Uc8253Config}
use Rattle.config.specs.declared.Variant.{Variant}
use Rattle.config.specs.declared.Variant.TheVariants as variant
use Rattle.waveform.specs.Tables.{waveform_of}
use Rattle.controller.specs.World.{World, Buffers}
use Rattle.controller.specs.Calls.{made}
use Rattle.controller.specs.Ask.{Ask, command, datum, did}
use Rattle.walk.specs.Machine.{Fed, fresh, ran}
use Rattle.walk.specs.Kept.{Noted, Machine}

-- black at first; every period the same, in nanoseconds; power is on 100 of them after 04; a clock of so many Hz
abbrev pub one_pixel : Variant → ℕ → ℕ → Uc8253Config
one_pixel v period rate = record {
  variant = v;
  panel = record { sources = 1; gates = 1; rows_reversed = false; columns_reversed = false };
  optics = record { full_swing = 100_000_000; positive_drives_black = true; initial_gray = 0 };
  timing = record {
    power_on = 100;
    power_off = 0;
    deep_sleep = 0;
    soft_reset = 0;
    hardware_reset = 5;
    frame_period = replicate 32 period;
    rate = rate;
  };
  ambient_celsius = 25;
  vcom_by_frame = false;
}

-- what is lent to its making: the lengths count, and the entries are written anew
unfoldable pub bench : Buffers
bench = record {
  old = replicate 60000 0;
  new = replicate 60000 0;
  states = pos 7 ∷ [];
  picture = 9 ∷ [];
  rows = replicate 5120 0;
}

-- 00 with 3F, and 04; then 22, table KW, with 80 03 00 00 00 01, three frames of source code 2; 13 with 80, the pixel white; and 12
unfoldable pub refresh_calls : List Ask
refresh_calls =
    command 0 0x00 ∷ datum 0 0x3F ∷ command 0 0x04
    ∷ command 100 0x22 ∷ datum 100 0x80 ∷ datum 100 0x03 ∷ datum 100 0x00 ∷ datum 100 0x00 ∷ datum 100 0x00 ∷ datum 100 0x01
    ∷ command 100 0x13 ∷ datum 100 0x80
    ∷ command 100 0x12
    ∷ []

-- calls one after the other, each on the record that the one before gave back and the buffers that it left
abbrev pub after_calls : List Ask → World → World
after_calls [] w = w
after_calls (a ∷ rest) w = after_calls rest (did a w)

-- an accepted call, as the walk is fed it
abbrev pub feed : Ask → Fed
feed a = record { ask = a; back = false }

-- the panel with frames of 1,000 at 1 GHz; the controller after the calls; and the walk's machine after them
unfoldable pub slow : Variant → Uc8253Config
slow v = one_pixel v 1_000 billion

unfoldable pub refreshing : World
refreshing = after_calls refresh_calls (made (slow variant.Uc8253) bench)

unfoldable pub driving : Machine
driving = ran (slow variant.Uc8253) (fresh (slow variant.Uc8253)) (map feed refresh_calls)

-- the refresh that it notes at 12: table KW, the levels of 01 as a reset leaves them, and number 2, KW, for the pixel
unfoldable pub noted3 : Noted
noted3 =
    let none : List ℕ = replicate 42 0 in
    let three : List ℕ = 0x80 ∷ 0x03 ∷ 0x00 ∷ 0x00 ∷ 0x00 ∷ 0x01 ∷ replicate 36 0 in
    record {
      since = 100;
      wave = waveform_of (none ∷ none ∷ three ∷ none ∷ none ∷ []) (record { vdh = 14_000; vdl = 14_000; vdhr = 3_000 }) 1_000 false;
      area = record { x0 = 0; y0 = 0; x1 = 799; y1 = 599 };
      numbers = 2 ∷ [];
    }
