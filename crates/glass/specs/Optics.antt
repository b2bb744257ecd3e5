-- The X3's glass, by glass.rs: 6 V s, a positive drive darkens, white at power-on.
use Rattle.std.specs.Prelude.{true}
use Rattle.glass.specs.declared.Optics.{Optics}

abbrev pub x3 : Optics
x3 = record { full_swing = 6_000_000_000_000; positive_drives_black = true; initial_gray = 255 }
