-- The registers' reset values, which belong to the variant (mod.rs; document 01, "A command byte").
use Rattle.std.specs.Prelude.{false, List, [], ◌∷◌, ℕ}
use Rattle.config.specs.declared.Variant.{Variant}
use Rattle.config.specs.declared.Variant.TheVariants.{Uc8253, Uc8279d}
use Rattle.registers.specs.declared.Registers.{Registers}

-- the two bytes of 50
abbrev pub reset_cdi : Variant → List ℕ
reset_cdi Uc8253 = 0x31 ∷ 0x07 ∷ []
reset_cdi Uc8279d = 0xD7 ∷ 0x00 ∷ []

-- 00, 01, 30 and 50 by their bytes; the whole RAM by 61, 65 and 90; not under 91
unfoldable pub reset_of : Variant → Registers
reset_of variant = record {
  psr = 0x0F ∷ 0x8D ∷ [];
  power = 0x07 ∷ 0x17 ∷ 0x3A ∷ 0x3A ∷ 0x03 ∷ [];
  pll = 0x06;
  cdi = reset_cdi variant;
  resolution = record { h = 800; v = 600 };
  start = record { h = 0; v = 0 };
  window = record { x0 = 0; y0 = 0; x1 = 799; y1 = 599 };
  partial = false;
}
