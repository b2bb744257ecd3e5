-- Worked lines of document 01, "Conditions of acceptance", computed on the definitions from the reset registers of either variant.
use mathlib.Core.Path.{◌≡◌, refl}
use mathlib.Core.List.{[], ◌∷◌}
use Rattle.config.specs.declared.Variant.{Variant}
use Rattle.registers.specs.Bytes.{ten_bits, window_set, held_area, byte_of, bytes_from}
use Rattle.registers.specs.Reset.{reset_of}
use Rattle.registers.specs.Written.{active_of}

module _ (v : Variant) where
  -- 65 with 03 20 00 00: column 799 only
  pub last_column_only : active_of (bytes_from 0x65 0 (0x03 ∷ 0x20 ∷ 0x00 ∷ 0x00 ∷ []) (reset_of v))
      ≡ record { x0 = 799; y0 = 0; x1 = 799; y1 = 599 }
  unfolding reset_of byte_of ten_bits active_of
  last_column_only = refl

  -- 90 with 00 0F 00 10: columns 8 to 23
  pub columns_8_to_23 : (bytes_from 0x90 0 (0x00 ∷ 0x0F ∷ 0x00 ∷ 0x10 ∷ []) (reset_of v)).window ≡ record { x0 = 8; y0 = 0; x1 = 23; y1 = 599 }
  unfolding reset_of byte_of window_set held_area
  columns_8_to_23 = refl

  -- resolution 0 at start 8: column 8 only
  pub column_8_only : active_of (bytes_from 0x61 0 (0x00 ∷ 0x00 ∷ []) (bytes_from 0x65 0 (0x00 ∷ 0x08 ∷ []) (reset_of v)))
      ≡ record { x0 = 8; y0 = 0; x1 = 8; y1 = 599 }
  unfolding reset_of byte_of ten_bits active_of
  column_8_only = refl
