-- The LUT registers: five tables, 20 for VCOM and 21 to 24 for the pixels, of which 42 bytes each are kept (document 01, "A data byte").
use Rattle.std.specs.Prelude.{List, [], ℕ, ◌-◌, ltb, get_or, set, replicate}
use Rattle.base.specs.Pick.{pick, between}
use Rattle.registers.specs.declared.luts.Luts.{Luts}

-- a reset leaves zeros
unfoldable pub reset_luts : Luts
reset_luts = record { bytes = replicate 5 (replicate 42 0) }

-- data byte number i, from 0: a table keeps 42
unfoldable pub kept_byte : ℕ → ℕ → List ℕ → List ℕ
kept_byte i d t = pick (ltb i 42) (set t i d) t

-- a data byte of the command c
unfoldable pub lut_byte_of : ℕ → ℕ → ℕ → Luts → Luts
lut_byte_of c i d l =
    pick (between 0x20 0x24 c)
    (record { bytes = set l.bytes (c - 0x20) (kept_byte i d (get_or l.bytes (c - 0x20) [])) })
    l
