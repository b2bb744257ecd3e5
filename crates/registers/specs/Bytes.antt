-- Document 01, "A data byte": what a data byte of 00, 01, 30, 50, 61, 65 or 90 does to the registers.
use Rattle.std.specs.Prelude.{Bool, List, [], ◌∷◌, ℕ, ◌+◌, ◌*◌, ◌/◌, ◌%◌, min, eqb, ltb, set}
use Rattle.base.specs.Pick.{pick}
use Rattle.registers.specs.declared.Area.{Area}
use Rattle.registers.specs.declared.Pair.{Pair}
use Rattle.registers.specs.declared.Registers.{Registers}

-- bits 9:8 of a number by the low two bits of a byte
abbrev pub high_of : ℕ → ℕ → ℕ
high_of x b = x % 256 + b % 4 * 256

-- its low byte
abbrev pub low_of : ℕ → ℕ → ℕ
low_of x b = x / 256 % 4 * 256 + b

-- its low byte where it is a column: the three low bits are lost
abbrev pub low_column : ℕ → ℕ → ℕ
low_column x b = x / 256 % 4 * 256 + b / 8 * 8

-- 61 and 65: bits 9:8 of the column, its low byte, bits 9:8 of the row, its low byte;
-- a byte past the fourth, which neither takes, would be another low byte of the row
unfoldable pub ten_bits : ℕ → ℕ → Pair → Pair
ten_bits i b p =
    pick (eqb i 0) (record { h = high_of p.h b; v = p.v })
    (pick (eqb i 1) (record { h = low_column p.h b; v = p.v })
    (pick (eqb i 2) (record { h = p.h; v = high_of p.v b })
    (record { h = p.h; v = low_of p.v b })))

-- an area with one end changed
abbrev pub with_x0 : Area → ℕ → Area
with_x0 a n = record { x0 = n; y0 = a.y0; x1 = a.x1; y1 = a.y1 }

abbrev pub with_x1 : Area → ℕ → Area
with_x1 a n = record { x0 = a.x0; y0 = a.y0; x1 = n; y1 = a.y1 }

abbrev pub with_y0 : Area → ℕ → Area
with_y0 a n = record { x0 = a.x0; y0 = n; x1 = a.x1; y1 = a.y1 }

abbrev pub with_y1 : Area → ℕ → Area
with_y1 a n = record { x0 = a.x0; y0 = a.y0; x1 = a.x1; y1 = n }

-- 90: first column, last column, whose three low bits are set, first row, last row, each by its bits 9:8 and then its low byte;
-- the ninth byte changes nothing
unfoldable pub window_set : ℕ → ℕ → Area → Area
window_set i b a =
    pick (eqb i 0) (with_x0 a (high_of a.x0 b))
    (pick (eqb i 1) (with_x0 a (low_column a.x0 b))
    (pick (eqb i 2) (with_x1 a (high_of a.x1 b))
    (pick (eqb i 3) (with_x1 a (low_column a.x1 b + 7))
    (pick (eqb i 4) (with_y0 a (high_of a.y0 b))
    (pick (eqb i 5) (with_y0 a (low_of a.y0 b))
    (pick (eqb i 6) (with_y1 a (high_of a.y1 b))
    (pick (eqb i 7) (with_y1 a (low_of a.y1 b))
    a)))))))

-- columns held to 799 and rows to 599
unfoldable pub held_area : Area → Area
held_area a = record { x0 = min a.x0 799; y0 = min a.y0 599; x1 = min a.x1 799; y1 = min a.y1 599 }

-- held after every byte
abbrev pub window_byte : ℕ → ℕ → Area → Area
window_byte i b a = held_area (window_set i b a)

-- byte number i of a register of n bytes; past them nothing
unfoldable pub put_at : ℕ → ℕ → ℕ → List ℕ → List ℕ
put_at n i b l = pick (ltb i n) (set l i b) l

-- the registers in their order
abbrev pub registers_of : List ℕ → List ℕ → ℕ → List ℕ → Pair → Pair → Area → Bool → Registers
registers_of psr power pll cdi resolution start window partial = record {
  psr = psr;
  power = power;
  pll = pll;
  cdi = cdi;
  resolution = resolution;
  start = start;
  window = window;
  partial = partial;
}

-- the registers with one changed
abbrev pub with_psr : Registers → List ℕ → Registers
with_psr r l = registers_of l r.power r.pll r.cdi r.resolution r.start r.window r.partial

abbrev pub with_power : Registers → List ℕ → Registers
with_power r l = registers_of r.psr l r.pll r.cdi r.resolution r.start r.window r.partial

abbrev pub with_pll : Registers → ℕ → Registers
with_pll r b = registers_of r.psr r.power b r.cdi r.resolution r.start r.window r.partial

abbrev pub with_cdi : Registers → List ℕ → Registers
with_cdi r l = registers_of r.psr r.power r.pll l r.resolution r.start r.window r.partial

abbrev pub with_resolution : Registers → Pair → Registers
with_resolution r p = registers_of r.psr r.power r.pll r.cdi p r.start r.window r.partial

abbrev pub with_start : Registers → Pair → Registers
with_start r p = registers_of r.psr r.power r.pll r.cdi r.resolution p r.window r.partial

abbrev pub with_window : Registers → Area → Registers
with_window r a = registers_of r.psr r.power r.pll r.cdi r.resolution r.start a r.partial

-- data byte number i, from 0, of the command c
unfoldable pub byte_of : ℕ → ℕ → ℕ → Registers → Registers
byte_of c i b r =
    pick (eqb c 0x00) (with_psr r (put_at 2 i b r.psr))
    (pick (eqb c 0x01) (with_power r (put_at 5 i b r.power))
    (pick (eqb c 0x30) (with_pll r (pick (eqb i 0) b r.pll))
    (pick (eqb c 0x50) (with_cdi r (put_at 2 i b r.cdi))
    (pick (eqb c 0x61) (with_resolution r (ten_bits i b r.resolution))
    (pick (eqb c 0x65) (with_start r (ten_bits i b r.start))
    (pick (eqb c 0x90) (with_window r (window_byte i b r.window))
    r))))))

-- data bytes of the command c in turn, from number i on
abbrev pub bytes_from : ℕ → ℕ → List ℕ → Registers → Registers
bytes_from c i [] r = r
bytes_from c i (b ∷ bs) r = bytes_from c (i + 1) bs (byte_of c i b r)
