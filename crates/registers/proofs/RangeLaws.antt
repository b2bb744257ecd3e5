-- The reset registers are in range, and every data byte keeps them there; the active area lies in the RAM, and so does the written one.
use Prim.Native.Nat.{ℕ, ◌≤◌, ◌<◌}
use native.Mathlib.Omega.{arith}
use lib.Dec.{eqb}
use Rattle.base.proofs.Cases.{both}
use Rattle.config.specs.declared.Variant.{Variant}
use Rattle.registers.specs.declared.Area.{Area}
use Rattle.registers.specs.declared.Pair.{Pair}
use Rattle.registers.specs.declared.Registers.{Registers}
use Rattle.registers.specs.Bytes.{high_of, low_of, low_column, ten_bits, window_set, held_area, byte_of}
use Rattle.registers.specs.Range.{InRam, InTenBits, InRange}
use Rattle.registers.specs.Reset.{reset_of}
use Rattle.registers.specs.Written.{active_of, written_of}

high_most : (x b : ℕ) → high_of x b ≤ 1023
high_most x b = omega arith

low_most : (x b : ℕ) → b < 256 → low_of x b ≤ 1023
low_most x b h = omega arith

low_column_most : (x b : ℕ) → b < 256 → low_column x b ≤ 1023
low_column_most x b h = omega arith

pub ten_bits_in_range : (i b : ℕ) (p : Pair) → b < 256 → InTenBits p → InTenBits (ten_bits i b p)
unfolding ten_bits
ten_bits_in_range i b p h q =
    both InTenBits (eqb i 0) (record { h_most = high_most p.h b; v_most = q.v_most })
    (both InTenBits (eqb i 1) (record { h_most = low_column_most p.h b h; v_most = q.v_most })
    (both InTenBits (eqb i 2) (record { h_most = q.h_most; v_most = high_most p.v b })
    (record { h_most = q.h_most; v_most = low_most p.v b h })))

pub held_in_ram : (a : Area) → InRam (held_area a)
unfolding held_area
held_in_ram a = record { x0_most = omega arith; y0_most = omega arith; x1_most = omega arith; y1_most = omega arith }

pub active_in_range : (r : Registers) → InRam (active_of r)
unfolding active_of
active_in_range r = record { x0_most = omega arith; y0_most = omega arith; x1_most = omega arith; y1_most = omega arith }

pub written_in_range : (r : Registers) → InRange r → InRam (written_of r)
unfolding written_of
written_in_range r q = both InRam r.partial q.window_held (active_in_range r)

pub reset_in_range : (v : Variant) → InRange (reset_of v)
unfolding reset_of
reset_in_range v = record {
  resolution_held = record { h_most = omega arith; v_most = omega arith };
  start_held = record { h_most = omega arith; v_most = omega arith };
  window_held = record { x0_most = omega arith; y0_most = omega arith; x1_most = omega arith; y1_most = omega arith };
}

made : {s : Registers} → InTenBits s.resolution → InTenBits s.start → InRam s.window → InRange s
made p q w = record { resolution_held = p; start_held = q; window_held = w }

pub byte_in_range : (c i b : ℕ) (r : Registers) → InRange r → b < 256 → InRange (byte_of c i b r)
unfolding byte_of
byte_in_range c i b r q h =
    let p = q.resolution_held in
    let s = q.start_held in
    let w = q.window_held in
    both InRange (eqb c 0x00) (made p s w)
    (both InRange (eqb c 0x01) (made p s w)
    (both InRange (eqb c 0x30) (made p s w)
    (both InRange (eqb c 0x50) (made p s w)
    (both InRange (eqb c 0x61) (made (ten_bits_in_range i b r.resolution h p) s w)
    (both InRange (eqb c 0x65) (made p (ten_bits_in_range i b r.start h s) w)
    (both InRange (eqb c 0x90) (made p s (held_in_ram (window_set i b r.window)))
    q))))))
