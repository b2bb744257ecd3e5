-- Document 01, refusal 6: the range of the registers that is not foreign.
use Rattle.std.specs.Prelude.{◌≤◌}
use Rattle.registers.specs.declared.Area.{Area}
use Rattle.registers.specs.declared.Pair.{Pair}
use Rattle.registers.specs.declared.Registers.{Registers}

-- columns at most 799 and rows at most 599
pub record InRam (a : Area) : Type 0 where
  pub x0_most : a.x0 ≤ 799
  pub y0_most : a.y0 ≤ 599
  pub x1_most : a.x1 ≤ 799
  pub y1_most : a.y1 ≤ 599

-- values at most 1,023
pub record InTenBits (p : Pair) : Type 0 where
  pub h_most : p.h ≤ 1023
  pub v_most : p.v ≤ 1023

pub record InRange (r : Registers) : Type 0 where
  pub resolution_held : InTenBits r.resolution
  pub start_held : InTenBits r.start
  pub window_held : InRam r.window
