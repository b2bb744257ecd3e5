-- An i64 by its parts: how far one that fits lies above zero.
use Prim.Native.Nat.{◌<◌}
use native.Mathlib.Omega.{arith}
use lib.IntN.{ℤ, pos, negsuc}
use mir.Syntax.{w64}
use mir.Val.{SFits}
use Rattle.base.specs.Integer.{up}

pub up_fits : {z : ℤ} → SFits w64 z → up z < 9223372036854775808
up_fits {z = pos n} h = omega (arith, h.sfits)
up_fits {z = negsuc n} h = omega arith
