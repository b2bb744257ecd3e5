-- The part of a slice from a place on.
use mathlib.Core.Path.{◌≡◌}
use mathlib.Core.List.{List}
use Prim.Native.Nat.{ℕ, ◌-◌}
use native.Mathlib.Omega.{arith}
use lib.ListN.{length, take, drop, length-drop}
use lib.Seq.{take_all}

pub from_place : (i : ℕ) (l : List ℕ) → take (length l - i) (drop i l) ≡ drop i l
from_place i l = take_all (length l - i) (drop i l) (omega (arith, length-drop i l))
