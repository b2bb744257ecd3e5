-- What a question has that is not refused: the picture's length; and that a row lies in the picture.
use mathlib.Core.Path.{◌≡◌, refl}
use mathlib.Core.Bool.{Bool, true, false, not}
use mathlib.Core.List.{List}
use Prim.Native.Nat.{ℕ, suc, ◌+◌, ◌*◌, ◌^◌, ◌<◌, ◌≤◌}
use native.Mathlib.Nat.{mul-le-mul, mul-le-mul_left, mul_comm, mul-suc}
use native.Mathlib.Omega.{arith}
use lib.Dec.{eqb}
use lib.ListN.{length}
use borrow.Author.Tests.{eqb-true}
use Rattle.base.specs.Pick.{pick}
use Rattle.controller.specs.declared.Uc8253.{Uc8253}
use Rattle.controller.specs.TurnedBack.{foreign_record, lent_refused}
use Rattle.controller.specs.Calls.{row_refused}

-- ---- a question that is not refused
taken : (a b : Bool) → ◌≡◌ {A = ℕ} (pick a 6 (pick b 0 5)) 0 → b ≡ true
taken true b e = absurd (omega arith)
taken false true e = refl
taken false false e = absurd (omega arith)

pub row_length : (p : Uc8253) (picture : List ℕ) → row_refused p picture ≡ 0
    → length picture ≡ p.config.panel.sources * p.config.panel.gates
unfolding row_refused lent_refused
row_length p picture e =
    eqb-true (length picture) (p.config.panel.sources * p.config.panel.gates)
    (taken (foreign_record p) (eqb (length picture) (p.config.panel.sources * p.config.panel.gates)) e)

-- ---- two numbers of 16 bits; a row below the last lies in the picture
pub small : (w h : ℕ) → w < 65_536 → h < 65_536 → w * h < 2 ^ 32
small w h k l = omega (arith, mul-le-mul {n₁ = w} {m₁ = h} {n₂ = 65_535} {m₂ = 65_535} (omega arith) (omega arith))

pub row_fits : (w h y : ℕ) → y < h → y * w + w ≤ w * h
row_fits w h y l =
    let e : w * suc y ≤ w * h = mul-le-mul_left w l in
    rw (mul_comm y w) (rw (mul-suc w y) at e)
