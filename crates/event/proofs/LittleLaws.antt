-- Little-endian numbers: past the end they are 0, and those of a rest are those of the whole further on.
use mathlib.Core.Path.{◌≡◌, refl, ap, ◌∙◌}
use mathlib.Core.List.{List}
use Prim.Native.Nat.{ℕ, zero, suc, ◌+◌, ◌≤◌}
use native.Mathlib.Nat.{add-suc}
use native.Mathlib.Omega.{arith}
use lib.ListN.{length, drop}
use lib.Seq.{get_or-drop}
use Rattle.base.proofs.Lists.{get_d_past}
use Rattle.capture.specs.Little.{little}

pub little_past : (bytes : List ℕ) (at n : ℕ) → length bytes ≤ at → little bytes at n ≡ 0
little_past bytes at zero h = refl
little_past bytes at (suc n) h = omega (arith, get_d_past bytes at 0 h, little_past bytes (suc at) n (omega arith))

pub little_drop : (m : ℕ) (bytes : List ℕ) (at n : ℕ) → little (drop m bytes) at n ≡ little bytes (m + at) n
little_drop m bytes at zero = refl
little_drop m bytes at (suc n) =
    let e : little (drop m bytes) (suc at) n ≡ little bytes (suc (m + at)) n = little_drop m bytes (suc at) n ∙ ap (λ (k : ℕ). little bytes k n) (add-suc m at) in
    omega (arith, get_or-drop m bytes at 0, e)
