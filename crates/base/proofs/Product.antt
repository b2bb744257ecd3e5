-- When a product of 64-bit numbers passes the range, told by a quotient.
use mathlib.Core.Path.{◌≡◌}
use Prim.Native.Nat.{ℕ, ◌*◌, ◌/◌, ◌≤◌, ◌<◌, min}
use native.Mathlib.Nat.{div-lt_iff_lt-mul}
use native.Mathlib.Decide.{dec_le}
use native.Mathlib.Omega.{arith}

pub product_over : (c a b : ℕ) → 0 < b → c / b < a → c ≡ min (a * b) c
product_over c a b h k = omega (arith, (div-lt_iff_lt-mul {k = b} {x = c} {y = a} h).0 k)

pub product_within : (c a b : ℕ) → 0 < b → a ≤ c / b → a * b ≤ c
product_within c a b h k = elim (dec_le (a * b) c) [
  | yes l ↦ l
  | no l ↦ absurd (clash ((div-lt_iff_lt-mul {k = b} {x = c} {y = a} h).1 (omega arith)))
]
  where
    clash : c / b < a → ⊥
    clash l = omega arith
