-- A number that is none of 1 to 13 has no name: it is 0, or past the end of the list.
use mathlib.Core.Path.{◌≡◌, sym}
use mathlib.Core.List.{[]}
use Prim.Native.Nat.{ℕ, zero, suc, ◌<◌}
use native.Mathlib.Decide.{dec_le}
use native.Mathlib.Omega.{arith}
use Rattle.base.proofs.Lists.{get_d_past}
use Rattle.reasons.specs.Wording.{names, name_of}

-- none of the n numbers from 1 on
abbrev NoneOf : ℕ → ℕ → Type 0
NoneOf zero x = Unit
NoneOf (suc n) x = NoneOf n x × (x ≡ suc n → ⊥)

past : (n x : ℕ) → NoneOf n x → (x ≡ 0 → ⊥) → n < x
past zero x r z = omega arith
past (suc n) x r z = omega (arith, past n x r.0 z, r.1)

pub unnamed : (x : ℕ) → NoneOf 13 x → [] ≡ name_of x
unfolding name_of
unnamed x r = elim (dec_le x 0) [
  | yes h ↦
      let z : x ≡ 0 = omega arith in
      rw z
  | no h ↦ sym (get_d_past names x [] (past 13 x r (λ z. omega arith)))
]
