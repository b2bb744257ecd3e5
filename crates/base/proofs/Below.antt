-- A rule at each number below a bound, by one test that antt computes.
use mathlib.Core.Path.{◌≡◌}
use mathlib.Core.Bool.{Bool, true, false, ◌&&◌}
use Prim.Native.Nat.{ℕ, zero, suc, ◌<◌}
use native.Mathlib.Nat.{not-suc-le-zero}
use native.Mathlib.Omega.{arith}
use native.Mathlib.Decide.{ℕ_discrete}
use lib.Dec.{T}

-- the test passes at each number below n
abbrev pub below : ℕ → (ℕ → Bool) → Bool
below zero p = true
below (suc n) p = p n && below n p

pub both : (a b : Bool) → T (a && b) → T a × T b
both true b t = (tt, t)
both false b t = absurd t

last_or : (p : ℕ → Bool) (n k : ℕ) → T (p n) → Dec (k ≡ n) → ((k ≡ n → ⊥) → T (p k)) → T (p k)
last_or p n k t (yes e) f = rw e t
last_or p n k t (no ne) f = f ne

pub at : (n : ℕ) (p : ℕ → Bool) → T (below n p) → (k : ℕ) → k < n → T (p k)
at zero p t k h = absurd (not-suc-le-zero h)
at (suc n) p t k h =
    let parts = both (p n) (below n p) t in
    last_or p n k parts.0 (ℕ_discrete k n) (λ ne. at n p parts.1 k (omega (arith, ne)))
