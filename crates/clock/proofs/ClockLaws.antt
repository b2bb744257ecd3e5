-- Durations and cycles: each conversion gives the best number there is, the two meet, and at 1 GHz neither changes anything.
-- All of it comes from one law of quotients: x ≤ y / k exactly when x * k ≤ y.
use mathlib.Core.Path.{◌≡◌, refl, sym, ap, subst, ◌∙◌}
use mathlib.Core.Bool.{true, false}
use Prim.Native.Nat.{ℕ, ◌+◌, ◌-◌, ◌*◌, ◌/◌, ◌%◌, ◌≤◌, ◌<◌, min, max}
use native.Mathlib.Nat.{
  mul_assoc,
  add-mul,
  mul-le-mul_left,
  mul-le-mul_right,
  div-add-mod,
  div-add-mod',
  le-div_iff_mul-le,
  mul-add-div_right,
}
use native.Mathlib.Decide.{dec_le}
use native.Mathlib.Omega.{arith}
use lib.Dec.{T}
use borrow.Author.Tests.{le-leb, lt-leb}
use Rattle.base.specs.Word.{top}
use Rattle.clock.specs.Clock.{billion, near, cycles_of, nanos_of, bad_rate}

-- ---- the rate
pub near_inside : (rate : ℕ) → (1 ≤ near rate) × (near rate ≤ billion)
unfolding near
near_inside rate = (omega arith, omega arith)

pub near_same : (rate : ℕ) → 1 ≤ rate → rate ≤ billion → near rate ≡ rate
unfolding near
near_same rate l h = omega arith

pub near_fast : (rate : ℕ) → billion ≤ rate → near rate ≡ billion
unfolding near
near_fast rate h = omega arith

pub near_slow : (rate : ℕ) → rate < billion → near rate ≡ max 1 rate
unfolding near
near_slow rate h = omega arith

pub rate_low : (rate : ℕ) → rate < 1 → bad_rate rate ≡ true
unfolding bad_rate
rate_low rate h = simp (lt-leb 1 rate h)

pub rate_over : (rate : ℕ) → billion < rate → bad_rate rate ≡ true
unfolding bad_rate
rate_over rate h = simp (le-leb 1 rate (omega arith), lt-leb rate billion h)

pub rate_good : (rate : ℕ) → 1 ≤ rate → rate ≤ billion → bad_rate rate ≡ false
unfolding bad_rate
rate_good rate l h = simp (le-leb 1 rate l, le-leb rate billion h)

pub rate_inside : (rate : ℕ) → bad_rate rate ≡ false → (1 ≤ rate) × (rate ≤ billion)
rate_inside rate e = (
  elim (dec_le 1 rate) [ yes l ↦ l | no n ↦ clash (rate_low rate (omega arith)) ],
  elim (dec_le rate billion) [ yes l ↦ l | no n ↦ clash (rate_over rate (omega arith)) ],
)
  where
    clash : {A : Type 0} → bad_rate rate ≡ true → A
    clash p = absurd (subst T (sym p ∙ e) tt)

-- ---- a duration in cycles, by a split quotient
pub cycles_split : (rate ns : ℕ) → ns / billion * near rate + (ns % billion * near rate + (billion - 1)) / billion ≡ cycles_of rate ns
unfolding cycles_of
cycles_split rate ns = omega (arith, parted (near rate))
  where
    parted : (m : ℕ) → ns * m ≡ billion * (ns / billion * m) + ns % billion * m
    parted m =
        ap (λ (n : ℕ). n * m) (sym (div-add-mod ns billion))
        ∙ add-mul (billion * (ns / billion)) (ns % billion) m
        ∙ ap (λ (n : ℕ). n + ns % billion * m) (mul_assoc billion (ns / billion) m)

-- no rate is faster than 1 GHz, so there are never more cycles than nanoseconds
pub cycles_fit : (rate ns : ℕ) → cycles_of rate ns ≤ ns
unfolding cycles_of
cycles_fit rate ns = omega (arith, mul-le-mul_left {m = near rate} {n = billion} ns (near_inside rate).1)

lasts : (rate ns : ℕ) → ns * near rate ≤ cycles_of rate ns * billion
unfolding cycles_of
lasts rate ns = omega arith

least : (rate ns c : ℕ) → ns * near rate ≤ c * billion → cycles_of rate ns ≤ c
unfolding cycles_of
least rate ns c h = omega arith

pub cycles_monotone : (rate ns ns' : ℕ) → ns ≤ ns' → cycles_of rate ns ≤ cycles_of rate ns'
cycles_monotone rate ns ns' h =
    least rate ns (cycles_of rate ns') (omega (arith, mul-le-mul_right {m = ns} {n = ns'} (near rate) h, lasts rate ns'))

-- at 1 GHz, or at a faster rate, which counts as that
pub cycles_fast : (rate ns : ℕ) → billion ≤ rate → cycles_of rate ns ≡ ns
unfolding cycles_of
cycles_fast rate ns h = rw (near_fast rate h) (omega arith)

pub cycles_same : (ns : ℕ) → cycles_of billion ns ≡ ns
cycles_same ns = cycles_fast billion ns (omega arith)

-- ---- cycles in nanoseconds, by a split quotient
pub nanos_split : (rate c : ℕ) → min (min (c / near rate * billion) top + c % near rate * billion / near rate) top ≡ nanos_of rate c
unfolding nanos_of
nanos_split rate c = omega (arith, parted (near rate) (near_inside rate).0)
  where
    parted : (m : ℕ) → 1 ≤ m → c * billion / m ≡ c / m * billion + c % m * billion / m
    parted m h =
        ap (λ (n : ℕ). n / m) whole ∙ mul-add-div_right h (c / m * billion) (c % m * billion)
      where
        whole : c * billion ≡ c / m * billion * m + c % m * billion
        whole = omega (arith, div-add-mod' c m)

pub nanos_bound : (rate c : ℕ) → nanos_of rate c ≤ top
unfolding nanos_of
nanos_bound rate c = omega arith

within : (rate c : ℕ) → nanos_of rate c * near rate ≤ c * billion
unfolding nanos_of
within rate c = (le-div_iff_mul-le {k = near rate} {x = nanos_of rate c} {y = c * billion} (near_inside rate).0).0 (omega arith)

most : (rate c n : ℕ) → n ≤ top → n * near rate ≤ c * billion → n ≤ nanos_of rate c
unfolding nanos_of
most rate c n l h = omega (arith, (le-div_iff_mul-le {k = near rate} {x = n} {y = c * billion} (near_inside rate).0).1 h)

pub nanos_monotone : (rate c c' : ℕ) → c ≤ c' → nanos_of rate c ≤ nanos_of rate c'
nanos_monotone rate c c' h = most rate c' (nanos_of rate c) (nanos_bound rate c) (omega (arith, within rate c))

pub nanos_fast : (rate c : ℕ) → billion ≤ rate → c ≤ top → nanos_of rate c ≡ c
unfolding nanos_of
nanos_fast rate c h k = rw (near_fast rate h) (omega arith)

pub nanos_same : (c : ℕ) → c ≤ top → nanos_of billion c ≡ c
nanos_same c h = nanos_fast billion c (omega arith) h

-- ---- a rate in range: the least cycles that last as long, and the most nanoseconds that fit
module _ (rate : ℕ) (l : 1 ≤ rate) (h : rate ≤ billion) where
  pub cycles_last : (ns : ℕ) → ns * rate ≤ cycles_of rate ns * billion
  cycles_last ns = rw (near_same rate l h) at (lasts rate ns)

  pub cycles_least : (ns c : ℕ) → ns * rate ≤ c * billion → cycles_of rate ns ≤ c
  cycles_least ns c k = least rate ns c (rw (near_same rate l h) k)

  pub nanos_within : (c : ℕ) → nanos_of rate c * rate ≤ c * billion
  nanos_within c = rw (near_same rate l h) at (within rate c)

  pub nanos_most : (c n : ℕ) → n ≤ top → n * rate ≤ c * billion → n ≤ nanos_of rate c
  nanos_most c n k m = most rate c n k (rw (near_same rate l h) m)

-- ---- the two meet: cycles last as long as a duration exactly when they are as many as its own
pub cycles_nanos : (rate ns c : ℕ) → ns ≤ top → cycles_of rate ns ≤ c → ns ≤ nanos_of rate c
cycles_nanos rate ns c l h = most rate c ns l (omega (arith, lasts rate ns))

pub nanos_cycles : (rate ns c : ℕ) → ns ≤ nanos_of rate c → cycles_of rate ns ≤ c
nanos_cycles rate ns c h =
    least rate ns c (omega (arith, mul-le-mul_right {m = ns} {n = nanos_of rate c} (near rate) h, within rate c))

-- ---- worked by hand
pub worked :
    (cycles_of 3 0 ≡ 0) × (cycles_of 3 1 ≡ 1) × (cycles_of 3 333_333_333 ≡ 1) × (cycles_of 3 333_333_334 ≡ 2) × (nanos_of 3 1 ≡ 333_333_333)
    × (nanos_of 1 top ≡ top) × (nanos_of 32_768 1 ≡ 30_517)
unfolding cycles_of nanos_of near
worked = (refl, refl, refl, refl, refl, refl, refl)
