-- The level by a split quotient, the least state of each grey, and the grey from a quotient and a remainder of the top times the state.
use mathlib.Core.Path.{◌≡◌, sym, ap, ◌∙◌}
use Prim.Native.Nat.{ℕ, zero, suc, ◌+◌, ◌-◌, ◌*◌, ◌/◌, ◌%◌, ◌^◌, ◌≤◌, ◌<◌}
use native.Mathlib.Nat.{zero-mul, mul-zero, mul_comm, mul_assoc, mul-add, add-mul, mul_left_comm, mul-le-mul_left, mul-le-mul_right}
use native.Mathlib.Nat.{div-add-mod, div-lt_iff_lt-mul, le-div_iff_mul-le, div-div-eq-div-mul, div-eq_of_lt-le, pow-succ'}
use native.Mathlib.Omega.{arith}
use native.Mathlib.Decide.{dec_le}
use lib.Arith.{digits_div}
use borrow.Author.Tests.{ne_eqb}
use Rattle.glass.specs.declared.Sum.{Sum}
use Rattle.glass.specs.Gray.{level_of, top_of, gray_at, gray_of, least_of}
use Rattle.glass.specs.InnerDivision.{Carried}

-- ---- the level by a split quotient
pub level_split : (g s : ℕ) → s / 255 * g + s % 255 * g / 255 ≡ level_of g s
level_split g s = omega (arith, parted)
  where
    parted : s * g ≡ 255 * (s / 255 * g) + s % 255 * g
    parted =
        ap (λ (n : ℕ). n * g) (sym (div-add-mod s 255))
        ∙ add-mul (255 * (s / 255)) (s % 255) g
        ∙ ap (λ (n : ℕ). n + s % 255 * g) (mul_assoc 255 (s / 255) g)

-- ---- the top that is meant
pub top_some : (t : ℕ) → 0 < top_of t
top_some zero = omega arith
top_some (suc t) = rw (ne_eqb (suc t) 0 (λ e. absurd (omega arith))) (omega arith)

pub top_same : (t : ℕ) → 0 < t → top_of t ≡ t
top_same t h = rw (ne_eqb t 0 (λ e. absurd (omega arith)))

-- ---- the grey before it is held to the top
abbrev pub rounded : ℕ → ℕ → ℕ → ℕ
rounded top x s = (2 * (x * top) + s) / (2 * s)

module _ (top x s : ℕ) where
  pub quotient : (2 * top * x + s) / (2 * s) ≡ rounded top x s
  quotient = ap (λ (n : ℕ). n / (2 * s)) (omega (arith, mul_assoc 2 top x, mul_comm x top))

  pub rounded_fits : 0 < s → x ≤ s → rounded top x s ≤ top
  rounded_fits h k =
      omega (
        arith,
        (div-lt_iff_lt-mul {k = 2 * s} {x = 2 * (x * top) + s} {y = top + 1} (omega arith)).1
            (omega (arith, mul-le-mul_right top k, add-mul top 1 (2 * s), mul_left_comm top 2 s, mul_comm s top)),
      )

  -- a state at white or past it, with some swing
  pub gray_white : 0 < s → s ≤ x → top ≡ gray_at top x s
  gray_white h k =
      omega (
        arith,
        (le-div_iff_mul-le {k = 2 * s} {x = top} {y = 2 * (x * top) + s} (omega arith)).1
            (omega (arith, mul-le-mul_right top k, mul_left_comm top 2 s, mul_comm s top)),
      )

  -- from a quotient and a remainder of top times the state
  module _ (q r : ℕ) (e : top * x ≡ q * s + r) where
    pub rounded_down : 2 * r < s → rounded top x s ≡ q
    rounded_down h =
        ap (λ (n : ℕ). n / (2 * s)) {x = 2 * (x * top) + s} {y = q * (2 * s) + (2 * r + s)}
        (omega (arith, mul_comm x top, mul_left_comm q 2 s))
        ∙ digits_div q (omega arith)

    pub rounded_up : r < s → s ≤ 2 * r → rounded top x s ≡ q + 1
    rounded_up h k =
        ap (λ (n : ℕ). n / (2 * s)) {x = 2 * (x * top) + s} {y = (q + 1) * (2 * s) + (2 * r - s)}
        (omega (arith, mul_comm x top, mul_left_comm q 2 s, add-mul q 1 (2 * s)))
        ∙ digits_div (q + 1) (omega arith)

  -- from between whose bounds the formula's number lies
  pub gray_from : (q : ℕ) → q ≤ top → q * (2 * s) ≤ 2 * (x * top) + s → 2 * (x * top) + s < (q + 1) * (2 * s) → gray_at top x s ≡ q
  gray_from q h l u = omega (arith, div-eq_of_lt-le {k = q} (2 * s) {m = 2 * (x * top) + s} l u)

-- ---- the least state of a grey, by a split quotient, and that it is the least
pub least_split : (q s : ℕ) → (2 * q - 1) * (s / 510) + ((2 * q - 1) * (s % 510) + 509) / 510 ≡ least_of q s
least_split q s = omega (arith, parted (2 * q - 1))
  where
    parted : (m : ℕ) → m * s ≡ 510 * (m * (s / 510)) + m * (s % 510)
    parted m =
        ap (λ (n : ℕ). m * n) (sym (div-add-mod s 510))
        ∙ mul-add m (510 * (s / 510)) (s % 510)
        ∙ ap (λ (n : ℕ). n + m * (s % 510)) (mul_left_comm m 510 (s / 510))

module _ (x s : ℕ) (h : 0 < s) where
  -- twice as many swings as q, less one
  odd : (q : ℕ) → 0 < q → q * (2 * s) ≡ (2 * q - 1) * s + s
  odd q k =
      sym (mul_assoc q 2 s) ∙ ap (λ (n : ℕ). n * s) {x = q * 2} {y = 2 * q - 1 + 1} (omega arith) ∙ omega (arith, add-mul (2 * q - 1) 1 s)

  pub least_gray : (q : ℕ) → q ≤ 255 → least_of q s ≤ x → q ≤ gray_of x s
  least_gray zero k l = omega arith
  least_gray (suc q) k l =
      omega (
        arith,
        (le-div_iff_mul-le {k = 2 * s} {x = suc q} {y = 2 * (x * 255) + s} (omega arith)).1 (omega (arith, odd (suc q) (omega arith))),
      )

  pub gray_least : (q : ℕ) → q ≤ gray_of x s → least_of q s ≤ x
  gray_least zero l = omega arith
  gray_least (suc q) l =
      omega (
        arith,
        odd (suc q) (omega arith),
        (le-div_iff_mul-le {k = 2 * s} {x = suc q} {y = 2 * (x * 255) + s} (omega arith)).0 (omega arith),
      )

-- a state from the least of grey q to below the next one's
pub gray_between : (q x s : ℕ) → q ≤ 255 → least_of q s ≤ x → x < least_of (q + 1) s → gray_of x s ≡ q
gray_between q x zero k l u = absurd (omega (arith, mul-zero (2 * (q + 1) - 1)))
gray_between q x (suc s) k l u = elim (dec_le (q + 1) (gray_of x (suc s))) [
  | yes n ↦ absurd (omega (arith, gray_least x (suc s) (omega arith) (q + 1) n))
  | no n ↦ omega (arith, least_gray x (suc s) (omega arith) q k l)
]

-- ---- long division: n, the digits of the top so far, times the state is q times the swing and r
pub record Digits (x s n q r : ℕ) : Type 0 where
  pub whole : n * x ≡ q * s + r
  pub below : r < s

module _ (x s : ℕ) where
  pub digits_none : 0 < s → (n : ℕ) → n ≡ 0 → Digits x s n 0 0
  digits_none h n e = record { whole = rw e (omega (arith, zero-mul x, zero-mul s)); below = h }

  pub digits_more : (n q r : ℕ) (d e : Sum) → Digits x s (n / 2) q r → Carried r r s d → Carried d.rest (n % 2 * x) s e →
      Digits x s n (2 * q + d.carry + e.carry) e.rest
  digits_more n q r d e g f f' = record {
    whole =
        ap (λ (k : ℕ). k * x) {x = n} {y = 2 * (n / 2) + n % 2} (omega arith)
        ∙ omega (
          arith,
          add-mul (2 * (n / 2)) (n % 2) x,
          mul_assoc 2 (n / 2) x,
          g.whole,
          f.whole,
          f'.whole,
          mul_assoc 2 q s,
          add-mul (2 * q + d.carry) e.carry s,
          add-mul (2 * q) d.carry s,
        );
    below = f'.below;
  }

  -- the quotient of a state below the swing
  pub digits_small : (n q r : ℕ) → x < s → Digits x s n q r → q ≤ n
  digits_small n q r h g = elim (dec_le q n) [
    | yes k ↦ k
    | no k ↦
        let more : n + 1 ≤ q = omega arith in
        let less : x ≤ s = omega arith in
        absurd (omega (arith, g.whole, mul-le-mul_right s more, add-mul n 1 s, mul-le-mul_left n less))
  ]

-- before the next digit, all but the last of those after it
pub next_digit : (top left : ℕ) → 0 < left → top / 2 ^ (left - 1) / 2 ≡ top / 2 ^ left
next_digit top zero h = absurd (omega arith)
next_digit top (suc k) h =
    ap (λ (n : ℕ). top / 2 ^ n / 2) {x = suc k - 1} {y = k} (omega arith)
    ∙ div-div-eq-div-mul top (2 ^ k) 2
    ∙ ap (λ (n : ℕ). top / n) (mul_comm (2 ^ k) 2 ∙ sym (pow-succ' 2 k))
