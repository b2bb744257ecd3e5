-- A grey that the thresholds confirm is the state's, and so is one that the swing divided by twice the top confirms; a guess is at most the
-- top.
use mathlib.Core.Path.{◌≡◌, sym, ap, subst, ◌∙◌}
use mathlib.Core.List.{List}
use Prim.Native.Nat.{ℕ, ◌+◌, ◌*◌, ◌/◌, ◌≤◌, ◌<◌}
use native.Mathlib.Nat.{le_trans, mul_comm, mul_assoc, mul-add, add-mul, mul_left_comm, mul-le-mul_left, mul-le-mul_right}
use native.Mathlib.Omega.{arith}
use lib.ListN.{get_or}
use Rattle.glass.specs.Gray.{gray_at, gray_of}
use Rattle.glass.proofs.GrayLaws.{gray_between, gray_from}
use Rattle.pixels.specs.declared.Scale.{Scale}
use Rattle.pixels.specs.declared.Wide.{Wide}
use Rattle.pixels.specs.InnerGuess.{Thresholds, unit, white, fine, Scaled, Prepared}

-- from the threshold of q to below the next one
pub confirmed : (s x q : ℕ) (from : List ℕ) → Thresholds s from 257 → q ≤ 255 → get_or from q 0 ≤ x → x < get_or from (q + 1) 0 → gray_of x s ≡ q
confirmed s x q from t k l u =
    gray_between q x s k (omega (arith, t.each q (omega arith), t.each (q + 1) (omega arith)))
    (omega (arith, t.each (q + 1) (omega arith)))

-- what a state's leading bits, at most the swing's, come to
pub product : (c : Scale) (a most : ℕ) → Scaled c most → a ≤ c.most → a * c.factor ≤ most
product c a most h k = le_trans (mul-le-mul_right c.factor k) h.within

pub guess : (c : Scale) (a : ℕ) → Scaled c white → a ≤ c.most → (a * c.factor + unit / 2) / unit ≤ 255
guess c a h k = omega (arith, product c a white h k)

pub guess_wide : (c : Scale) (a t : ℕ) → Scaled c (t * fine) → a ≤ c.most → (a * c.factor + fine / 2) / fine ≤ t
guess_wide c a t h k = omega (arith, product c a (t * fine) h k)

-- ---- made ready for the swing and the top that it has
pub prepared_own : {s t : ℕ} {w : Wide} → Prepared s t w → Prepared w.swing w.top w
prepared_own {s} {t} {w} p =
    subst (λ (n : ℕ). Prepared w.swing n w) (sym p.white) (subst (λ (n : ℕ). Prepared n t w) (sym p.swing) p)

-- ---- a guess q at a top t, tested by the swing divided by twice the top
module _ (t : ℕ) (w : Wide) (p : Prepared w.swing t w) where
  module _ (q : ℕ) (k : q ≤ t) where
    -- twice the guess in swings
    in_swings : q * (2 * w.swing) ≡ 2 * q * w.whole * (2 * t) + 2 * q * w.rest
    in_swings =
        mul_left_comm q 2 w.swing
        ∙ sym (mul_assoc 2 q w.swing)
        ∙ ap (λ (n : ℕ). 2 * q * n) (sym p.split)
        ∙ mul-add (2 * q) (w.whole * (2 * t)) w.rest
        ∙ ap (λ (n : ℕ). n + 2 * q * w.rest) (sym (mul_assoc (2 * q) w.whole (2 * t)))

    module _ (x over : ℕ) (e : 2 * q * w.whole + over ≡ x + w.whole) where
      -- the number of the grey's formula: so much more in states
      in_states : 2 * (x * t) + w.swing ≡ 2 * q * w.whole * (2 * t) + over * (2 * t) + w.rest
      in_states =
          let sum : (2 * q * w.whole + over) * (2 * t) ≡ (x + w.whole) * (2 * t) = ap (λ (n : ℕ). n * (2 * t)) e in
          omega (arith, sum, p.split, add-mul (2 * q * w.whole) over (2 * t), add-mul x w.whole (2 * t), mul_left_comm x 2 t)

      module _ (near : ℕ) (n : near ≤ over) (l : 2 * q * w.rest ≤ w.double * near + w.rest) where
        low : q * (2 * w.swing) ≤ 2 * (x * t) + w.swing
        low = omega (arith, in_swings, in_states, ap (λ (d : ℕ). d * near) p.double, mul-le-mul_left (2 * t) n, mul_comm (2 * t) over, l)

        pub grey_below : over < 2 * w.whole → gray_at t x w.swing ≡ q
        grey_below h =
            let more : over + 1 ≤ 2 * w.whole = omega arith in
            gray_from t x w.swing q k low
            (omega (
              arith,
              in_swings,
              in_states,
              p.split,
              p.left,
              add-mul q 1 (2 * w.swing),
              mul-le-mul_right (2 * t) more,
              add-mul over 1 (2 * t),
              mul_assoc 2 w.whole (2 * t),
            ))

        pub grey_past : (past : ℕ) → 2 * w.whole + past ≡ over → w.double * past < 2 * q * w.rest + w.rest → gray_at t x w.swing ≡ q
        grey_past past f h =
            gray_from t x w.swing q k low
            (omega (
              arith,
              in_swings,
              in_states,
              p.split,
              add-mul q 1 (2 * w.swing),
              ap (λ (m : ℕ). m * (2 * t)) f,
              add-mul (2 * w.whole) past (2 * t),
              ap (λ (d : ℕ). d * past) p.double,
              mul_comm (2 * t) past,
              mul_assoc 2 w.whole (2 * t),
              h,
            ))
