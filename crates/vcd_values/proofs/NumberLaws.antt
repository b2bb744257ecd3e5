-- Digits: what a loop learns at each byte. A word is a number if its digits are as many as its bytes; a time that is over stays over.
use mathlib.Core.Path.{◌≡◌, refl, ◌∙◌}
use mathlib.Core.Bool.{Bool, true, false, ◌&&◌}
use mathlib.Core.List.{List, [], ◌∷◌}
use Prim.Native.Nat.{ℕ, suc, ◌+◌, ◌-◌, ◌*◌, ◌≤◌, ◌<◌}
use native.Mathlib.Omega.{arith}
use lib.Dec.{eqb, ltb, eqb-suc-suc, eqb-zero-suc}
use lib.ListN.{length, get_or, drop}
use Rattle.std.specs.List.{take_while}
use Rattle.std.proofs.lemmas.List.Sums.{take_while-cons}
use lib.Seq.{drop-cons}
use borrow.Author.Tests.{le-ltb, lt-ltb, le-leb, ltb-false}
use Rattle.base.specs.Pick.{pick}
use Rattle.base.proofs.Cases.{by_cases}
use Rattle.vcd_words.specs.Words.{every}
use Rattle.std.specs.Prelude.{Option, Some, None}
use Rattle.vcd_values.specs.declared.times.Width.TheVariants.{Bit, Wide}
use Rattle.vcd_values.specs.Numbers.{is_digit, is_number, value_from, value_of, leading, time_of, size_of}

-- ---- digits at the front
pub leading_within : (w : List ℕ) → leading w ≤ length w
leading_within [] = omega arith
leading_within (b ∷ w) =
    by_cases (is_digit b)
    (λ e. rw e (omega (arith, leading_within w)))
    (λ e. rw e (omega arith))

pub leading_is : (w : List ℕ) → length (take_while is_digit w) ≡ leading w
leading_is [] = refl
leading_is (b ∷ w) = by_cases (is_digit b) (λ e. rw (take_while-cons, e, leading_is w)) (λ e. rw (take_while-cons, e))

-- ---- a number
pub every_leading : (w : List ℕ) → every is_digit w ≡ eqb (leading w) (length w)
every_leading [] = refl
every_leading (b ∷ w) =
    by_cases (is_digit b)
    (λ e. rw (e, eqb-suc-suc) (every_leading w))
    (λ e. rw (e, eqb-zero-suc))

pub number_every : (w : List ℕ) → 0 < length w → is_number w ≡ every is_digit w
number_every [] h = absurd (omega arith)
number_every (b ∷ w) h = refl

pub number_leading : (w : List ℕ) → 0 < length w → is_number w ≡ eqb (leading w) (length w)
number_leading w h = number_every w h ∙ every_leading w

-- ---- a time, from what is left of its digits behind those of value n
abbrev pub limit : ℕ
limit = 0x1_0000_0000_0000_0000

abbrev pub time_from : ℕ → List ℕ → Option ℕ
time_from n w = pick (every is_digit w && ltb (value_from n w) limit) (Some (value_from n w)) None

pub time_start : (w : List ℕ) → 0 < length w → time_of w ≡ time_from 0 w
unfolding time_of value_of
time_start [] h = absurd (omega arith)
time_start (b ∷ w) h = refl

pub time_none : (w : List ℕ) → length w ≡ 0 → time_of w ≡ None
unfolding time_of
time_none [] h = refl
time_none (b ∷ w) h = absurd (omega arith)

value_grows : (n : ℕ) (w : List ℕ) → n ≤ value_from n w
value_grows n [] = omega arith
value_grows n (b ∷ w) = omega (arith, value_grows (10 * n + (b - 48)) w)

never : (t : Bool) (n : ℕ) → limit ≤ n → pick (t && ltb n limit) (Some n) None ≡ None
never true n h = rw (le-ltb n limit h)
never false n h = refl

module _ (n : ℕ) (w : List ℕ) (i : ℕ) (h : i < length w) where
  pub time_over : limit ≤ 10 * n + (get_or w i 0 - 48) → time_from n (drop i w) ≡ None
  time_over l =
      let m = 10 * n + (get_or w i 0 - 48) in
      let rest = drop (suc i) w in
      rw (drop-cons w i 0 h) (never (every is_digit (get_or w i 0 ∷ rest)) (value_from m rest) (omega (arith, value_grows m rest)))

pub digit_is : (b : ℕ) → 48 ≤ b → b ≤ 57 → is_digit b ≡ true
digit_is b l m = rw (le-leb 48 b l, le-leb b 57 m)

-- ---- a size, from the time that the same word is
module _ (w : List ℕ) where
  pub size_at : (n : ℕ) → time_of w ≡ Some n → size_of w ≡ Some (pick (ltb 1 n) Wide Bit)
  unfolding time_of size_of
  size_at n h =
      by_cases (is_number w)
      (λ e. by_cases (ltb (value_of w) limit)
      (λ f. let g : time_of w ≡ Some (value_of w) = rw (e, f) in
      let v : value_of w ≡ n = cc in
      rw (e, v))
      (λ f. let g : time_of w ≡ None = rw (e, f) in
      let z : ◌≡◌ {A = ℕ} 0 1 = cc in
      absurd (omega arith)))
      (λ e. let g : time_of w ≡ None = rw e in
      let z : ◌≡◌ {A = ℕ} 0 1 = cc in
      absurd (omega arith))

  pub size_over : time_of w ≡ None → is_number w ≡ true → size_of w ≡ Some Wide
  unfolding time_of size_of
  size_over h e =
      by_cases (ltb (value_of w) limit)
      (λ f. let g : time_of w ≡ Some (value_of w) = rw (e, f) in
      let z : ◌≡◌ {A = ℕ} 0 1 = cc in
      absurd (omega arith))
      (λ f. rw (e, lt-ltb 1 (value_of w) (omega (arith, ltb-false (value_of w) limit f))))

  pub size_none : is_number w ≡ false → size_of w ≡ None
  unfolding size_of
  size_none e = rw e
