-- A number written in decimal is read back, and what is read has its bounds: a time 64 bits, a level at most 3, a signal at most 6.
use mathlib.Core.Path.{◌≡◌, refl, ap, ◌∙◌}
use mathlib.Core.Bool.{Bool, true, false}
use mathlib.Core.List.{List, [], ◌∷◌, ◌++◌}
use Prim.Native.Nat.{ℕ, zero, suc, ◌+◌, ◌-◌, ◌*◌, ◌/◌, ◌%◌, ◌≤◌, ◌<◌}
use native.Mathlib.Nat.{not-suc-le-zero}
use native.Mathlib.Decide.{dec_le}
use native.Mathlib.Omega.{arith}
use lib.Dec.{ltb}
use lib.ListN.{length, length-append}
use borrow.Author.Tests.{lt-ltb, ltb-true}
use Rattle.base.specs.Pick.{pick}
use Rattle.base.proofs.Cases.{by_cases}
use Rattle.text.specs.Text.{ascii, digits}
use Rattle.text.proofs.Digits.{value, digits_one, digits_more, digits_value}
use Rattle.vcd_words.specs.Words.{alike, every}
use Rattle.std.specs.Prelude.{Some, None}
use Rattle.vcd_values.specs.Numbers.{is_digit, is_number, value_from, value_of, time_of}
use Rattle.vcd_values.specs.Names.{signal_of}
use Rattle.vcd_values.proofs.NumberLaws.{limit, digit_is, number_every}

-- ---- the digits of a number are a number
every_last : (w : List ℕ) (d : ℕ) → every is_digit w ≡ true → is_digit d ≡ true → every is_digit (w ++ d ∷ []) ≡ true
every_last [] d h e = rw e
every_last (b ∷ w) d h e =
    by_cases (is_digit b)
    (λ f. rw f (every_last w d (rw f at h) e))
    (λ f. rw f (rw f at h))

all_digits : (k x : ℕ) → x < k → every is_digit (digits x) ≡ true
all_digits zero x h = absurd (not-suc-le-zero h)
all_digits (suc k) x h = elim (dec_le 10 x) [
  | yes l ↦
      let last = digit_is (48 + x % 10) (omega arith) (omega arith) in
      rw (digits_more x l) (every_last (digits (x / 10)) (48 + x % 10) (all_digits k (x / 10) (omega arith)) last)
  | no l ↦ rw (digits_one x (omega arith)) (every_last [] (48 + x) refl (digit_is (48 + x) (omega arith) (omega arith)))
]

some_digits : (x : ℕ) → 0 < length (digits x)
some_digits x = elim (dec_le 10 x) [
  | yes l ↦ rw (digits_more x l, length-append (digits (x / 10)) ((48 + x % 10) ∷ [])) (omega arith)
  | no l ↦ rw (digits_one x (omega arith)) (omega arith)
]

pub number_digits : (x : ℕ) → is_number (digits x) ≡ true
number_digits x = number_every (digits x) (some_digits x) ∙ all_digits (suc x) x (omega arith)

-- ---- and it has the number's value
value_same : (v : ℕ) (w : List ℕ) → value_from v w ≡ value v w
value_same v [] = refl
value_same v (d ∷ w) = ap (λ (n : ℕ). value_from n w) (omega arith) ∙ value_same (v * 10 + (d - 48)) w

pub value_digits : (x : ℕ) → value_of (digits x) ≡ x
unfolding value_of
value_digits x = value_same 0 (digits x) ∙ digits_value x

pub time_digits : (x : ℕ) → x < limit → time_of (digits x) ≡ Some x
unfolding time_of
time_digits x h = rw (number_digits x, value_digits x, lt-ltb x limit h)

-- ---- bounds
pub time_fits : (w : List ℕ) (n : ℕ) → time_of w ≡ Some n → n < limit
unfolding time_of
time_fits w n h =
    by_cases (is_number w)
    (λ e. by_cases (ltb (value_of w) limit)
    (λ f. let g : time_of w ≡ Some (value_of w) = rw (e, f) in
    let v : value_of w ≡ n = cc in
    omega (arith, ltb-true (value_of w) limit f))
    (λ f. let g : time_of w ≡ None = rw (e, f) in
    let z : ◌≡◌ {A = ℕ} 0 1 = cc in
    absurd (omega arith)))
    (λ e. let g : time_of w ≡ None = rw e in
    let z : ◌≡◌ {A = ℕ} 0 1 = cc in
    absurd (omega arith))

either : (m : ℕ) (t : Bool) (a b : ℕ) → a ≤ m → b ≤ m → pick t a b ≤ m
either m true a b h k = h
either m false a b h k = k

pub signal_most : (name : List ℕ) → signal_of name ≤ 6
unfolding signal_of
signal_most name =
    either 6 (alike name (ascii "cs")) 0 _ (omega arith)
    (either 6 (alike name (ascii "dc")) 1 _ (omega arith)
    (either 6 (alike name (ascii "clk")) 2 _ (omega arith)
    (either 6 (alike name (ascii "mosi")) 3 _ (omega arith)
    (either 6 (alike name (ascii "rst")) 4 _ (omega arith) (either 6 (alike name []) 6 5 (omega arith) (omega arith))))))
