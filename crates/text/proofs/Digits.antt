-- The digits of a number: one below 10 is its digit, any other has the digits of a tenth of it and then its last one; and read as a
-- decimal number they are the number again.
use mathlib.Core.Path.{◌≡◌, refl, ap}
use mathlib.Core.List.{List, [], ◌∷◌, ◌++◌}
use Prim.Native.Nat.{ℕ, zero, suc, ◌+◌, ◌-◌, ◌*◌, ◌/◌, ◌%◌, ◌^◌, ◌≤◌, ◌<◌}
use native.Mathlib.Nat.{not-suc-le-zero, div-lt_iff_lt-mul, pow-suc}
use native.Mathlib.Decide.{dec_le}
use native.Mathlib.Omega.{arith}
use lib.Dec.{ltb}
use lib.ListN.{length, length-append}
use borrow.Author.Tests.{lt-ltb, le-ltb, ltb-false}
use Rattle.base.proofs.Cases.{by_cases}
use Rattle.text.specs.Text.{ascii, digits_in, digits}

-- any count of digits that is above the number is enough
enough : (k l x : ℕ) → x < k → x < l → digits_in k x ≡ digits_in l x
enough zero l x h j = absurd (not-suc-le-zero h)
enough (suc k) zero x h j = absurd (not-suc-le-zero j)
enough (suc k) (suc l) x h j =
    by_cases (ltb x 10)
    (λ t. rw (t))
    (λ f. let m : 10 ≤ x = ltb-false x 10 f in
    rw (f, enough k l (x / 10) (omega arith) (omega arith)))

pub digits_one : (x : ℕ) → x < 10 → digits x ≡ (48 + x) ∷ []
unfolding digits
digits_one x h = rw (lt-ltb x 10 h)

pub digits_more : (x : ℕ) → 10 ≤ x → digits x ≡ digits (x / 10) ++ ((48 + x % 10) ∷ [])
unfolding digits
digits_more x h =
    rw (le-ltb x 10 h) (ap (λ (d : List ℕ). d ++ ((48 + x % 10) ∷ [])) (enough x (suc (x / 10)) (x / 10) (omega arith) (omega arith)))

-- ---- the number that digits stand for, after v in front of them
abbrev pub value : ℕ → List ℕ → ℕ
value v [] = v
value v (d ∷ l) = value (v * 10 + (d - 48)) l

value_last : (v : ℕ) (l : List ℕ) (d : ℕ) → value v (l ++ (d ∷ [])) ≡ value v l * 10 + (d - 48)
value_last v [] d = refl
value_last v (e ∷ l) d = value_last (v * 10 + (e - 48)) l d

value_in : (k x : ℕ) → x < k → value 0 (digits_in k x) ≡ x
value_in zero x h = absurd (not-suc-le-zero h)
value_in (suc k) x h =
    by_cases (ltb x 10)
    (λ t. rw t (omega arith))
    (λ f. let m : 10 ≤ x = ltb-false x 10 f in
    rw (f, value_last 0 (digits_in k (x / 10)) (48 + x % 10), value_in k (x / 10) (omega arith)) (omega arith))

pub digits_value : (x : ℕ) → value 0 (digits x) ≡ x
unfolding digits
digits_value x = value_in (suc x) x (omega arith)

-- ---- how many digits there are
pub length_digits : (k x : ℕ) → x < 10 ^ suc k → length (digits x) ≤ suc k
length_digits zero x h = rw (digits_one x h) (omega arith)
length_digits (suc k) x h = elim (dec_le 10 x) [
  | yes l ↦
      let t : x / 10 < 10 ^ suc k = (div-lt_iff_lt-mul {k = 10} {x = x} {y = 10 ^ suc k} (omega arith)).1 (rw (pow-suc 10 (suc k)) at h) in
      rw (digits_more x l, length-append (digits (x / 10)) ((48 + x % 10) ∷ [])) (omega (arith, length_digits k (x / 10) t))
  | no l ↦ rw (digits_one x (omega arith)) (omega arith)
]

-- in the words of the text
example : (digits 0 ≡ ascii "0") × (digits 3100 ≡ ascii "3100") × (digits 18446744073709551615 ≡ ascii "18446744073709551615")
unfolding digits
example = (refl, refl, refl)
