-- What a loop over a text learns from the byte at place i, and that steps held to 2^64 - 1 give the whole number held to it.
use mathlib.Core.Path.{◌≡◌, refl, ap, ◌∙◌}
use mathlib.Core.Bool.{Bool, true, false, cond}
use mathlib.Core.List.{List, [], ◌∷◌}
use Prim.Native.Nat.{ℕ, suc, ◌+◌, ◌-◌, ◌*◌, ◌≤◌, ◌<◌, min}
use native.Mathlib.Omega.{arith}
use native.Mathlib.Numerals.{add-one}
use lib.ListN.{length, get_or, drop, drop_of_length-le}
use lib.Seq.{drop-cons}
use Rattle.base.specs.Word.{top}
use Rattle.test_numerals.specs.declared.scan.Number.{Number}
use Rattle.test_numerals.specs.Rows.{is_digit, first_digit, skipped, taken, digits_at, number_at}

-- ---- on the way to a digit
module _ (s : List ℕ) (i : ℕ) where
  pub skipped_digit : i < length s → is_digit (get_or s i 0) ≡ true → skipped s i ≡ i
  unfolding skipped
  skipped_digit h e = rw (drop-cons s i 0 h, e) (omega arith)

  pub skipped_other : i < length s → is_digit (get_or s i 0) ≡ false → skipped s i ≡ skipped s (i + 1)
  unfolding skipped
  skipped_other h e = rw (drop-cons s i 0 h, e, add-one i) (ap (λ (n : ℕ). first_digit n (drop (suc i) s)) (omega arith))

  pub skipped_end : length s ≤ i → skipped s i ≡ length s
  unfolding skipped
  skipped_end h = rw (drop_of_length-le s h) (omega arith)

-- ---- over the digits
module _ (n : Number) (s : List ℕ) (i : ℕ) where
  pub taken_end : length s ≤ i → taken n (drop i s) ≡ n
  taken_end h = rw (drop_of_length-le s h)

-- no digit left
pub number_none : (s : List ℕ) (p : ℕ) → skipped s p ≡ length s → number_at s p ≡ record { value = 0; next = length s }
number_none s p e = ap (digits_at s) e ∙ taken_end (record { value = 0; next = length s }) s (length s) (omega arith)

-- ---- the number that the digits in front of s make after v, however large
abbrev pub decimal : ℕ → List ℕ → ℕ
decimal v [] = v
decimal v (b ∷ s) = cond (is_digit b) (decimal (v * 10 + (b - 48)) s) v

one_more : (v d : ℕ) → min (min (min v top * 10) top + d) top ≡ min (v * 10 + d) top
one_more v d = omega arith

either : (t : Bool) (m n : Number) (x y : ℕ) → m.value ≡ min x top → n.value ≡ min y top → (cond t m n).value ≡ min (cond t x y) top
either true m n x y e f = e
either false m n x y e f = f

held : (v p : ℕ) (s : List ℕ) → (taken (record { value = min v top; next = p }) s).value ≡ min (decimal v s) top
held v p [] = refl
held v p (b ∷ s) =
    either (is_digit b) _ _ _ _
    (ap (λ (n : ℕ). (taken (record { value = n; next = p + 1 }) s).value) (one_more v (b - 48)) ∙ held (v * 10 + (b - 48)) (p + 1) s)
    refl

pub number_held : (s : List ℕ) (p : ℕ) → (number_at s p).value ≡ min (decimal 0 (drop (skipped s p) s)) top
number_held s p = held 0 (skipped s p) (drop (skipped s p) s)

-- ---- "a 12 7" at its start, after the 12, and at its end
text : List ℕ
text = 97 ∷ 32 ∷ 49 ∷ 50 ∷ 32 ∷ 55 ∷ []

first : number_at text 0 ≡ record { value = 12; next = 4 }
unfolding text skipped
first = refl

second : number_at text 4 ≡ record { value = 7; next = 6 }
unfolding text skipped
second = refl

none : number_at text 9 ≡ record { value = 0; next = 6 }
unfolding text skipped
none = refl
