-- What holds of lists one after the other: one more, and how long they are together.
use mathlib.Core.Path.{◌≡◌, refl, ap, ◌∙◌}
use mathlib.Core.List.{List, ◌++◌}
use Prim.Native.Nat.{ℕ, zero, suc, ◌+◌, ◌*◌}
use native.Mathlib.Nat.{zero-mul, suc-mul}
use native.Mathlib.Numerals.{add-one}
use native.Mathlib.Omega.{arith}
use lib.ListN.{length, length-append}
use Rattle.base.specs.InTurn.{in_turn}
use Rattle.base.specs.Listed.{sum_to}

pub in_turn_more : {A : Type 0} (n : ℕ) (f : ℕ → List A) → in_turn n f ++ f n ≡ in_turn (n + 1) f
in_turn_more n f = rw (add-one n)

pub length_in_turn : {A : Type 0} (n : ℕ) (f : ℕ → List A) → length (in_turn n f) ≡ sum_to n (λ k. length (f k))
length_in_turn zero f = refl
length_in_turn (suc n) f = length-append (in_turn n f) (f n) ∙ ap (λ (m : ℕ). m + length (f n)) (length_in_turn n f)

pub sum_first : (n : ℕ) (f : ℕ → ℕ) → sum_to (suc n) f ≡ f 0 + sum_to n (λ k. f (suc k))
sum_first zero f = omega arith
sum_first (suc n) f = omega (arith, sum_first n f)

pub sum_equal : (n m : ℕ) → sum_to n (λ k. m) ≡ n * m
sum_equal zero m = omega (arith, zero-mul m)
sum_equal (suc n) m = omega (arith, sum_equal n m, suc-mul n m)
