-- What the library's methods say of the bytes of a word, in the words of specs/.
use mathlib.Core.Path.{◌≡◌, refl, ap, ◌∙◌}
use mathlib.Core.Bool.{Bool}
use mathlib.Core.List.{List, [], ◌∷◌}
use Prim.Native.Nat.{ℕ, ◌+◌, ◌-◌, ◌≤◌}
use native.Mathlib.Nat.{add-zero}
use native.Mathlib.Omega.{arith}
use Rattle.std.specs.List.{take_while}
use Rattle.std.proofs.lemmas.List.Sums.{take_while-cons}
use lib.ListN.{length, drop, length-drop, take, drop_of_length-le}
use lib.Seq.{take_all}
use Rattle.base.proofs.Cases.{by_cases}
use Rattle.vcd_words.specs.Places.{front}

front_is : (t : ℕ → Bool) (l : List ℕ) → length (take_while t l) ≡ front t l
front_is t [] = refl
front_is t (b ∷ l) = by_cases (t b) (λ e. rw (take_while-cons, e, front_is t l)) (λ e. rw (take_while-cons, e))

-- from a place on
pub front_rest : (t : ℕ → Bool) (l : List ℕ) (i : ℕ) → length (take_while t (take (length l - i) (drop i l))) ≡ front t (drop i l)
front_rest t l i =
    ap (λ (w : List ℕ). length (take_while t w)) (take_all (length l - i) (drop i l) (omega (arith, length-drop i l))) ∙ front_is t (drop i l)

pub scan_ends : (t : ℕ → Bool) (l : List ℕ) (i : ℕ) → length l ≤ i → i + front t (drop i l) ≡ i
scan_ends t l i h = ap (λ (k : ℕ). i + k) (ap (front t) (drop_of_length-le l h)) ∙ add-zero i
