-- How many entries differ and by how much at most: what is passed and what is to come give the whole.
use mathlib.Core.Path.{◌≡◌, refl}
use mathlib.Core.List.{List, [], ◌∷◌}
use Prim.Native.Nat.{ℕ, ◌+◌, ◌≤◌, ◌<◌, min, max}
use native.Mathlib.Numerals.{add-one}
use native.Mathlib.Omega.{arith}
use lib.Dec.{eqb}
use lib.ListN.{length, get_or, drop, length-drop}
use lib.Seq.{drop-cons}
use Rattle.base.specs.Pick.{pick}
use Rattle.differences.specs.Apart.{distance, differing, farthest}

module _ (a b : List ℕ) (i : ℕ) (h : i < length a) (k : i < length b) where
  pub differing_more : differing (drop i a) (drop i b) ≡ pick (eqb (get_or a i 0) (get_or b i 0)) 0 1 + differing (drop (i + 1) a) (drop (i + 1) b)
  differing_more = rw (drop-cons a i 0 h, drop-cons b i 0 k, add-one i)

  pub farthest_more : farthest (drop i a) (drop i b) ≡ max (distance (get_or a i 0) (get_or b i 0)) (farthest (drop (i + 1) a) (drop (i + 1) b))
  farthest_more = rw (drop-cons a i 0 h, drop-cons b i 0 k, add-one i)

-- one has ended
differing_none : (xs ys : List ℕ) → min (length xs) (length ys) ≡ 0 → differing xs ys ≡ 0
differing_none [] ys e = refl
differing_none (x ∷ xs) [] e = refl
differing_none (x ∷ xs) (y ∷ ys) e = absurd (omega arith)

farthest_none : (xs ys : List ℕ) → min (length xs) (length ys) ≡ 0 → farthest xs ys ≡ 0
farthest_none [] ys e = refl
farthest_none (x ∷ xs) [] e = refl
farthest_none (x ∷ xs) (y ∷ ys) e = absurd (omega arith)

module _ (a b : List ℕ) (i : ℕ) (h : min (length a) (length b) ≤ i) where
  pub differing_done : differing (drop i a) (drop i b) ≡ 0
  differing_done = differing_none (drop i a) (drop i b) (omega (arith, length-drop i a, length-drop i b))

  pub farthest_done : farthest (drop i a) (drop i b) ≡ 0
  farthest_done = farthest_none (drop i a) (drop i b) (omega (arith, length-drop i a, length-drop i b))
