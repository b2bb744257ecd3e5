-- In how many places two lists of numbers differ, and by how much at most; what one has alone is left out.
use Rattle.std.specs.Prelude.{List, [], ◌∷◌, ℕ, ◌+◌, ◌-◌, max, eqb}
use Rattle.base.specs.Pick.{pick}
use Rattle.differences.specs.declared.distances.Spread.{Spread}

-- how far two numbers lie apart; one of the two parts is 0
abbrev pub distance : ℕ → ℕ → ℕ
distance x y = (x - y) + (y - x)

abbrev pub differing : List ℕ → List ℕ → ℕ
differing [] ys = 0
differing (x ∷ xs) [] = 0
differing (x ∷ xs) (y ∷ ys) = pick (eqb x y) 0 1 + differing xs ys

abbrev pub farthest : List ℕ → List ℕ → ℕ
farthest [] ys = 0
farthest (x ∷ xs) [] = 0
farthest (x ∷ xs) (y ∷ ys) = max (distance x y) (farthest xs ys)

unfoldable pub apart_of : List ℕ → List ℕ → Spread
apart_of a b = record { count = differing a b; most = farthest a b }
