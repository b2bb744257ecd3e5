-- A choice by a test, and the tests that sort a number.
use Rattle.std.specs.Prelude.{Bool, true, false, List, [], ◌∷◌, ℕ, eqb, leb}

abbrev pub pick : {A : Type 0} → Bool → A → A → A
pick true a b = a
pick false a b = b

-- x is one of the numbers of the list
abbrev pub one_of : List ℕ → ℕ → Bool
one_of [] x = false
one_of (k ∷ ks) x = pick (eqb x k) true (one_of ks x)

-- x is at least lo and at most hi
abbrev pub between : ℕ → ℕ → ℕ → Bool
between lo hi x = pick (leb lo x) (leb x hi) false
