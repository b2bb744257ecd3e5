-- Reading past a list's end; the length of a list that is mapped.
use mathlib.Core.Path.{◌≡◌, refl, ap}
use mathlib.Core.List.{List, [], ◌∷◌, map}
use Prim.Native.Nat.{ℕ, zero, suc, ◌≤◌}
use native.Mathlib.Nat.{not-suc-le-zero, le_of_suc-le-suc}
use native.Mathlib.Omega.{arith}
use lib.ListN.{length, get_or}

pub get_d_past : {A : Type 0} (l : List A) (k : ℕ) (d : A) → length l ≤ k → get_or l k d ≡ d
get_d_past [] k d h = refl
get_d_past (x ∷ l) zero d h = absurd (not-suc-le-zero h)
get_d_past (x ∷ l) (suc k) d h = get_d_past l k d (le_of_suc-le-suc h)

-- a list is as long as what is made of it element by element
pub length_mapped : {A B : Type 0} (f : A → B) (l : List A) (n : ℕ) → length (map f l) ≡ n → length l ≡ n
length_mapped f [] n e = e
length_mapped f (x ∷ l) zero e = absurd (omega arith)
length_mapped f (x ∷ l) (suc n) e = ap suc (length_mapped f l n (omega arith))
