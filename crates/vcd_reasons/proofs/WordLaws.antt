-- Bytes that are shown, one more.
use mathlib.Core.Path.{◌≡◌, refl, ap}
use mathlib.Core.List.{List, [], ◌∷◌, ◌++◌, map}
use Prim.Native.Nat.{ℕ, ◌+◌, ◌≤◌, ◌<◌}
use native.Mathlib.Numerals.{add-one}
use lib.ListN.{length, take, get_or}
use lib.Seq.{take-suc, take_all}

map_last : (f : ℕ → ℕ) (l : List ℕ) (x : ℕ) → map f (l ++ (x ∷ [])) ≡ map f l ++ (f x ∷ [])
map_last f [] x = refl
map_last f (y ∷ l) x = ap (λ (m : List ℕ). f y ∷ m) (map_last f l x)

module _ (f : ℕ → ℕ) (l : List ℕ) (i : ℕ) where
  pub shown_more : i < length l → (x : ℕ) → x ≡ f (get_or l i 0) → map f (take i l) ++ (x ∷ []) ≡ map f (take (i + 1) l)
  shown_more h x e = rw (add-one i, take-suc l i 0 h, map_last f (take i l) (get_or l i 0), e)

  pub shown_all : length l ≤ i → map f (take i l) ≡ map f l
  shown_all h = ap (map f) (take_all i l h)
