-- A list by number: its length, its entries, a list that is mapped, and an array that a counted loop fills.
use mathlib.Core.Path.{◌≡◌, refl, sym, ap, ◌∙◌}
use mathlib.Core.List.{List, [], ◌∷◌, ◌++◌, map}
use Prim.Native.Nat.{ℕ, zero, suc, ◌+◌, ◌<◌}
use native.Mathlib.Decide.{dec_le}
use native.Mathlib.Numerals.{add-one}
use native.Mathlib.Omega.{arith}
use lib.ListN.{length, get_or, take, set, length-append, get_or-append}
use lib.Seq.{get_or_at, take_all, take-suc-set}
use Rattle.base.specs.Listed.{listed}

pub length_listed : {A : Type 0} (n : ℕ) (f : ℕ → A) → length (listed n f) ≡ n
length_listed zero f = refl
length_listed (suc n) f = omega (arith, length-append (listed n f) (f n ∷ []), length_listed n f)

pub get_d_listed : {A : Type 0} (n : ℕ) (f : ℕ → A) (d : A) (k : ℕ) → k < n → get_or (listed n f) k d ≡ f k
get_d_listed zero f d k h = absurd (omega arith)
get_d_listed (suc n) f d k h = elim (dec_le n k) [
  | yes m ↦
      let e : n ≡ k = omega arith in
      get_or_at (listed n f) (f n) [] d k (length_listed n f ∙ e) ∙ ap f e
  | no m ↦
      get_or-append (listed n f) (f n ∷ []) d k (omega (arith, length_listed n f)) ∙ get_d_listed n f d k (omega arith)
]

listed_first : {A : Type 0} (n : ℕ) (f : ℕ → A) → listed (suc n) f ≡ f 0 ∷ listed n (λ k. f (suc k))
listed_first zero f = refl
listed_first (suc n) f = ap (λ (l : List _). l ++ f (suc n) ∷ []) (listed_first n f)

pub map_listed : {A B : Type 0} (f : A → B) (l : List A) (d : A) → map f l ≡ listed (length l) (λ k. f (get_or l k d))
map_listed f [] d = refl
map_listed f (x ∷ l) d = ap (λ (m : List _). f x ∷ m) (map_listed f l d) ∙ sym (listed_first (length l) (λ k. f (get_or (x ∷ l) k d)))

-- a loop that stores entry after entry: one more, and when all are stored
module _ {A : Type 0} (l : List A) (k : ℕ) (f : ℕ → A) (so_far : take k l ≡ listed k f) where
  pub filled_more : (x : A) → x ≡ f k → k < length l → take (k + 1) (set l k x) ≡ listed (k + 1) f
  filled_more x e h = rw (add-one k) (take-suc-set l k x h ∙ rw (so_far, e))

  pub filled : (n : ℕ) → length l ≡ n → k ≡ n → l ≡ listed n f
  filled n e h = sym (take_all k l (omega arith)) ∙ so_far ∙ ap (λ (m : ℕ). listed m f) h
