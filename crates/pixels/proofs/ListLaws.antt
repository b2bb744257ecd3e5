-- What loops over buffers leave: changed by what stands beside, tested entry by entry.
use mathlib.Core.Path.{◌≡◌, refl, ap, ◌∙◌}
use mathlib.Core.Bool.{Bool, true, false}
use mathlib.Core.List.{List, [], ◌∷◌, ◌++◌}
use Prim.Native.Nat.{ℕ, zero, suc, ◌+◌, ◌≤◌, ◌<◌, min}
use native.Mathlib.Nat.{not-suc-le-zero, le_of_suc-le-suc}
use native.Mathlib.Numerals.{add-one}
use native.Mathlib.Omega.{arith}
use lib.ListN.{length, get_or, set, take, drop, replicate, length-set}
use Rattle.base.specs.Pick.{pick}
use Rattle.pixels.specs.Lists.{beside, every}

-- ---- changed by what stands beside: after i turns by the first i of the other list
pub record Changed {A B : Type 0} (f : B → A → A) (bs : List B) (l₀ l : List A) (i : ℕ) : Type 0 where
  pub is : l ≡ beside f (take i bs) l₀
  pub long : length l ≡ length l₀

module _ {A B : Type 0} (f : B → A → A) where
  pub beside_length : (bs : List B) (l : List A) → length (beside f bs l) ≡ length l
  beside_length [] l = refl
  beside_length (b ∷ bs) [] = refl
  beside_length (b ∷ bs) (x ∷ l) = ap suc (beside_length bs l)

  -- the entry that comes next is not yet changed
  beside_next : (i : ℕ) (bs : List B) (l : List A) (d : A) → get_or (beside f (take i bs) l) i d ≡ get_or l i d
  beside_next zero bs l d = refl
  beside_next (suc i) [] l d = refl
  beside_next (suc i) (b ∷ bs) [] d = refl
  beside_next (suc i) (b ∷ bs) (x ∷ l) d = beside_next i bs l d

  beside_suc : (i : ℕ) (bs : List B) (l : List A) (e : B) (d : A) → i < length bs → i < length l →
      set (beside f (take i bs) l) i (f (get_or bs i e) (get_or l i d)) ≡ beside f (take (suc i) bs) l
  beside_suc i [] l e d h k = absurd (not-suc-le-zero h)
  beside_suc i (b ∷ bs) [] e d h k = absurd (not-suc-le-zero k)
  beside_suc zero (b ∷ bs) (x ∷ l) e d h k = refl
  beside_suc (suc i) (b ∷ bs) (x ∷ l) e d h k =
      ap (λ (t : List A). f b x ∷ t) (beside_suc i bs l e d (le_of_suc-le-suc h) (le_of_suc-le-suc k))

  beside_done : (i : ℕ) (bs : List B) (l : List A) → min (length l) (length bs) ≤ i → beside f (take i bs) l ≡ beside f bs l
  beside_done zero [] l h = refl
  beside_done (suc i) [] l h = refl
  beside_done zero (b ∷ bs) [] h = refl
  beside_done (suc i) (b ∷ bs) [] h = refl
  beside_done zero (b ∷ bs) (x ∷ l) h = absurd (omega arith)
  beside_done (suc i) (b ∷ bs) (x ∷ l) h = ap (λ (t : List A). f b x ∷ t) (beside_done i bs l (omega arith))

  pub changed_more : (bs : List B) (l₀ l : List A) (i : ℕ) (e : B) (d v : A) → Changed f bs l₀ l i → i < length bs → i < length l₀ →
      v ≡ f (get_or bs i e) (get_or l i d) → Changed f bs l₀ (set l i v) (i + 1)
  changed_more bs l₀ l i e d v c h k q = record {
    is =
        (λ t. set (c.is t) i (q t))
        ∙ ap (λ (x : A). set (beside f (take i bs) l₀) i (f (get_or bs i e) x))
        (ap (λ (t : List A). get_or t i d) c.is ∙ beside_next i bs l₀ d)
        ∙ rw (add-one i) (beside_suc i bs l₀ e d h k);
    long = length-set l i v ∙ c.long;
  }

  pub changed_done : (bs : List B) (l₀ l : List A) (i : ℕ) → Changed f bs l₀ l i → min (length l₀) (length bs) ≤ i → l ≡ beside f bs l₀
  changed_done bs l₀ l i c h = c.is ∙ beside_done i bs l₀ h

  -- by one list, and by another from where that ends
  pub beside_on : (cs bs : List B) (l : List A) → take (length cs) (beside f cs l) ++ beside f bs (drop (length cs) (beside f cs l))
      ≡ beside f (cs ++ bs) l
  beside_on [] bs l = refl
  beside_on (a ∷ cs) [] [] = refl
  beside_on (a ∷ cs) (b ∷ bs) [] = refl
  beside_on (a ∷ cs) bs (x ∷ l) = ap (λ (t : List A). f a x ∷ t) (beside_on cs bs l)

  -- an entry afterwards: with something beside it, and without
  pub beside_at : (i : ℕ) (bs : List B) (l : List A) (e : B) (d : A) → i < length bs → i < length l
      → get_or (beside f bs l) i d ≡ f (get_or bs i e) (get_or l i d)
  beside_at i [] l e d h k = absurd (not-suc-le-zero h)
  beside_at i (b ∷ bs) [] e d h k = absurd (not-suc-le-zero k)
  beside_at zero (b ∷ bs) (x ∷ l) e d h k = refl
  beside_at (suc i) (b ∷ bs) (x ∷ l) e d h k = beside_at i bs l e d (le_of_suc-le-suc h) (le_of_suc-le-suc k)

  pub beside_past : (i : ℕ) (bs : List B) (l : List A) (d : A) → length bs ≤ i → get_or (beside f bs l) i d ≡ get_or l i d
  beside_past i [] l d h = refl
  beside_past i (b ∷ bs) [] d h = refl
  beside_past zero (b ∷ bs) (x ∷ l) d h = absurd (not-suc-le-zero h)
  beside_past (suc i) (b ∷ bs) (x ∷ l) d h = beside_past i bs l d (le_of_suc-le-suc h)

-- ---- tested entry by entry
-- a test that goes on only where the first passes
both : (a b : Bool) → pick a b false ≡ true → (a ≡ true) × (b ≡ true)
both true b e = (refl, e)
both false true e = (e, refl)
both false false e = (e, e)

module _ {A : Type 0} (p : A → Bool) where
  -- where all pass each does, and the other way round
  pub every_at : (l : List A) → every p l ≡ true → (i : ℕ) → i < length l → (d : A) → p (get_or l i d) ≡ true
  every_at [] e i h d = absurd (not-suc-le-zero h)
  every_at (x ∷ l) e zero h d = (both (p x) (every p l) e).0
  every_at (x ∷ l) e (suc i) h d = every_at l (both (p x) (every p l) e).1 i (le_of_suc-le-suc h) d

  pub every_from : (l : List A) (d : A) → ((i : ℕ) → i < length l → p (get_or l i d) ≡ true) → every p l ≡ true
  every_from [] d f = refl
  every_from (x ∷ l) d f = rw (f zero (omega arith)) (every_from l d (λ i h. f (suc i) (omega arith)))

  pub every_replicate : (n : ℕ) (a : A) → p a ≡ true → every p (replicate n a) ≡ true
  every_replicate zero a e = refl
  every_replicate (suc n) a e = rw e (every_replicate n a e)
