-- Where two lists differ first, looked for one entry after the other; before that place they are the same, and there they are not.
use mathlib.Core.Path.{◌≡◌, refl, sym, ap}
use Rattle.std.proofs.Common.{Some, None}
use mathlib.Core.Bool.{Bool, true, false}
use mathlib.Core.List.{List, [], ◌∷◌}
use Prim.Native.Nat.{ℕ, suc, ◌+◌, ◌-◌, ◌≤◌, ◌<◌, min}
use native.Mathlib.Numerals.{add-one}
use native.Mathlib.Omega.{arith}
use lib.Dec.{eqb}
use lib.ListN.{length, get_or, take, drop, length-drop}
use lib.Seq.{drop-cons}
use borrow.Author.Tests.{eq-eqb, eqb-true, eqb-false}
use Rattle.base.proofs.Cases.{by_cases}
use Rattle.differences.specs.Places.{first_by, first_from, first_place}

-- ---- one entry after the other
module _ {A : Type 0} (eq : A → A → Bool) (a b : List A) (i : ℕ) where
  module _ (x y : A) (h : i < length a) (k : i < length b) (p : x ≡ get_or a i x) (q : y ≡ get_or b i y) where
    -- it is entry i
    pub place_here : eq x y ≡ false → Some i ≡ first_by eq i (drop i a) (drop i b)
    place_here n = rw (drop-cons a i x h, drop-cons b i y k, ← p, ← q, n)

    -- it is none before entry i + 1
    pub place_later : eq x y ≡ true → first_by eq i (drop i a) (drop i b) ≡ first_by eq (i + 1) (drop (i + 1) a) (drop (i + 1) b)
    place_later e = rw (drop-cons a i x h, drop-cons b i y k, ← p, ← q, e, add-one i)

  -- both have ended
  none_left : (xs ys : List A) → length xs ≡ 0 → length ys ≡ 0 → None ≡ first_by eq i xs ys
  none_left [] [] e f = refl
  none_left [] (y ∷ ys) e f = absurd (omega arith)
  none_left (x ∷ xs) ys e f = absurd (omega arith)

  -- one has ended
  one_left : (xs ys : List A) → min (length xs) (length ys) ≡ 0 → (length xs ≡ length ys → ⊥) → Some i ≡ first_by eq i xs ys
  one_left [] [] e f = absurd (f refl)
  one_left [] (y ∷ ys) e f = refl
  one_left (x ∷ xs) [] e f = refl
  one_left (x ∷ xs) (y ∷ ys) e f = absurd (omega arith)

  module _ (h : i ≡ min (length a) (length b)) where
    pub place_nowhere : length a ≡ length b → None ≡ first_by eq i (drop i a) (drop i b)
    place_nowhere e = none_left (drop i a) (drop i b) (omega (arith, length-drop i a)) (omega (arith, length-drop i b))

    pub place_end : (length a ≡ length b → ⊥) → Some i ≡ first_by eq i (drop i a) (drop i b)
    place_end n =
        one_left (drop i a) (drop i b) (omega (arith, length-drop i a, length-drop i b))
        (λ e. n (omega (arith, length-drop i a, length-drop i b)))

-- ---- what the place says: nowhere exactly if the lists are the same
at_nowhere : (i : ℕ) → Some i ≡ None → ⊥
at_nowhere i e =
    let z : ◌≡◌ {A = ℕ} 0 1 = cc in
    omega arith

same_from : (i : ℕ) (a b : List ℕ) → first_from i a b ≡ None → a ≡ b
same_from i [] [] e = refl
same_from i [] (y ∷ ys) e = absurd (at_nowhere i e)
same_from i (x ∷ xs) [] e = absurd (at_nowhere i e)
same_from i (x ∷ xs) (y ∷ ys) e =
    by_cases (eqb x y)
    (λ s. (λ j. eqb-true x y s j ∷ same_from (suc i) xs ys (rw s at e) j))
    (λ s. absurd (at_nowhere i (rw s at e)))

pub nowhere_same : (a b : List ℕ) → first_place a b ≡ None → a ≡ b
unfolding first_place
nowhere_same a b e = same_from 0 a b e

nowhere_from : (i : ℕ) (a : List ℕ) → first_from i a a ≡ None
nowhere_from i [] = refl
nowhere_from i (x ∷ xs) = rw (eq-eqb x x refl) (nowhere_from (suc i) xs)

pub same_nowhere : (a : List ℕ) → first_place a a ≡ None
unfolding first_place
same_nowhere a = nowhere_from 0 a

-- ---- as many entries as the place says are the same, and no more
record First (i : ℕ) (a b : List ℕ) (k : ℕ) : Type 0 where
  on : i ≤ k
  before : take (k - i) a ≡ take (k - i) b
  there : take (suc (k - i)) a ≡ take (suc (k - i)) b → ⊥

same_place : (i k : ℕ) → Some i ≡ Some k → i ≡ k
same_place i k e = cc

-- the first entries are not the same, or there is none on one side
here : (i k : ℕ) (a b : List ℕ) → i ≡ k → (take 1 a ≡ take 1 b → ⊥) → First i a b k
here i k a b e n =
    let z : k - i ≡ 0 = omega arith in
    record { on = omega arith; before = rw z; there = rw z n }

first_from_lem : (i : ℕ) (a b : List ℕ) (k : ℕ) → first_from i a b ≡ Some k → First i a b k
first_from_lem i [] [] k e = absurd (at_nowhere k (sym e))
first_from_lem i [] (y ∷ ys) k e = here i k [] (y ∷ ys) (same_place i k e) (λ s. omega (arith, ap length s))
first_from_lem i (x ∷ xs) [] k e = here i k (x ∷ xs) [] (same_place i k e) (λ s. omega (arith, ap length s))
first_from_lem i (x ∷ xs) (y ∷ ys) k e =
    by_cases (eqb x y)
    (λ t.
    let f = first_from_lem (suc i) xs ys k (rw t at e) in
    let m : k - i ≡ suc (k - suc i) = omega (arith, f.on) in
    let h : x ≡ y = eqb-true x y t in
    record {
      on = omega (arith, f.on);
      before = rw m (λ j. h j ∷ f.before j);
      there = rw m (λ s. f.there (ap (λ (l : List ℕ). drop 1 l) s));
    })
    (λ t.
    here i k (x ∷ xs) (y ∷ ys) (same_place i k (rw t at e))
    (λ s. eqb-false x y t (ap (λ (l : List ℕ). get_or l 0 0) s)))

module _ (a b : List ℕ) (k : ℕ) (e : first_place a b ≡ Some k) where
  first : First 0 a b k
  unfolding first_place
  first = first_from_lem 0 a b k e

  pub before_same : take k a ≡ take k b
  before_same =
      let z : k - 0 ≡ k = omega arith in
      rw z at first.before

  pub there_apart : take (suc k) a ≡ take (suc k) b → ⊥
  there_apart =
      let z : k - 0 ≡ k = omega arith in
      rw z at first.there
