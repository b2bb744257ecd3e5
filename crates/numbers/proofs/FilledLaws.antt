-- Entries written in turn: one more, the same by another rule that agrees, and what stands where afterwards.
use mathlib.Core.Path.{◌≡◌, refl, sym, ap, ◌∙◌, subst}
use mathlib.Core.List.{List, [], ◌∷◌, ◌++◌, append-nil, append_assoc}
use Prim.Native.Nat.{ℕ, zero, suc, ◌+◌, ◌*◌, ◌≤◌, ◌<◌}
use native.Mathlib.Nat.{mul-le-mul_right, zero-mul, suc-mul}
use native.Mathlib.Decide.{dec_le}
use native.Mathlib.Omega.{arith}
use lib.ListN.{length, get_or, set, take, drop, replicate, length-set, length-append}
use lib.Seq.{get_or-set_same, get_or-set_other, take_all, take-suc-set}
use Rattle.std.proofs.lemmas.List.{drop-set-lt, take-append-drop}
use Rattle.std.proofs.lemmas.Slice.{take-put_mid, drop-put_mid}
use borrow.Rule.Slice.PartMut.{put_mid}
use Rattle.base.specs.InTurn.{in_turn}
use Rattle.base.specs.Listed.{listed}
use Rattle.base.proofs.Listed.{length_listed}
use Rattle.numbers.specs.Filled.{filled, rows_filled}

pub filled_same : (f g : ℕ → ℕ) (p n : ℕ) (l : List ℕ) → ((x : ℕ) → f x ≡ g x) → filled f p n l ≡ filled g p n l
filled_same f g p zero l e = refl
filled_same f g p (suc n) l e = λ i. set (filled_same f g p n l e i) (p + n) (e n i)

-- the same, of as many entries as are written
pub filled_below : (f g : ℕ → ℕ) (p n : ℕ) (l : List ℕ) → ((x : ℕ) → x < n → f x ≡ g x) → filled f p n l ≡ filled g p n l
filled_below f g p zero l e = refl
filled_below f g p (suc n) l e = λ i. set (filled_below f g p n l (λ x h. e x (omega arith)) i) (p + n) (e n (omega arith) i)

-- n entries, and then m more
pub filled_on : (f : ℕ → ℕ) (p n m : ℕ) (l : List ℕ) → filled (λ k. f (n + k)) (p + n) m (filled f p n l) ≡ filled f p (n + m) l
filled_on f p n zero l = ap (λ (k : ℕ). filled f p k l) {x = n} {y = n + 0} (omega arith)
filled_on f p n (suc m) l =
    (λ i. set (filled_on f p n m l i) (at i) (f (n + m)))
    ∙ ap (λ (k : ℕ). filled f p k l) {x = suc (n + m)} {y = n + suc m} (omega arith)
  where
    at : p + n + m ≡ p + (n + m)
    at = omega arith

pub length_filled : (f : ℕ → ℕ) (p n : ℕ) (l : List ℕ) → length (filled f p n l) ≡ length l
length_filled f p zero l = refl
length_filled f p (suc n) l = length-set (filled f p n l) (p + n) (f n) ∙ length_filled f p n l

pub length_rows : (f : ℕ → ℕ → ℕ) (n y : ℕ) (l : List ℕ) → length (rows_filled f n y l) ≡ length l
length_rows f n zero l = refl
length_rows f n (suc y) l = length_filled (λ x. f x y) (y * n) n (rows_filled f n y l) ∙ length_rows f n y l

-- ---- what stands where afterwards
filled_at : (f : ℕ → ℕ) (p n : ℕ) (l : List ℕ) (x d : ℕ) → x < n → p + x < length l → get_or (filled f p n l) (p + x) d ≡ f x
filled_at f p zero l x d h k = absurd (omega arith)
filled_at f p (suc n) l x d h k = elim (dec_le n x) [
  | yes q ↦
      let e : x ≡ n = omega arith in
      subst (λ (m : ℕ). get_or (filled f p (suc n) l) (p + m) d ≡ f m) (sym e)
      (get_or-set_same (filled f p n l) (p + n) (f n) d (omega (arith, length_filled f p n l)))
  | no q ↦ get_or-set_other (filled f p n l) (p + n) (p + x) (f n) d (λ e. absurd (omega arith)) ∙ filled_at f p n l x d (omega arith) k
]

filled_before : (f : ℕ → ℕ) (p n : ℕ) (l : List ℕ) (i d : ℕ) → i < p → get_or (filled f p n l) i d ≡ get_or l i d
filled_before f p zero l i d h = refl
filled_before f p (suc n) l i d h =
    get_or-set_other (filled f p n l) (p + n) i (f n) d (λ e. absurd (omega arith)) ∙ filled_before f p n l i d h

-- entry x of row y is f x y
pub rows_at : (f : ℕ → ℕ → ℕ) (n m : ℕ) (l : List ℕ) (x y d : ℕ) → x < n → y < m → m * n ≤ length l
    → get_or (rows_filled f n m l) (y * n + x) d ≡ f x y
rows_at f n zero l x y d h k b = absurd (omega arith)
rows_at f n (suc m) l x y d h k b = elim (dec_le m y) [
  | yes q ↦
      let e : y ≡ m = omega arith in
      subst (λ (r : ℕ). get_or (rows_filled f n (suc m) l) (r * n + x) d ≡ f x r) (sym e)
      (filled_at (λ v. f v m) (m * n) n (rows_filled f n m l) x d h (omega (arith, length_rows f n m l, suc-mul m n)))
  | no q ↦
      filled_before (λ v. f v m) (m * n) n (rows_filled f n m l) (y * n + x) d
      (omega (arith, suc-mul y n, mul-le-mul_right {m = suc y} {n = m} n (omega arith)))
      ∙ rows_at f n m l x y d h (omega arith) (omega (arith, suc-mul m n))
]

-- ---- as a list
-- what stands up to the last entry written
pub filled_taken : (f : ℕ → ℕ) (p n : ℕ) (l : List ℕ) → p + n ≤ length l → take (p + n) (filled f p n l) ≡ take p l ++ listed n f
filled_taken f p zero l h = ap (λ (k : ℕ). take k l) {x = p + 0} {y = p} (omega arith) ∙ sym (append-nil (take p l))
filled_taken f p (suc n) l h =
    ap (λ (k : ℕ). take k (filled f p (suc n) l)) {x = p + suc n} {y = suc (p + n)} (omega arith)
    ∙ take-suc-set (filled f p n l) (p + n) (f n) (omega (arith, length_filled f p n l))
    ∙ ap (λ (t : List ℕ). t ++ f n ∷ []) (filled_taken f p n l (omega arith))
    ∙ append_assoc (take p l) (listed n f) (f n ∷ [])

-- and what stands behind it
filled_dropped : (f : ℕ → ℕ) (p n m : ℕ) (l : List ℕ) → p + n ≤ m → drop m (filled f p n l) ≡ drop m l
filled_dropped f p zero m l h = refl
filled_dropped f p (suc n) m l h = drop-set-lt m (filled f p n l) (p + n) (f n) (omega arith) ∙ filled_dropped f p n m l (omega arith)

-- a part of the list written at once
pub filled_part : (f : ℕ → ℕ) (p n k : ℕ) (l part : List ℕ) → p + n ≤ length l → k ≡ n → part ≡ listed n f → put_mid p k l part ≡ filled f p n l
filled_part f p n k l part h e q =
    let long : length part ≡ n = ap length q ∙ length_listed n f in
    sym (take-append-drop (p + n) (put_mid p k l part))
    ∙ (λ i. front long i ++ back long i)
    ∙ take-append-drop (p + n) (filled f p n l)
  where
    front : length part ≡ n → take (p + n) (put_mid p k l part) ≡ take (p + n) (filled f p n l)
    front g =
        take-put_mid p k l part (p + n) (omega arith) (omega arith) ∙ ap (λ (t : List ℕ). take p l ++ t) q ∙ sym (filled_taken f p n l h)

    back : length part ≡ n → drop (p + n) (put_mid p k l part) ≡ drop (p + n) (filled f p n l)
    back g = drop-put_mid p k l part (p + n) (omega arith) (omega arith) (omega arith) ∙ sym (filled_dropped f p n (p + n) l (omega arith))

-- one entry over and over
pub listed_once : (n a : ℕ) → replicate n a ≡ listed n (λ k. a)
listed_once zero a = refl
listed_once (suc n) a = again n ∙ ap (λ (t : List ℕ). t ++ a ∷ []) (listed_once n a)
  where
    again : (m : ℕ) → replicate (suc m) a ≡ replicate m a ++ a ∷ []
    again zero = refl
    again (suc m) = ap (λ (t : List ℕ). a ∷ t) (again m)

rows_taken : (f : ℕ → ℕ → ℕ) (n m : ℕ) (l : List ℕ) → m * n ≤ length l → take (m * n) (rows_filled f n m l) ≡ in_turn m (λ y. listed n (λ x. f x y))
rows_taken f n zero l h = ap (λ (k : ℕ). take k l) {x = 0 * n} {y = 0} (zero-mul n)
rows_taken f n (suc m) l h =
    ap (λ (k : ℕ). take k (rows_filled f n (suc m) l)) {x = suc m * n} {y = m * n + n} (suc-mul m n)
    ∙ filled_taken (λ x. f x m) (m * n) n (rows_filled f n m l) (omega (arith, length_rows f n m l, suc-mul m n))
    ∙ ap (λ (t : List ℕ). t ++ listed n (λ x. f x m)) (rows_taken f n m l (omega (arith, suc-mul m n)))

-- rows written over a list with no more entries are the rows one after the other
pub rows_in_turn : (f : ℕ → ℕ → ℕ) (n m : ℕ) (l : List ℕ) → length l ≡ m * n → rows_filled f n m l ≡ in_turn m (λ y. listed n (λ x. f x y))
rows_in_turn f n m l e =
    sym (take_all (m * n) (rows_filled f n m l) (omega (arith, length_rows f n m l, e)))
    ∙ rows_taken f n m l (omega (arith, e))

pub length_in_rows : (f : ℕ → ℕ → ℕ) (n m : ℕ) → length (in_turn m (λ y. listed n (λ x. f x y))) ≡ m * n
length_in_rows f n zero = sym (zero-mul n)
length_in_rows f n (suc m) =
    omega (arith, length-append (in_turn m (λ y. listed n (λ x. f x y))) (listed n (λ x. f x m)), length_in_rows f n m, length_listed n (λ x. f x m), suc-mul m n)
