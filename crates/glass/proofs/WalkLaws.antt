-- What holds of a walk: it stays in 0 .. full swing, joins over lists in a row, takes n equal frames as one,
-- and is one translation that is held.
use mathlib.Core.Path.{◌≡◌, refl, sym, ap, subst, ◌∙◌}
use mathlib.Core.List.{List, [], ◌∷◌, ◌++◌}
use Prim.Native.Nat.{ℕ, zero, suc, ◌+◌, ◌-◌, ◌*◌, ◌≤◌, min, max}
use native.Mathlib.Nat.{suc-mul, zero-mul, mul-zero, le_refl}
use native.Mathlib.Omega.{arith}
use native.Mathlib.Decide.{dec_le}
use lib.ListN.{replicate}
use lib.IntN.{ℤ, pos, negsuc, ◌+ℤ◌, ◌*ℤ◌, +ℤ_assoc}
use Rattle.base.specs.Integer.{up, dn}
use Rattle.base.proofs.Integer.{up_add, up_times, dn_times, same}
use Rattle.glass.specs.Walk.{hold, step, walk}

-- ---- a frame by its drive's sign
pub step_up : (s x n : ℕ) → step s x (pos n) ≡ min (x + n) s
unfolding step hold
step_up s x n = omega arith

pub step_down : (s x n : ℕ) → x ≤ s → step s x (negsuc n) ≡ x - suc n
unfolding step hold
step_down s x n h = omega (arith, up_add (pos x) (negsuc n))

pub step_within : (s x : ℕ) (d : ℤ) → step s x d ≤ s
unfolding step hold
step_within s x d = omega arith

-- ---- walks stay within, and join
pub walk_within : (s x : ℕ) (ds : List ℤ) → x ≤ s → walk s x ds ≤ s
walk_within s x [] h = h
walk_within s x (d ∷ ds) h = walk_within s (step s x d) ds (step_within s x d)

pub walk_append : (s x : ℕ) (xs ys : List ℤ) → walk s x (xs ++ ys) ≡ walk s (walk s x xs) ys
walk_append s x [] ys = refl
walk_append s x (d ∷ xs) ys = walk_append s (step s x d) xs ys

-- ---- n equal drives are one, n times as large
pub step_zero : (s x : ℕ) → x ≤ s → step s x (pos 0) ≡ x
step_zero s x h = omega (arith, step_up s x 0)

module _ (s x n : ℕ) (h : x ≤ s) where
  times_down : (k : ℕ) → step s x (pos n *ℤ negsuc k) ≡ x - n * suc k
  unfolding step hold
  times_down k = omega (arith, up_add (pos x) (pos n *ℤ negsuc k), up_times n (negsuc k), dn_times n (negsuc k), mul-zero n)

once_more : (s x n : ℕ) (d : ℤ) → x ≤ s → step s (step s x d) (pos n *ℤ d) ≡ step s x (pos (suc n) *ℤ d)
once_more s x n (pos k) h =
    omega (arith, step_up s x k, step_up s (step s x (pos k)) (n * k), step_up s x (suc n * k), suc-mul n k)
once_more s x n (negsuc k) h =
    omega (
      arith,
      step_down s x k h,
      times_down s (step s x (negsuc k)) n (step_within s x (negsuc k)) k,
      times_down s x (suc n) h k,
      suc-mul n (suc k),
    )

none : (d : ℤ) → pos 0 *ℤ d ≡ pos 0
none d = same (pos 0 *ℤ d) (pos 0) (omega (arith, up_times 0 d, zero-mul (up d))) (omega (arith, dn_times 0 d, zero-mul (dn d)))

pub repeated : (s x n : ℕ) (d : ℤ) → x ≤ s → walk s x (replicate n d) ≡ step s x (pos n *ℤ d)
repeated s x zero d h = sym (step_zero s x h) ∙ ap (step s x) (sym (none d))
repeated s x (suc n) d h = repeated s (step s x d) n d (step_within s x d) ∙ once_more s x n d h

-- ---- holding
pub hold_least : (lo hi : ℕ) (z : ℤ) → lo ≤ hold lo hi z
unfolding hold
hold_least lo hi z = omega arith

pub hold_most : (lo hi : ℕ) (z : ℤ) → lo ≤ hi → hold lo hi z ≤ hi
unfolding hold
hold_most lo hi z h = omega arith

pub hold_mono : (lo hi x y : ℕ) (d : ℤ) → x ≤ y → hold lo hi (pos x +ℤ d) ≤ hold lo hi (pos y +ℤ d)
unfolding hold
hold_mono lo hi x y d h =
    let k : up (pos x +ℤ d) ≤ up (pos y +ℤ d) = omega (arith, up_add (pos x) d, up_add (pos y) d) in
    omega arith

-- v held to the ends l and h, each held to lo .. hi
module _ (lo hi l h v : ℕ) (o : lo ≤ hi) (p : l ≤ h) where
  squeeze_low : v ≤ l → max (max lo (min l hi)) (min v (max lo (min h hi))) ≡ max lo (min l hi)
  squeeze_low q = omega arith

  squeeze_high : h ≤ v → max (max lo (min l hi)) (min v (max lo (min h hi))) ≡ max lo (min h hi)
  squeeze_high q = omega arith

between : (lo hi l h v : ℕ) → lo ≤ l → l ≤ max lo v → h ≤ hi → min v hi ≤ h → l ≤ h → lo ≤ hi → max l (min v h) ≡ max lo (min v hi)
between lo hi l h v a b c d e o = omega arith

squeeze_mid : (lo hi l h v : ℕ) → lo ≤ hi → l ≤ v → v ≤ h → max (max lo (min l hi)) (min v (max lo (min h hi))) ≡ max lo (min v hi)
squeeze_mid lo hi l h v o q r =
    between lo hi (max lo (min l hi)) (max lo (min h hi)) v (omega arith) (omega arith) (omega arith) (omega arith) (omega arith) o

-- held to lo .. hi, moved by d and held to lo' .. hi': moved first, and held once, to where the ends go
pub hold_then : (lo hi lo' hi' : ℕ) (z d : ℤ) → lo ≤ hi → lo' ≤ hi' →
    hold lo' hi' (pos (hold lo hi z) +ℤ d) ≡ hold (hold lo' hi' (pos lo +ℤ d)) (hold lo' hi' (pos hi +ℤ d)) (z +ℤ d)
unfolding hold
hold_then lo hi lo' hi' (negsuc n) d h h' =
    ap (λ (x : ℕ). hold lo' hi' (pos x +ℤ d)) {x = hold lo hi (negsuc n)} {y = lo} (omega arith)
    ∙ sym (squeeze_low lo' hi' (up (pos lo +ℤ d)) (up (pos hi +ℤ d)) (up (negsuc n +ℤ d)) h'
    (omega (arith, up_add (pos lo) d, up_add (pos hi) d)) (omega (arith, up_add (pos lo) d, up_add (negsuc n) d)))
hold_then lo hi lo' hi' (pos n) d h h' =
    let l = up (pos lo +ℤ d) in
    let u = up (pos hi +ℤ d) in
    let v = up (pos n +ℤ d) in
    let p : l ≤ u = omega (arith, up_add (pos lo) d, up_add (pos hi) d) in
    elim (dec_le n lo) [
      | yes q ↦ ap (λ (x : ℕ). hold lo' hi' (pos x +ℤ d)) {x = hold lo hi (pos n)} {y = lo} (omega arith)
          ∙ sym (squeeze_low lo' hi' l u v h' p (omega (arith, up_add (pos lo) d, up_add (pos n) d)))
      | no q ↦ elim (dec_le hi n) [
        | yes r ↦ ap (λ (x : ℕ). hold lo' hi' (pos x +ℤ d)) {x = hold lo hi (pos n)} {y = hi} (omega arith)
            ∙ sym (squeeze_high lo' hi' l u v h' p (omega (arith, up_add (pos hi) d, up_add (pos n) d)))
        | no r ↦ ap (λ (x : ℕ). hold lo' hi' (pos x +ℤ d)) {x = hold lo hi (pos n)} {y = n} (omega arith)
            ∙ sym (squeeze_mid lo' hi' l u v h' (omega (arith, up_add (pos lo) d, up_add (pos n) d))
            (omega (arith, up_add (pos hi) d, up_add (pos n) d)))
      ]
    ]

-- ---- every walk is one translation, by the sum of its drives, held to where the walk takes black and white
abbrev pub total : List ℤ → ℤ
total [] = pos 0
total (d ∷ ds) = d +ℤ total ds

step_mono : (s x y : ℕ) (d : ℤ) → x ≤ y → step s x d ≤ step s y d
unfolding step hold
step_mono s x y d h = hold_mono 0 s x y d h

pub walk_mono : (s x y : ℕ) (ds : List ℤ) → x ≤ y → walk s x ds ≤ walk s y ds
walk_mono s x y [] h = h
walk_mono s x y (d ∷ ds) h = walk_mono s (step s x d) (step s y d) ds (step_mono s x y d h)

-- a number between l' and h' when it is held to l .. h is the same held to l' .. h', which lie within
hold_narrow : (l h l' h' v : ℕ) → l ≤ l' → h' ≤ h → l' ≤ max l (min v h) → max l (min v h) ≤ h' → max l (min v h) ≡ max l' (min v h')
hold_narrow l h l' h' v a b c d = omega arith

-- a frame before frames that are one translation: they are one together, with the ends of those
frame_first : (s : ℕ) (d : ℤ) (ds : List ℤ) → ((y : ℕ) → y ≤ s → walk s y ds ≡ hold (walk s 0 ds) (walk s s ds) (pos y +ℤ total ds)) →
    (y : ℕ) → walk s y (d ∷ ds) ≡ hold (walk s 0 ds) (walk s s ds) (pos y +ℤ total (d ∷ ds))
unfolding step
frame_first s d ds later y =
    later (step s y d) (step_within s y d)
    ∙ hold_then 0 s (walk s 0 ds) (walk s s ds) (pos y +ℤ d) (total ds) (omega arith) (walk_mono s 0 s ds (omega arith))
    ∙ (λ i. hold (sym (later 0 (omega arith)) i) (sym (later s (le_refl s)) i) (+ℤ_assoc (pos y) d (total ds) i))

pub walk_translates : (s x : ℕ) (ds : List ℤ) → x ≤ s → walk s x ds ≡ hold (walk s 0 ds) (walk s s ds) (pos x +ℤ total ds)
unfolding hold
walk_translates s x [] h = omega arith
walk_translates s x (d ∷ ds) h =
    let e = frame_first s d ds (λ y k. walk_translates s y ds k) x in
    e
    ∙ hold_narrow (walk s 0 ds) (walk s s ds) (walk s 0 (d ∷ ds)) (walk s s (d ∷ ds)) (up (pos x +ℤ total (d ∷ ds)))
    (walk_mono s 0 (step s 0 d) ds (omega arith)) (walk_mono s (step s s d) s ds (step_within s s d))
    (subst (λ (n : ℕ). walk s 0 (d ∷ ds) ≤ n) e (walk_mono s 0 x (d ∷ ds) (omega arith)))
    (subst (λ (n : ℕ). n ≤ walk s s (d ∷ ds)) e (walk_mono s x s (d ∷ ds) h))
