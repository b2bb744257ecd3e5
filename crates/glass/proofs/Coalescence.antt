-- Coalescence: every start in 0 .. full swing ends in one state exactly when the highest
-- and the lowest running sum lie at least the full swing apart.
-- Starts up to the fall meet at black, starts within the rise of white meet at white (`low`, `high`);
-- between the two nothing is held (`free`).
use mathlib.Core.Path.{◌≡◌, refl, sym, ap, ◌∙◌}
use mathlib.Core.Logic.{◌↔◌}
use mathlib.Core.List.{List, [], ◌∷◌}
use Prim.Native.Nat.{ℕ, suc, ◌+◌, ◌-◌, ◌≤◌, ◌<◌, min}
use native.Mathlib.Nat.{le_refl}
use native.Mathlib.Omega.{arith}
use native.Mathlib.Decide.{dec_le}
use lib.IntN.{ℤ, pos, negsuc, neg_ℤ, ◌+ℤ◌, ◌-ℤ◌, +ℤ_assoc, +ℤ_idr, +ℤ_idl, neg_ℤ-neg_ℤ}
use lib.Signed.{◌≤ℤ◌}
use Rattle.base.specs.Integer.{up, dn, maxℤ, minℤ}
use Rattle.base.proofs.Integer.{up_add, dn_add, up_neg, dn_neg, same, max_plus, min_minus, minus_minus, pos_le, le_pos}
use Rattle.glass.specs.Walk.{step, walk, highest, lowest, Coalesces}
use Rattle.glass.proofs.WalkLaws.{total, step_up, step_down, step_within}

-- how far they rise above where they begin, and how far they fall below
unfoldable pub rise : List ℤ → ℕ
rise [] = 0
rise (d ∷ ds) = up (d +ℤ pos (rise ds))

unfoldable pub fall : List ℤ → ℕ
fall [] = 0
fall (d ∷ ds) = up (pos (fall ds) -ℤ d)

rise_up : (n : ℕ) (ds : List ℤ) → rise (pos n ∷ ds) ≡ n + rise ds
unfolding rise
rise_up n ds = refl

rise_down : (n : ℕ) (ds : List ℤ) → rise (negsuc n ∷ ds) ≡ rise ds - suc n
unfolding rise
rise_down n ds = omega (arith, up_add (negsuc n) (pos (rise ds)))

fall_up : (n : ℕ) (ds : List ℤ) → fall (pos n ∷ ds) ≡ fall ds - n
unfolding fall
fall_up n ds = omega (arith, up_add (pos (fall ds)) (neg_ℤ (pos n)), up_neg (pos n), dn_neg (pos n))

fall_down : (n : ℕ) (ds : List ℤ) → fall (negsuc n ∷ ds) ≡ fall ds + suc n
unfolding fall
fall_down n ds = refl

-- ---- starts that meet: all at or below the fall, all within the rise of the swing
low : (s x : ℕ) (ds : List ℤ) → x ≤ s → x ≤ fall ds → walk s x ds ≡ walk s 0 ds
unfolding fall
low s x [] h k = omega arith
low s x (pos n ∷ ds) h k = elim (dec_le x 0) [
  | yes l ↦ ap (λ (y : ℕ). walk s (step s y (pos n)) ds) (omega arith)
  | no l ↦
      low s (step s x (pos n)) ds (step_within s x (pos n)) (omega (arith, step_up s x n, fall_up n ds))
      ∙ sym (low s (step s 0 (pos n)) ds (step_within s 0 (pos n)) (omega (arith, step_up s 0 n, fall_up n ds)))
]
low s x (negsuc n ∷ ds) h k =
    low s (step s x (negsuc n)) ds (step_within s x (negsuc n)) (omega (arith, step_down s x n h, fall_down n ds))
    ∙ ap (λ (y : ℕ). walk s y ds) (omega (arith, step_down s 0 n (omega arith)))

high : (s x : ℕ) (ds : List ℤ) → x ≤ s → s ≤ x + rise ds → walk s x ds ≡ walk s s ds
unfolding rise
high s x [] h k = omega arith
high s x (pos n ∷ ds) h k =
    high s (step s x (pos n)) ds (step_within s x (pos n)) (omega (arith, step_up s x n, rise_up n ds))
    ∙ ap (λ (y : ℕ). walk s y ds) (omega (arith, step_up s s n))
high s x (negsuc n ∷ ds) h k = elim (dec_le s x) [
  | yes l ↦ ap (λ (y : ℕ). walk s (step s y (negsuc n)) ds) (omega arith)
  | no l ↦
      high s (step s x (negsuc n)) ds (step_within s x (negsuc n)) (omega (arith, step_down s x n h, rise_down n ds))
      ∙ sym (high s (step s s (negsuc n)) ds (step_within s s (negsuc n)) (omega (arith, step_down s s n (le_refl s), rise_down n ds)))
]

-- ---- between the two nothing is held
step_free : (s x : ℕ) (d : ℤ) → dn d ≤ x → x + up d ≤ s → pos (step s x d) ≡ pos x +ℤ d
step_free s x (pos n) h k = ap pos (omega (arith, step_up s x n))
step_free s x (negsuc n) h k =
    same (pos (step s x (negsuc n))) (pos x +ℤ negsuc n)
    (omega (arith, step_down s x n (omega arith), up_add (pos x) (negsuc n)))
    (omega (arith, dn_add (pos x) (negsuc n)))

join : (s x : ℕ) (d : ℤ) (ds : List ℤ) → pos (step s x d) ≡ pos x +ℤ d → pos (walk s (step s x d) ds) ≡ pos (step s x d) +ℤ total ds
    → pos (walk s x (d ∷ ds)) ≡ pos x +ℤ total (d ∷ ds)
join s x d ds e f = f ∙ ap (λ (z : ℤ). z +ℤ total ds) e ∙ +ℤ_assoc (pos x) d (total ds)

free : (s x : ℕ) (ds : List ℤ) → fall ds ≤ x → x + rise ds ≤ s → pos (walk s x ds) ≡ pos x +ℤ total ds
free s x [] h k = sym (+ℤ_idr (pos x))
free s x (pos n ∷ ds) h k =
    join s x (pos n) ds (step_free s x (pos n) (omega arith) (omega (arith, rise_up n ds)))
    (free s (step s x (pos n)) ds (omega (arith, step_up s x n, rise_up n ds, fall_up n ds)) (omega (arith, step_up s x n, rise_up n ds)))
free s x (negsuc n ∷ ds) h k =
    let b : x ≤ s = omega arith in
    join s x (negsuc n) ds (step_free s x (negsuc n) (omega (arith, fall_down n ds)) (omega arith))
    (free s (step s x (negsuc n)) ds (omega (arith, step_down s x n b, fall_down n ds))
    (omega (arith, step_down s x n b, rise_down n ds, fall_down n ds)))

-- one start that is both at the fall or below, and within the rise of the swing
meet : (s x : ℕ) (ds : List ℤ) → s ≤ rise ds + fall ds → x ≤ s → walk s x ds ≡ walk s s ds
meet s x ds c h = elim (dec_le x (fall ds)) [
  | yes l ↦
      low s x ds h l
      ∙ sym (low s (min (fall ds) s) ds (omega arith) (omega arith))
      ∙ high s (min (fall ds) s) ds (omega arith) (omega arith)
  | no l ↦ high s x ds h (omega arith)
]

pos_inj : {m n : ℕ} → pos m ≡ pos n → m ≡ n
pos_inj e = ap up e

-- starts that are not held keep their distance
+ℤ-cancel : (x y : ℕ) (t : ℤ) → pos x +ℤ t ≡ pos y +ℤ t → x ≡ y
+ℤ-cancel x y t e = omega (arith, ap up e, ap dn e, up_add (pos x) t, up_add (pos y) t, dn_add (pos x) t, dn_add (pos y) t)

apart : (s : ℕ) (ds : List ℤ) → rise ds + fall ds < s → walk s 0 ds ≡ walk s s ds → ⊥
apart s ds c e =
    let a = fall ds in
    let b = s - rise ds in
    let q : walk s a ds ≡ walk s b ds =
    low s a ds (omega arith) (omega arith) ∙ e ∙ sym (high s b ds (omega arith) (omega arith)) in
    let r : a ≡ b =
    +ℤ-cancel a b (total ds) (sym (free s a ds (omega arith) (omega arith)) ∙ ap pos q ∙ free s b ds (omega arith) (omega arith)) in
    omega arith

spans_iff : (s : ℕ) (ds : List ℤ) → Coalesces s ds ↔ (s ≤ rise ds + fall ds)
spans_iff s ds = (spans, (λ c x y h k. meet s x ds c h ∙ sym (meet s y ds c k)))
  where
    spans : Coalesces s ds → s ≤ rise ds + fall ds
    spans f = elim (dec_le s (rise ds + fall ds)) [ yes l ↦ l | no l ↦ absurd (apart s ds (omega arith) (f 0 s (omega arith) (le_refl s))) ]

-- ---- the rise and the fall are the highest and the lowest running sum
pub highest_is : (z : ℤ) (ds : List ℤ) → highest z ds ≡ z +ℤ pos (rise ds)
unfolding rise
highest_is z [] = sym (+ℤ_idr z)
highest_is z (d ∷ ds) =
    ap (maxℤ z) (highest_is (z +ℤ d) ds ∙ +ℤ_assoc z d (pos (rise ds))) ∙ max_plus z (d +ℤ pos (rise ds))

pub lowest_is : (z : ℤ) (ds : List ℤ) → lowest z ds ≡ z -ℤ pos (fall ds)
unfolding fall
lowest_is z [] = sym (+ℤ_idr z)
lowest_is z (d ∷ ds) =
    ap (minℤ z) (lowest_is (z +ℤ d) ds ∙ minus_minus z d (pos (fall ds))) ∙ min_minus z (pos (fall ds) -ℤ d)

pub spread_is : (ds : List ℤ) → highest (pos 0) ds -ℤ lowest (pos 0) ds ≡ pos (rise ds + fall ds)
spread_is ds =
    ap (λ (z : ℤ). z -ℤ lowest (pos 0) ds) (highest_is (pos 0) ds ∙ +ℤ_idl (pos (rise ds)))
    ∙ ap (λ (z : ℤ). pos (rise ds) -ℤ z) (lowest_is (pos 0) ds ∙ +ℤ_idl (neg_ℤ (pos (fall ds))))
    ∙ ap (λ (z : ℤ). pos (rise ds) +ℤ z) (neg_ℤ-neg_ℤ (pos (fall ds)))

-- the theorem, in the running sums' own terms
pub coalescence : (s : ℕ) (ds : List ℤ) → Coalesces s ds ↔ (pos s ≤ℤ (highest (pos 0) ds -ℤ lowest (pos 0) ds))
coalescence s ds =
    ((λ f. rw (spread_is ds) (le_pos ((spans_iff s ds).0 f))), (λ h. (spans_iff s ds).1 (pos_le (rw (spread_is ds) at h))))
