-- What a transfer means: it acts as the walk of its drives, alone, repeated and composed;
-- and holding its moves to 64 bits changes no state.
use mathlib.Core.Path.{◌≡◌, sym, ap, ◌∙◌}
use mathlib.Core.List.{List, [], ◌++◌}
use Prim.Native.Nat.{ℕ, suc, ◌+◌, ◌-◌, ◌*◌, ◌≤◌, min, max}
use native.Mathlib.Nat.{le_refl, le_trans, mul-zero}
use native.Mathlib.Omega.{arith}
use native.Mathlib.Decide.{dec_le}
use lib.ListN.{replicate}
use lib.IntN.{ℤ, pos, negsuc, sub_ℕ, ◌+ℤ◌, ◌*ℤ◌, +ℤ_assoc}
use Rattle.base.specs.Word.{top}
use Rattle.base.specs.Integer.{up, dn}
use Rattle.base.proofs.Integer.{up_add, sub_up, sub_dn, sub_add, up_times, dn_times}
use Rattle.glass.specs.declared.Transfer.{Transfer}
use Rattle.glass.specs.Walk.{hold, step, walk}
use Rattle.glass.specs.Transfer.{act, identity_of, shift_of, then_of, Acts}
use Rattle.glass.proofs.WalkLaws.{hold_then, hold_most, hold_mono, walk_within, walk_append, repeated}

abbrev add : Transfer → ℤ
add t = sub_ℕ t.up t.down

-- a state and a difference, above zero
plus : (x u d : ℕ) → up (pos x +ℤ sub_ℕ u d) ≡ x + u - d
plus x u d = omega (arith, up_add (pos x) (sub_ℕ u d), sub_up u d, sub_dn u d)

-- what a transfer does, in natural numbers
pub act_is : (t : Transfer) (x : ℕ) → act t x ≡ max t.lo (min (x + t.up - t.down) t.hi)
unfolding act hold
act_is t x = ap (λ (v : ℕ). max t.lo (min v t.hi)) (plus x t.up t.down)

pub act_most : (t : Transfer) (x : ℕ) → t.lo ≤ t.hi → act t x ≤ t.hi
unfolding act
act_most t x o = hold_most t.lo t.hi (pos x +ℤ add t) o

pub act_mono : (t : Transfer) (x y : ℕ) → x ≤ y → act t x ≤ act t y
unfolding act
act_mono t x y h = hold_mono t.lo t.hi x y (add t) h

-- ---- moves that are held to c: what is held to ends up to c does not see it
far_up : (c hi x k : ℕ) → hi ≤ c → min (x + min k c) hi ≡ min (x + k) hi
far_up c hi x k h = omega arith

far_down : (c x k : ℕ) → x ≤ c → x - min k c ≡ x - k
far_down c x k h = omega arith

pub held_move : (c lo hi x u d : ℕ) → hi ≤ c → x ≤ c → max lo (min (x + min (u - d) c - min (d - u) c) hi) ≡ max lo (min (x + u - d) hi)
held_move c lo hi x u d h k = elim (dec_le d u) [
  | yes l ↦
      ap (λ (v : ℕ). max lo (min v hi)) {y = x + min (u - d) c} (omega arith)
      ∙ ap (max lo) (far_up c hi x (u - d) h)
      ∙ ap (λ (v : ℕ). max lo (min v hi)) {x = x + (u - d)} (omega arith)
  | no l ↦
      ap (λ (v : ℕ). max lo (min v hi)) {y = x - min (d - u) c} (omega arith)
      ∙ ap (λ (v : ℕ). max lo (min v hi)) (far_down c x (d - u) k)
      ∙ ap (λ (v : ℕ). max lo (min v hi)) {x = x - (d - u)} (omega arith)
]

-- ---- one transfer after the other, for every state that a word holds
both_moves : (t u : Transfer) → t.lo ≤ t.hi → u.lo ≤ u.hi → (x : ℕ) →
    max (act u t.lo) (min (x + (t.up + u.up) - (t.down + u.down)) (act u t.hi)) ≡ act u (act t x)
unfolding act hold
both_moves t u o p x =
    ap (λ (v : ℕ). max (act u t.lo) (min v (act u t.hi)))
    (sym (plus x (t.up + u.up) (t.down + u.down))
    ∙ ap up (ap (λ (w : ℤ). pos x +ℤ w) (sym (sub_add t.up t.down u.up u.down)) ∙ sym (+ℤ_assoc (pos x) (add t) (add u))))
    ∙ sym (hold_then t.lo t.hi u.lo u.hi (pos x +ℤ add t) (add u) o p)

pub act_then : (t u : Transfer) → t.lo ≤ t.hi → u.lo ≤ u.hi → u.hi ≤ top → (x : ℕ) → x ≤ top → act (then_of t u) x ≡ act u (act t x)
act_then t u o p q x h =
    act_is (then_of t u) x
    ∙ held_move top (act u t.lo) (act u t.hi) x (t.up + u.up) (t.down + u.down) (le_trans (act_most u t.hi p) q) h
    ∙ both_moves t u o p x

-- ---- the meaning: identity, n equal frames, one run after another
pub acts_identity : (s : ℕ) → Acts s (identity_of s) []
acts_identity s = record { ordered = omega arith; inside = le_refl s; same = λ x h. omega (arith, act_is (identity_of s) x) }

pub acts_repeated : (s n : ℕ) (d : ℤ) → s ≤ top → Acts s (shift_of (min (n * up d) top) (min (n * dn d) top) s) (replicate n d)
unfolding step hold
acts_repeated s n d b = record {
  ordered = omega arith;
  inside = le_refl s;
  same = λ x h. act_is (shift_of (min (n * up d) top) (min (n * dn d) top) s) x ∙ frames x h d ∙ sym (repeated s x n d h);
}
  where
    frames : (x : ℕ) → x ≤ s → (d : ℤ) → max 0 (min (x + min (n * up d) top - min (n * dn d) top) s) ≡ step s x (pos n *ℤ d)
    frames x h (pos k) =
        ap (λ (v : ℕ). max 0 (min v s)) {y = x + min (n * k) top} (omega (arith, mul-zero n))
        ∙ ap (max 0) (far_up top s x (n * k) b)
    frames x h (negsuc k) =
        ap (λ (v : ℕ). max 0 (min v s)) {y = x - min (n * suc k) top} (omega (arith, mul-zero n))
        ∙ ap (λ (v : ℕ). max 0 (min v s))
        (far_down top x (n * suc k) (omega arith)
        ∙ omega (arith, mul-zero n, up_add (pos x) (pos n *ℤ negsuc k), up_times n (negsuc k), dn_times n (negsuc k)))

pub acts_then : (s : ℕ) (t u : Transfer) (xs ys : List ℤ) → s ≤ top → Acts s t xs → Acts s u ys → Acts s (then_of t u) (xs ++ ys)
acts_then s t u xs ys b f g = record {
  ordered = act_mono u t.lo t.hi f.ordered;
  inside = le_trans (act_most u t.hi g.ordered) g.inside;
  same = λ x h.
      act_then t u f.ordered g.ordered (le_trans g.inside b) x (le_trans h b)
      ∙ ap (act u) (f.same x h)
      ∙ g.same (walk s x xs) (walk_within s x xs h)
      ∙ sym (walk_append s x xs ys);
}
