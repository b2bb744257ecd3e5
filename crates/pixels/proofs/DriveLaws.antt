-- What driving means: each state makes the walk over the frames of its table number, and stays in range.
use mathlib.Core.Path.{◌≡◌, refl, sym, ap, subst, ◌∙◌}
use mathlib.Core.Bool.{Bool, true, false}
use mathlib.Core.List.{List, []}
use Prim.Native.Nat.{ℕ, ◌≤◌, ◌<◌, min}
use native.Mathlib.Decide.{dec_le}
use native.Mathlib.Omega.{arith}
use lib.Dec.{eqb}
use lib.IntN.{ℤ, pos}
use lib.ListN.{length, get_or, get_or-eq_default}
use borrow.Author.Tests.{ne_eqb}
use Rattle.base.specs.Integer.{up}
use Rattle.base.specs.Pick.{pick}
use Rattle.glass.specs.declared.Transfer.{Transfer}
use Rattle.glass.specs.Walk.{walk}
use Rattle.glass.specs.Transfer.{act, Acts}
use Rattle.glass.proofs.WalkLaws.{walk_within}
use Rattle.pixels.specs.States.{most, every_state, StateInRange}
use Rattle.pixels.specs.Drive.{by_number, moved_once, moved_by, driven, frames_for}
use Rattle.pixels.proofs.ListLaws.{beside_length, beside_at, beside_past}
use Rattle.pixels.proofs.StateLaws.{states_in_range, in_range_states}

-- ---- what belongs to a table number
pub number_none : {A : Type 0} (ww kw wk kk none : A) (n : ℕ) → (n ≡ 1 → ⊥) → (n ≡ 2 → ⊥) → (n ≡ 3 → ⊥) → (n ≡ 4 → ⊥)
    → by_number ww kw wk kk none n ≡ none
unfolding by_number
number_none ww kw wk kk none n p q r s = rw (ne_eqb n 1 p, ne_eqb n 2 q, ne_eqb n 3 r, ne_eqb n 4 s)

-- what holds of each case on both sides holds of what belongs to the number
pick_both : {A B : Type 0} (P : A → B → Type 0) (t : Bool) (a b : A) (a' b' : B) → P a a' → P b b' → P (pick t a b) (pick t a' b')
pick_both P true a b a' b' p q = p
pick_both P false a b a' b' p q = q

pub number_both : {A B : Type 0} (P : A → B → Type 0) (a b c d e : A) (a' b' c' d' e' : B) (n : ℕ) →
    P a a' → P b b' → P c c' → P d d' → P e e' → P (by_number a b c d e n) (by_number a' b' c' d' e' n)
unfolding by_number
number_both P a b c d e a' b' c' d' e' n p q r s t =
    pick_both P (eqb n 1) _ _ _ _ p (pick_both P (eqb n 2) _ _ _ _ q (pick_both P (eqb n 3) _ _ _ _ r (pick_both P (eqb n 4) _ _ _ _ s t)))

-- ---- one state
once_walk : (s : ℕ) (t : Transfer) (ds : List ℤ) (x : ℕ) → s ≤ most → Acts s t ds → x ≤ s → moved_once t (pos x) ≡ pos (walk s x ds)
unfolding moved_once
once_walk s t ds x b a h = ap pos {x = min (act t x) most} {y = walk s x ds} (omega (arith, a.same x h, walk_within s x ds h))

-- 255, or a missing number
pub moved_none : (ww kw wk kk : Transfer) (z : ℤ) → moved_by ww kw wk kk 255 z ≡ z
unfolding by_number
moved_none ww kw wk kk z = refl

pub driven_at_lem : (ww kw wk kk : Transfer) (numbers : List ℕ) (states : List ℤ) (i : ℕ) → i < length states →
    get_or (driven ww kw wk kk numbers states) i (pos 0) ≡ moved_by ww kw wk kk (get_or numbers i 255) (get_or states i (pos 0))
driven_at_lem ww kw wk kk numbers states i h = elim (dec_le (length numbers) i) [
  | yes k ↦
      beside_past (moved_by ww kw wk kk) i numbers states (pos 0) k
      ∙ sym (moved_none ww kw wk kk (get_or states i (pos 0)))
      ∙ ap (λ (n : ℕ). moved_by ww kw wk kk n (get_or states i (pos 0))) (sym (get_or-eq_default numbers 255 k))
  | no k ↦ beside_at (moved_by ww kw wk kk) i numbers states 255 (pos 0) (omega arith) h
]

pub driven_length : (ww kw wk kk : Transfer) (numbers : List ℕ) (states : List ℤ)
    → length (driven ww kw wk kk numbers states) ≡ length states
driven_length ww kw wk kk numbers states = beside_length (moved_by ww kw wk kk) numbers states

-- ---- transfers that act as the frames f 1 .. f 4
module _ (s : ℕ) (ww kw wk kk : Transfer) (f : ℕ → List ℤ) (b : s ≤ most)
    (a₁ : Acts s ww (f 1)) (a₂ : Acts s kw (f 2)) (a₃ : Acts s wk (f 3)) (a₄ : Acts s kk (f 4)) where
  pub moved_walk : (n x : ℕ) → x ≤ s → moved_by ww kw wk kk n (pos x) ≡ pos (walk s x (frames_for f n))
  moved_walk n x h =
      number_both (λ (z : ℤ) (ds : List ℤ). z ≡ pos (walk s x ds))
      (moved_once ww (pos x)) (moved_once kw (pos x)) (moved_once wk (pos x)) (moved_once kk (pos x)) (pos x) (f 1) (f 2) (f 3) (f 4) [] n
      (once_walk s ww (f 1) x b a₁ h) (once_walk s kw (f 2) x b a₂ h) (once_walk s wk (f 3) x b a₃ h) (once_walk s kk (f 4) x b a₄ h) refl

  -- of a state in range, and that it stays there
  pub state_walk : (n : ℕ) (z : ℤ) → StateInRange s z → moved_by ww kw wk kk n z ≡ pos (walk s (up z) (frames_for f n))
  state_walk n z r = ap (moved_by ww kw wk kk n) r.is ∙ moved_walk n (up z) r.within

  pub moved_in_range : (n : ℕ) (z : ℤ) → StateInRange s z → StateInRange s (moved_by ww kw wk kk n z)
  moved_in_range n z r =
      subst (λ (y : ℤ). StateInRange s y) (sym (state_walk n z r))
      (record { is = refl; within = walk_within s (up z) (frames_for f n) r.within })

  -- ---- all states
  pub driven_walk : (numbers : List ℕ) (states : List ℤ) → every_state s states ≡ true → (i : ℕ) → i < length states →
      get_or (driven ww kw wk kk numbers states) i (pos 0) ≡ pos (walk s (up (get_or states i (pos 0))) (frames_for f (get_or numbers i 255)))
  driven_walk numbers states e i h =
      driven_at_lem ww kw wk kk numbers states i h
      ∙ state_walk (get_or numbers i 255) (get_or states i (pos 0)) (states_in_range s states e i h)

  pub driven_in_range : (numbers : List ℕ) (states : List ℤ) → every_state s states ≡ true
      → every_state s (driven ww kw wk kk numbers states) ≡ true
  driven_in_range numbers states e =
      in_range_states s (driven ww kw wk kk numbers states)
      (λ i h. within i (subst (λ (n : ℕ). i < n) (driven_length ww kw wk kk numbers states) h))
    where
      within : (i : ℕ) → i < length states → StateInRange s (get_or (driven ww kw wk kk numbers states) i (pos 0))
      within i k =
          subst (λ (z : ℤ). StateInRange s z) (sym (driven_at_lem ww kw wk kk numbers states i k))
          (moved_in_range (get_or numbers i 255) (get_or states i (pos 0)) (states_in_range s states e i k))
