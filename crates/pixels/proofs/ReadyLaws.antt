-- A transfer made ready moves a state as the transfer does: taking from what is held to raised ends is holding what was taken from.
use mathlib.Core.Path.{◌≡◌, refl, sym, ap, ◌∙◌}
use mathlib.Core.List.{List, [], ◌∷◌}
use Prim.Native.Nat.{ℕ, ◌+◌, ◌-◌, ◌≤◌, min, max}
use native.Mathlib.Omega.{arith}
use lib.Dec.{ltb}
use lib.IntN.{ℤ, pos}
use lib.ListN.{get_or}
use Rattle.base.specs.Integer.{up}
use Rattle.base.specs.Pick.{pick}
use Rattle.glass.specs.declared.Transfer.{Transfer}
use Rattle.glass.proofs.TransferLaws.{act_is, held_move}
use Rattle.pixels.specs.declared.Ready.{Ready}
use Rattle.pixels.specs.States.{most}
use Rattle.pixels.specs.Drive.{moved_once, moved_by}
use Rattle.pixels.specs.InnerReady.{past, ready_of, Bounded, moved_ready, slot_of}
use Rattle.pixels.proofs.DriveLaws.{number_both}

-- ---- one transfer
pub ready_bounded : (t : Transfer) → Bounded (ready_of t)
unfolding ready_of
ready_bounded t = record { added = omega arith; taken = omega arith; lowest = omega arith; highest = omega arith }

raised : (lo hi y d : ℕ) → max (lo + d) (min y (hi + d)) - d ≡ max lo (min (y - d) hi)
raised lo hi y d = omega arith

held_all : (lo hi y m : ℕ) → max (min lo m) (min y (min hi m)) ≡ min (max lo (min y hi)) m
held_all lo hi y m = ap (max (min lo m)) {x = min y (min hi m)} {y = min (min y hi) m} (omega arith) ∙ both lo (min y hi)
  where
    both : (a b : ℕ) → max (min a m) (min b m) ≡ min (max a b) m
    both a b = omega arith

pub ready_moves : (t : Transfer) (z : ℤ) → up z ≤ most → moved_ready (ready_of t) z ≡ moved_once t z
unfolding ready_of moved_ready moved_once
ready_moves t z h =
    ap pos
    (raised (min t.lo most) (min t.hi most) (up z + min (t.up - t.down) past) (min (t.down - t.up) past)
    ∙ held_move past (min t.lo most) (min t.hi most) (up z) t.up t.down (omega arith) (omega arith)
    ∙ held_all t.lo t.hi (up z + t.up - t.down) most
    ∙ ap (λ (y : ℕ). min y most) (sym (act_is t (up z))))

-- what an array's reading names past its end
abbrev pub unread : Ready
unread = record { plus = 0; minus = 0; low = 0; high = 0 }

-- ---- the four transfers, and the last again for a number with none
abbrev pub readied : Transfer → Transfer → Transfer → Transfer → List Ready
readied ww kw wk kk = ready_of ww ∷ ready_of kw ∷ ready_of wk ∷ ready_of kk ∷ ready_of kk ∷ []

-- what is read in the slot of a number n
module _ (ww kw wk kk : Transfer) (ts : List Ready) (n k : ℕ) (five : ts ≡ readied ww kw wk kk) (slot : k ≡ slot_of n) where
  pub slot_bounded : Bounded (get_or ts k unread)
  slot_bounded =
      rw (five, slot)
      (number_both (λ (j m : ℕ). Bounded (get_or (readied ww kw wk kk) j unread)) 0 1 2 3 4 0 0 0 0 0 n
      (ready_bounded ww) (ready_bounded kw) (ready_bounded wk) (ready_bounded kk) (ready_bounded kk))

  pub slot_moves : (z : ℤ) → up z ≤ most → pick (ltb k 4) (moved_ready (get_or ts k unread) z) z ≡ moved_by ww kw wk kk n z
  slot_moves z h =
      rw (five, slot)
      (number_both (λ (j : ℕ) (y : ℤ). pick (ltb j 4) (moved_ready (get_or (readied ww kw wk kk) j unread) z) z ≡ y) 0 1 2 3 4
      (moved_once ww z) (moved_once kw z) (moved_once wk z) (moved_once kk z) z n
      (ready_moves ww z h) (ready_moves kw z h) (ready_moves wk z h) (ready_moves kk z h) refl)
