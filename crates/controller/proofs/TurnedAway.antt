-- A call that is turned back leaves all as it was; one that is accepted is its parts, and the record it gives back is `record_after`, whatever
-- is lent.
use mathlib.Core.Path.{◌≡◌, refl, ap, sym, ◌∙◌}
use mathlib.Core.Bool.{Bool, true, false}
use mathlib.Core.List.{List}
use Prim.Native.Nat.{ℕ}
use lib.Dec.{eqb}
use lib.IntN.{ℤ}
use borrow.Author.Tests.{eq-eqb}
use Rattle.controller.specs.declared.Uc8253.{Uc8253}
use Rattle.controller.specs.World.{World, Buffers, buffers, world}
use Rattle.controller.specs.Counting.{Counting, own}
use Rattle.controller.specs.Glass.{states_by, picture_by}
use Rattle.controller.specs.Ask.{Ask, refused_by, record_after, lent_after, old_after, new_after, rows_after, driven_by, did_by, did}

pub did_no : (a : Ask) (w : World) → eqb (refused_by a w) 0 ≡ false → did a w ≡ w
unfolding did_by
did_no a w e = rw e

-- what an accepted call makes of a world
abbrev pub done_to : (Uc8253 → Counting) → Ask → World → World
done_to clock a w = world (record_after clock a w.chip) (lent_after clock a w.chip w.lent)

pub did_yes : (a : Ask) (w : World) → eqb (refused_by a w) 0 ≡ true → did a w ≡ done_to own a w
unfolding did_by
did_yes a w e = rw e

-- the theorem of 2026-10: for every accepted call the record given back is that of the record and the call alone
pub record_after_lem : (a : Ask) (p : Uc8253) (b : Buffers) → refused_by a (world p b) ≡ 0 → (did a (world p b)).chip ≡ record_after own a p
record_after_lem a p b e = ap (λ (w : World). w.chip) (did_yes a (world p b) (eq-eqb (refused_by a (world p b)) 0 e))

-- so it is the same whatever is lent
pub record_alike : (a : Ask) (p : Uc8253) (b c : Buffers) → refused_by a (world p b) ≡ 0 → refused_by a (world p c) ≡ 0
    → (did a (world p b)).chip ≡ (did a (world p c)).chip
record_alike a p b c e f = record_after_lem a p b e ∙ sym (record_after_lem a p c f)

-- the parts of an accepted call put together
module _ (a : Ask) (p : Uc8253) (b : Buffers) where
  pub did_parts : (q : Uc8253) (old new : List ℕ) (states : List ℤ) (picture rows : List ℕ)
      → refused_by a (world p b) ≡ 0
      → q ≡ record_after own a p
      → old ≡ old_after a p b.old b.new
      → new ≡ new_after a p b.new
      → states ≡ states_by (driven_by own a p) p b.old b.new b.states
      → picture ≡ picture_by (driven_by own a p) p states b.picture
      → rows ≡ rows_after a p b.rows
      → world q (buffers old new states picture rows) ≡ did a (world p b)
  unfolding lent_after
  did_parts q old new states picture rows e eq eo en es ep er =
      let d = driven_by own a p in
      (λ i. world (eq i) (buffers (eo i) (en i) (es i) ((ep ∙ ap (λ (s : List ℤ). picture_by d p s b.picture) es) i) (er i)))
      ∙ sym (did_yes a (world p b) (eq-eqb (refused_by a (world p b)) 0 e))
