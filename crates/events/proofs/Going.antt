-- A run under way: after i events the world, the answers and the refusal are the definition's.
use mathlib.Core.Path.{◌≡◌, refl, ◌∙◌}
use mathlib.Core.List.{List}
use Prim.Native.Nat.{ℕ}
use lib.ListN.{length}
use Rattle.controller.specs.World.{World, Buffers}
use Rattle.controller.specs.declared.lent.Lent.{Lent}
use Rattle.controller.specs.Lent.{Same}
use Rattle.event.specs.Events.{ran_to, answers_to, refused_in}

pub record Going (bytes : List ℕ) (i : ℕ) (w v : World) (answers₀ answers : List ℕ) (refused : ℕ) : Type 0 where
  pub is : v ≡ ran_to bytes i w
  pub gave : answers ≡ answers_to bytes i w answers₀
  pub turned : refused ≡ refused_in bytes i w

-- before the first event
pub going_first : (bytes : List ℕ) (w : World) (answers : List ℕ) → Going bytes 0 w w answers answers 0
unfolding ran_to answers_to refused_in
going_first bytes w answers = record { is = refl; gave = refl; turned = refl }

-- the same slices, and the same again
pub same_more : {k l m : Lent} → Same k l → Same l m → Same k m
same_more g h = record {
  same_old = h.same_old ∙ g.same_old;
  same_new = h.same_new ∙ g.same_new;
  same_states = h.same_states ∙ g.same_states;
  same_picture = h.same_picture ∙ g.same_picture;
  same_rows = h.same_rows ∙ g.same_rows;
}
