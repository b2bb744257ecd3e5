-- What a call that is accepted does to what is lent before its own: the glass, and the copy of new to old.
use Rattle.std.specs.Prelude.{Bool, ℕ, eqb}
use Rattle.base.specs.Pick.{pick}
use Rattle.controller.specs.declared.Uc8253.{Uc8253}
use Rattle.controller.specs.World.{Buffers, world}
use Rattle.controller.specs.Counting.{own}
use Rattle.controller.specs.Planes.{old_arrived}
use Rattle.controller.specs.Glass.{driven_at, states_by, picture_by}
use Rattle.controller.specs.TurnedBack.{turned_back}

unfoldable pub settled : Bool → ℕ → Uc8253 → Buffers → Buffers
settled asserted t p b =
    let d = driven_at own asserted t p in
    let states = states_by d p b.old b.new b.states in
    record {
      old = old_arrived t p b.old b.new;
      new = b.new;
      states = states;
      picture = picture_by d p states b.picture;
      rows = b.rows;
    }

-- a call that is turned back leaves all as it is
unfoldable pub come_to : Bool → ℕ → Uc8253 → Buffers → Buffers
come_to asserted t p b = pick (eqb (turned_back asserted t (world p b)) 0) (settled asserted t p b) b
