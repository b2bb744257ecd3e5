-- `shades::write` meets what it calls asks: the front of an array of zeros.
use mathlib.Core.Path.{ap, ◌∙◌}
use Prim.Native.Nat.{ℕ}
use lib.ListN.{replicate}
use Rattle.shades.proofs.ShadeLaws.{front_zeros, front_length}
use Rattle.shades.proofs.write.Goals as goal

pub slice_bounds-wide-end : goal.slice_bounds-wide-end
slice_bounds-wide-end g c = c.room-n.ensures.1

pub slice_bounds-write_in-end : goal.slice_bounds-write_in-end
slice_bounds-write_in-end g c = front_length c.room-n.result 480_000 c.room-n.ensures.1

pub write_in-requires : goal.write_in-requires
write_in-requires g c =
    front_zeros c.room-n.result 480_000 c.room-n.ensures.1
    ∙ ap (λ (n : ℕ). replicate {A = ℕ} n 0) c.room-n.ensures.0
