-- `pixels::draw_wide` meets its contract. The invariant: the entries whose turn has come are drawn (`Changed`).
use Prim.Native.Nat.{ℕ}
use lib.IntN.{ℤ}
use Rattle.base.specs.Integer.{up}
use Rattle.glass.specs.Gray.{top_of, gray_at}
use Rattle.pixels.proofs.ListLaws.{Changed}
use Rattle.pixels.proofs.draw_wide.Given as goal

abbrev pub grey : ℕ → ℕ → ℤ → ℕ → ℕ
grey t s z g = gray_at (top_of t) (up z) s

abbrev pub invariant-loop-i : goal.invariant-loop-i
invariant-loop-i l = Changed (grey l.top l.swing) l.states l.initial.picture l.picture l.i
