-- `pixels::draw` meets its contract. The invariant: the entries whose turn has come are drawn (`Changed`).
use Prim.Native.Nat.{ℕ}
use lib.IntN.{ℤ}
use Rattle.base.specs.Integer.{up}
use Rattle.glass.specs.Gray.{gray_of}
use Rattle.pixels.proofs.ListLaws.{Changed}
use Rattle.pixels.proofs.draw.Given as goal

abbrev pub grey : ℕ → ℤ → ℕ → ℕ
grey s z g = gray_of (up z) s

abbrev pub invariant-loop-i : goal.invariant-loop-i
invariant-loop-i l = Changed (grey l.swing) l.states l.initial.picture l.picture l.i
