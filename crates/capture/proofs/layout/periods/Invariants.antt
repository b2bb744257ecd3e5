-- `capture::layout::periods` meets its contract. The loop's invariant: the first numbers are the periods of the codes passed.
use mathlib.Core.Path.{◌≡◌}
use Prim.Native.Nat.{◌-◌, ◌≤◌}
use lib.ListN.{length, take}
use Rattle.capture.specs.Layout.{periods_of}
use Rattle.capture.proofs.layout.periods.Given as goal

abbrev pub invariant-loop-code : goal.invariant-loop-code
invariant-loop-code l = (take l.code l.periods ≡ periods_of l.file l.at l.code) × (l.code ≤ 32) × (length l.periods ≡ 32)

abbrev pub decreases-loop-code : goal.decreases-loop-code
decreases-loop-code l = 32 - l.code
