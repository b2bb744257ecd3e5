-- `pixels::threshold` meets its contract: the split quotient is the definition's, and a sum that is held twice is held once.
use mathlib.Core.Path.{◌≡◌}
use Prim.Native.Nat.{ℕ, ◌+◌, ◌-◌, ◌*◌, ◌/◌, ◌%◌}
use native.Mathlib.Omega.{arith}
use Rattle.glass.specs.Gray.{least_of}
use Rattle.glass.proofs.GrayLaws.{least_split}
use Rattle.pixels.proofs.threshold.Goals as goal

-- by what was worked out as 2 q - 1
split : (m q s : ℕ) → m ≡ 2 * q - 1 → m * (s / 510) + (m * (s % 510) + 509) / 510 ≡ least_of q s
split m q s e = rw e (least_split q s)

pub returns : goal.returns
returns c = omega (arith, split c.saturating_sub-m.result c.args.q c.args.swing c.saturating_sub-m.ensures)
