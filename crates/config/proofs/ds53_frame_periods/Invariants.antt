-- `config::ds53_frame_periods` meets its contract. The loop's invariant: the first numbers are the periods of the codes passed.
use mathlib.Core.Path.{◌≡◌, refl}
use Prim.Native.Nat.{◌-◌, ◌≤◌}
use native.Mathlib.Omega.{arith}
use borrow.Author.Rules.{rules}
use lib.ListN.{length, take, length-set}
use Rattle.base.proofs.Listed.{filled_more, filled}
use Rattle.config.specs.X3.{ds53, periods_to}
use Rattle.config.proofs.ds53_frame_periods.Given as goal

abbrev pub invariant-loop-code : goal.invariant-loop-code
invariant-loop-code l = (take l.code l.periods ≡ periods_to l.code) × (l.code ≤ 32) × (length l.periods ≡ 32)

abbrev pub decreases-loop-code : goal.decreases-loop-code
decreases-loop-code l = 32 - l.code
