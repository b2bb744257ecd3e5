-- `capture::refusals::too_many` meets its contract: one test.
use mathlib.Core.Path.{ap}
use Prim.Native.Nat.{ℕ}
use lib.Dec.{ltb}
use Rattle.capture.specs.Refused.{too_many}
use Rattle.capture.proofs.refusals.too_many.Goals as goal

pub returns : goal.returns
unfolding too_many
returns c = ap (λ (n : ℕ). ltb 8000 n) c.pixels.ensures
