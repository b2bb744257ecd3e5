-- `glass::level` meets its contract: the split quotients fit 64 bits and sum to the quotient of the product.
use Prim.Native.Nat.{◌≤◌, ◌*◌, ◌/◌, ◌%◌}
use native.Mathlib.Omega.{arith}
use native.Mathlib.Nat.{mul-le-mul_left}
use Rattle.glass.proofs.GrayLaws.{level_split}
use Rattle.glass.proofs.level.Goals as goal

-- a grey is at most 255, and so is what it multiplies
module _ (c : goal.Start) where
  whole : c.args.swing / 255 * c.args.gray ≤ c.args.swing / 255 * 255
  whole = mul-le-mul_left {m = c.args.gray} {n = 255} (c.args.swing / 255) (omega arith)

  part : c.args.swing % 255 * c.args.gray ≤ c.args.swing % 255 * 255
  part = mul-le-mul_left {m = c.args.gray} {n = 255} (c.args.swing % 255) (omega arith)

pub overflow_mul-result : goal.overflow_mul-result
overflow_mul-result c = record { fits = omega (arith, whole c) }

pub overflow_mul-result-2 : goal.overflow_mul-result-2
overflow_mul-result-2 c = record { fits = omega (arith, part c) }

pub overflow_add-result : goal.overflow_add-result
overflow_add-result c = record { fits = omega (arith, whole c, part c) }

pub returns : goal.returns
returns c = level_split c.args.gray c.args.swing
