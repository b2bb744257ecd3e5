-- `numbers::eights::spread` meets its contract: a test of every byte.
use native.Mathlib.Omega.{arith}
use Rattle.numbers.proofs.EightLaws.{spread_is}
use Rattle.numbers.proofs.eights.spread.Goals as goal

pub returns : goal.returns
returns c = spread_is c.args.b (omega arith)
