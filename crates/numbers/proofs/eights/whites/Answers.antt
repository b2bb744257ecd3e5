-- `numbers::eights::whites` meets its contract, by the laws of bits.
use native.Mathlib.Omega.{arith}
use Rattle.numbers.proofs.BitLaws.{zero_white}
use Rattle.numbers.proofs.eights.whites.Goals as goal

pub returns-in-0 : goal.returns-in-0
returns-in-0 c = λ k h. rw c.in-0.is (zero_white c.args.b k (omega arith) h)
