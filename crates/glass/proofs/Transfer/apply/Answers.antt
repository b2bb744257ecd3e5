-- `glass::Transfer::apply` meets its contract: the sum is held to 64 bits before it is held to lo .. hi, which no end sees.
use native.Mathlib.Omega.{arith}
use Rattle.glass.proofs.TransferLaws.{act_is}
use Rattle.glass.proofs.Transfer.apply.Goals as goal

pub returns : goal.returns
returns c = omega (arith, act_is c.args.self c.args.state)
