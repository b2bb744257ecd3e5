-- `numbers::eights::eight` meets its contract: four less the old bit and twice the new one, byte by byte.
use Rattle.numbers.proofs.EightLaws.{eight_numbers}
use Rattle.numbers.proofs.eights.eight.Goals as goal

pub returns : goal.returns
returns c = eight_numbers _ _ _ _ c.spread-o.ensures c.spread-n.ensures
