-- `exports::handed::hand_over` meets its contract: each part's numbers.
use Rattle.exports.specs.Handed.{handed_of}
use borrow.Author.Rules.{rules}
use Rattle.exports.proofs.handed.hand_over.Goals as goal

pub returns : goal.returns
unfolding handed_of
returns c = simp (c.power_of_chip.ensures, c.variant_of_chip.ensures, c.image_numbers-image.ensures, c.operation_numbers-operation.ensures, c.current_of_chip-current.ensures)
