-- `exports::taken::taken` meets its contract: each part of its numbers.
use Rattle.exports.specs.Taken.{record_taken}
use borrow.Author.Rules.{rules}
use Rattle.exports.proofs.taken.taken.Goals as goal

pub returns : goal.returns
unfolding record_taken
returns c = simp (c.image_of-image.ensures, c.operation_of-operation.ensures, c.stage_of-stage.ensures, c.mode_of-mode.ensures, c.config_of-config.ensures)
