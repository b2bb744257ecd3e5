-- `showing::play::tested` meets its contract: what was read, and the word's own test.
use Rattle.showing.proofs.FileLaws.{program_number}
use Rattle.showing.proofs.play.tested.Goals as goal

pub returns : goal.returns
returns c = program_number c.args.file.now _ c.read.ensures c.args.form _ c.refusal.ensures
