-- `pixels::shade` meets its contract: a guess is at most 255, so both of its thresholds stand in the table, and they say whether it is the grey.
use mathlib.Core.Path.{sym}
use Rattle.pixels.proofs.GuessLaws.{guess, confirmed}
use Rattle.pixels.proofs.shade.Goals as goal

pub returns-then-x-from : goal.returns-then-x-from
returns-then-x-from c =
    let s = c in
    let few = guess s.args.scale _ s.requires.0 c.if-a-scale.true in
    sym (confirmed s.args.swing s.args.x _ s.args.from.now s.requires.1 few c.if-from-q.true c.if-x-from.true)
