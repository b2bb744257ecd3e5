-- `test_captures::pass` is safe and ends: fewer bytes are left after each turn.
use Rattle.test_captures.proofs.pass.Given as goal

abbrev pub decreases-loop-left : goal.decreases-loop-left
decreases-loop-left g l = l.left
