-- A byte that is no newline is one more of the line.
use Rattle.std.proofs.Common.{arith}
use Rattle.files.proofs.FileLaws.{one_filled}
use Rattle.files.proofs.reading.read_line.Goals as goal

pub loop-held-preserved : goal.loop-held-preserved
loop-held-preserved g c =
    one_filled c.loop-held.held c.in-Some.b c.args.line.now c.loop-held.line c.loop-held.invariant
    (omega (arith, c.loop-held-test.true, c.loop-held.auto.line)) c.in-Some.b-test.1
