-- `vcd_values::times::size` meets its contract: by the time that the word is.
use mathlib.Core.Path.{sym}
use borrow.Author.Tests.{lt-ltb, le-ltb}
use Rattle.std.proofs.Common.{rules}
use Rattle.vcd_values.proofs.NumberLaws.{size_at, size_over, size_none}
use Rattle.vcd_values.proofs.times.size.Goals as goal

pub returns-then-n-gt1 : goal.returns-then-n-gt1
returns-then-n-gt1 c = let n = c.in-Some.n in rw (size_at c.args.word.now n (sym c.in-Some.ensures), lt-ltb 1 n c.if-n-gt1.true)

pub returns-else-n-gt1 : goal.returns-else-n-gt1
returns-else-n-gt1 c = let n = c.in-Some.n in rw (size_at c.args.word.now n (sym c.in-Some.ensures), le-ltb 1 n c.if-n-gt1.false)

pub returns-in-None : goal.returns-in-None
returns-in-None c = search (rules, size_over c.args.word.now (sym c.in-None.ensures), size_none c.args.word.now)
