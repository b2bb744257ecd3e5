-- `ram::ram_bit` meets its contract, by its two tests.
use Rattle.ram.specs.Found.{ram_bit}
use borrow.Author.Tests.{le-ltb, lt-ltb}
use Rattle.ram.proofs.ram_bit.Goals as goal

pub returns-then-x-ge-RAM_SOURCES : goal.returns-then-x-ge-RAM_SOURCES
unfolding ram_bit
returns-then-x-ge-RAM_SOURCES c = simp (le-ltb _ _ c.if-x-ge-RAM_SOURCES.true)

pub returns-then-y-ge-RAM_GATES : goal.returns-then-y-ge-RAM_GATES
unfolding ram_bit
returns-then-y-ge-RAM_GATES c = simp (lt-ltb _ _ c.if-x-ge-RAM_SOURCES.false, le-ltb _ _ c.if-y-ge-RAM_GATES.true)

pub returns : goal.returns
unfolding ram_bit
returns c = simp (lt-ltb _ _ c.if-x-ge-RAM_SOURCES.false, lt-ltb _ _ c.if-y-ge-RAM_GATES.false, c.bit.ensures)
