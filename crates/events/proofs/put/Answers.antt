-- `events::put` meets its contract: past the end nothing is put.
use mathlib.Core.Path.{sym}
use lib.Seq.{set_out}
use borrow.Author.Rules.{rules}
use Rattle.events.proofs.put.Goals as goal

pub returns-else-i-answers : goal.returns-else-i-answers
returns-else-i-answers c = sym (set_out _ _ _ c.if-i-answers.false)
