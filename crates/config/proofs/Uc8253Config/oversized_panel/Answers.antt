-- `config::Uc8253Config::oversized_panel` meets its contract: one of two tests.
use borrow.Author.Tests.{lt-ltb, le-ltb}
use Rattle.config.specs.Refusal.{oversized_panel}
use Rattle.config.proofs.Uc8253Config.oversized_panel.Goals as goal

pub returns-then-self-gt-RAM_SOURCES : goal.returns-then-self-gt-RAM_SOURCES
unfolding oversized_panel
returns-then-self-gt-RAM_SOURCES c = simp (lt-ltb _ _ c.if-self-gt-RAM_SOURCES.true)

pub returns-else-self-gt-RAM_SOURCES : goal.returns-else-self-gt-RAM_SOURCES
unfolding oversized_panel
returns-else-self-gt-RAM_SOURCES c = simp (le-ltb _ _ c.if-self-gt-RAM_SOURCES.false)
