-- `lending::refreshes::drive_whole` meets its contract: transfers over all frames act as those frames.
use Rattle.lending.proofs.Walked.{driven_now}
use mathlib.Core.Path.{◌∙◌}
use borrow.Author.Rules.{rules}
use Rattle.lending.proofs.refreshes.drive_whole.Goals as goal

pub returns : goal.returns
returns c = c.drive_panel.ensures ∙ driven_now _ _ _ _ _ _ c.requires.0 c.transfer.ensures c.transfer-2.ensures c.transfer-3.ensures c.transfer-4.ensures c.args.p _ _ _ _ c.mapping.ensures c.requires.1
