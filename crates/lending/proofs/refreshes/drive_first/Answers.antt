-- `lending::refreshes::drive_first` meets its contract: transfers over the first frames act as those frames.
use Rattle.lending.proofs.Walked.{driven_now}
use mathlib.Core.Path.{◌∙◌}
use borrow.Author.Rules.{rules}
use Rattle.lending.proofs.refreshes.drive_first.Goals as goal

pub returns : goal.returns
returns c = c.drive_panel.ensures ∙ driven_now _ _ _ _ _ _ c.requires.0 c.transfer_first.ensures c.transfer_first-2.ensures c.transfer_first-3.ensures c.transfer_first-4.ensures c.args.p _ _ _ _ c.mapping.ensures c.requires.1
