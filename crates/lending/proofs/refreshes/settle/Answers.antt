-- `lending::refreshes::settle` meets its contract, by how the glass is driven; where it is, a refresh ends, so the states are known to fit.
use Rattle.controller.specs.declared.drives.Drive.TheVariants as drive
use Rattle.lending.proofs.Settling.{whole_ends, first_ends, settled_by}
use mathlib.Core.Path.{refl, sym, ◌∙◌}
use borrow.Author.Rules.{rules}
use Rattle.lending.proofs.refreshes.settle.Goals as goal

pub drive_whole-requires : goal.drive_whole-requires
drive_whole-requires c = let g = c.args in (c.requires.0, c.requires.1 (whole_ends g.asserted g.at g.p (sym c.drive_at.ensures ∙ c.in-Whole.is)))

pub drive_first-requires : goal.drive_first-requires
drive_first-requires c = let g = c.args in (c.requires.0, c.requires.1 (first_ends g.asserted g.at g.p _ (sym c.drive_at.ensures ∙ c.in-First.is)))

pub returns-in-Nothing : goal.returns-in-Nothing
returns-in-Nothing c =
    let g = c.args in
    let whole = settled_by g.asserted g.at g.p drive.Nothing g.old.now g.new.now g.states.now g.picture.now (sym c.drive_at.ensures ∙ c.in-Nothing.is) refl refl refl in
    record { old_after = whole.0; states_after = whole.1.0; picture_after = whole.1.1 }

pub returns-in-Whole : goal.returns-in-Whole
returns-in-Whole c =
    let g = c.args in
    let whole = settled_by g.asserted g.at g.p drive.Whole g.old.now g.new.now g.states.now g.picture.now (sym c.drive_at.ensures ∙ c.in-Whole.is)
    c.copy_after.ensures c.drive_whole.ensures c.draw.ensures in
    record { old_after = whole.0; states_after = whole.1.0; picture_after = whole.1.1 }

pub returns-in-First : goal.returns-in-First
returns-in-First c =
    let g = c.args in
    let whole = settled_by g.asserted g.at g.p _ g.old.now g.new.now g.states.now g.picture.now (sym c.drive_at.ensures ∙ c.in-First.is)
    refl c.drive_first.ensures c.draw-in-First.ensures in
    record { old_after = whole.0; states_after = whole.1.0; picture_after = whole.1.1 }
